pub mod OneMore
pub mod Stretches
mod Judging
mod Turns
mod Numbers
mod Spelling
mod Names
mod Shapes
mod Pieces
pub mod Sizes
mod ObjectBodies
mod Spelled
mod Objects
mod Fronts
mod Extents
mod Read
mod Gates
mod Behind
mod Steps
mod Examples
mod Windows
mod Headers
mod Rests
mod Counts
pub mod Shortness
mod Placing
mod Tails
mod Whole
mod Ceilings
mod Fencing
