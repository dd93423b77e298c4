pub mod Cells
pub mod Writes
pub mod Stretches
pub mod Values
pub mod Pieces
mod Objects
mod Digests
pub mod Records
mod Runs
pub mod Honest
mod Revealed
