pub mod Blocks
pub mod Lasts
pub mod Next
pub mod Cells
pub mod Stretches
pub mod Data
pub mod Objects
pub mod Laws
