pub mod Filling
pub mod Forcing
pub mod Lowest
pub mod Nexts
pub mod Packed
pub mod Marking
mod Whole
