pub mod Cells
mod Changes
pub mod Held
mod Homes
pub mod Runs
