pub mod Woven
pub mod Sums
pub mod Stored
pub mod Runs
