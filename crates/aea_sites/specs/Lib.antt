pub mod Losses
pub mod Sites
pub mod Laws
pub mod Counts
pub mod Passes
pub mod Words
