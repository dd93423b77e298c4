pub mod Rows
pub mod Passes
pub mod Places
pub mod Tags
pub mod Vectors
pub mod Backs
pub mod Sums
pub mod Lists
