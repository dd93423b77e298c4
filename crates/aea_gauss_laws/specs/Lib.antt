pub mod Parities
pub mod Sums
