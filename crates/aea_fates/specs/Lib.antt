pub mod Sums
pub mod Live
pub mod Laws
