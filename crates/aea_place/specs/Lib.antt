pub mod Homes
pub mod Facts
