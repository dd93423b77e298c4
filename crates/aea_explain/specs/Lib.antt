pub mod Around
pub mod Explained
