pub mod Began
pub mod Growing
pub mod Writing
pub mod Replying
pub mod Causing
pub mod Opening
mod Chaining
