mod Around
mod Keeping
mod Waiting
pub mod Going
pub mod Fated
