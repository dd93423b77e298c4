pub mod Failures
pub mod Standing
pub mod Closes
pub mod Causes
pub mod Space
pub mod Session
pub mod Chains
