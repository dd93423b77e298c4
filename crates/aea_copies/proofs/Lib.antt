pub mod Ranges
pub mod Chains
pub mod Entries
pub mod Agreeing
pub mod Judged
mod Decided
