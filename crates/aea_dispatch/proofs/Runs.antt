-- What holds of a run of each command, from what its own call ensures.
mod Unrefused
pub mod Create
pub mod Drill
pub mod Explain
pub mod Fence
pub mod Get
pub mod Fetch
pub mod Ingest
pub mod Put
pub mod Repair
pub mod Scrub
pub mod Stat
pub mod Upgrade
pub mod Verify
pub mod List
pub mod Rehearse
pub mod Sites
pub mod Session
pub mod Copies
