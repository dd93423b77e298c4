pub mod Summed
pub mod Faults
pub mod Found
pub mod Fetched
pub mod Planned
pub mod Sent
