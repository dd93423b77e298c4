pub mod Standing
pub mod Logs
pub mod Meeting
pub mod Sessions
pub mod Copies
