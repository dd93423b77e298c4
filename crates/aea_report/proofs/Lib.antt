mod Writes
pub mod PrintedFits
mod PrintedOnce
mod PrintedReports
mod Splits
mod Plain
mod Readings
mod Short
mod Beginnings
mod Decisions
mod Heads
mod Lines
mod Following
mod Judging
