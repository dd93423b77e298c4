pub mod Heads
pub mod Seen
pub mod Taking
pub mod Judging
pub mod Comparing
pub mod Walking
