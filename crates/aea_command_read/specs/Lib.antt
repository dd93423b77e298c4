pub mod Stat
pub mod Scrub
pub mod Get
pub mod Fetch
pub mod List
