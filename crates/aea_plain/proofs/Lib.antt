pub mod Rows
pub mod Places
pub mod Scans
pub mod Marks
pub mod Examples
pub mod Parities
