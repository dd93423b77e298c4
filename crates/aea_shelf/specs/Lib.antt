pub mod Places
pub mod Intact
pub mod Honest
pub mod Writes
pub mod Facts
