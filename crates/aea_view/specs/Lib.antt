pub mod Presence
pub mod Bits
pub mod Marked
