pub mod Words
pub mod Heads
pub mod Pieces
pub mod Places
pub mod Readings
