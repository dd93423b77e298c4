pub mod Pieces
pub mod Places
pub mod Weaving
pub mod Lanes
