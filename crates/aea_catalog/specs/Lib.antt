pub mod Names
pub mod Catalogs
pub mod Pieces
pub mod Kept
