pub mod Changes
pub mod Anew
pub mod Entries
pub mod Parts
pub mod Pieces
