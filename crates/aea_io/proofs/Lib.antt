pub mod Pieces
pub mod Puts
pub mod Takes
pub mod Printing
