pub mod Places
pub mod Orders
pub mod Pieces
pub mod Catalogues
pub mod Searches
pub mod Texts
