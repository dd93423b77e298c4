pub mod Fails
pub mod Listed
pub mod Pages
pub mod Spaces
pub mod Streams
pub mod Sure
pub mod Taken
pub mod Written
