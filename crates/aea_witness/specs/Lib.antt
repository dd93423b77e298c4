pub mod Objects
pub mod Rooms
pub mod Streams
pub mod Losses
pub mod Witnessed
