pub mod Generator
pub mod Rehearsed
pub mod Rooms
pub mod Building
pub mod Altered
pub mod Checking
