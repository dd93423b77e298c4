pub mod Gathering
pub mod Laws
pub mod Slots
