pub mod Choosing
pub mod Adopting
pub mod Mending
pub mod Keeping
pub mod Adopts
