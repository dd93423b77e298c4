pub mod Words
pub mod Does
pub mod Sound
pub mod Sparing
