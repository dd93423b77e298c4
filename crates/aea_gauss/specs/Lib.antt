pub mod Fates
pub mod Fills
pub mod Revealed
pub mod Parts
pub mod Lost
pub mod Outputs
pub mod Batches
