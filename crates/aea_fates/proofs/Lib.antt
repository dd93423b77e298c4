pub mod Kept
pub mod Listing
pub mod Only
pub mod Stay
pub mod Given
pub mod Parts
