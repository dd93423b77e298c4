pub mod Columns
pub mod Given
pub mod Bits
pub mod Determined
