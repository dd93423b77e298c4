pub mod Format
pub mod Grammar
pub mod Laws
pub mod Kept
