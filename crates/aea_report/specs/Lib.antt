pub mod Format
pub mod Grammar
pub mod Faults
pub mod Fits
pub mod Printed
pub mod Laws
