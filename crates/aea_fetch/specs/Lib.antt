pub mod Cursors
pub mod Payloads
pub mod Cells
pub mod Copies
pub mod Gets
pub mod Puts
