mod States
mod ReportRoom
pub mod Homes
mod Turning
mod Going
pub mod Built
mod Struck
mod Tests
mod Mending
pub mod Ending
pub mod Fresh
