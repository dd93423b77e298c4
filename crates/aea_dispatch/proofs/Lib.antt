pub mod Commands
pub mod Runs
pub mod Uses
pub mod Alike
mod Sparing
