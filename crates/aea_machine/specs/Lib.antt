pub mod Closings
pub mod Holding
pub mod Machine
pub mod Refusals
pub mod Replies
pub mod Runs
pub mod Solo
pub mod Sound
