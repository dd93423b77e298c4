pub mod States
pub mod Queues
mod Around
