pub mod Rules
pub mod Shown
pub mod Tallies
pub mod Judged
pub mod Answers
