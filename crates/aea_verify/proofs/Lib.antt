pub mod Open
pub mod Judged
pub mod Lines
pub mod Tallied
pub mod Agree
pub mod Verified
pub mod Going
