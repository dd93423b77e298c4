pub mod Verdicts
pub mod Plans
pub mod Texts
