pub mod Plans
pub mod Queue
