pub mod Sets
pub mod Marks
