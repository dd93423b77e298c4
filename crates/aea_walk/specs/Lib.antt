pub mod Codewords
pub mod Missing
pub mod Stretches
