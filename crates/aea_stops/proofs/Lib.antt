pub mod Chains
pub mod Serving
pub mod KeptBlocks
pub mod GoingOn
