mod ListParts
pub mod CellLemmas
