pub mod StatLemmas
pub mod ScrubLemmas
pub mod GetLemmas
pub mod FetchLemmas
pub mod ListLemmas
