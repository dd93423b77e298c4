pub mod DrillLemmas
pub mod RepairLemmas
pub mod ExplainLemmas
pub mod VerifyLemmas
pub mod RehearseLemmas
pub mod SitesLemmas
