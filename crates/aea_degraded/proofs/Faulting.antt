-- Faults as faults of payloads.
use Rattle.std.proofs.Common.{◌≡◌, ℕ, List}
use Rattle.aea_lattice.specs.declared.blocks.BlockId.{BlockId}
use Rattle.aea_restore.specs.declared.fault.RestoreFault.{RestoreFault}
use Rattle.aea_restore.specs.declared.fault.RestoreFault.TheVariants as restore
use Rattle.aea_degraded.specs.declared.fault.PayloadFault.TheVariants.{Clash}
use Rattle.aea_degraded.specs.Faults.{payload_fault}

-- a clash is of a clash
pub clash_of : (f : RestoreFault) (d : BlockId) (revealed computed : List ℕ) → payload_fault f ≡ Clash d revealed computed → f ≡ restore.Clash d revealed computed
clash_of (restore.Clash b recorded other) d revealed computed is = cc
clash_of restore.DiskFault d revealed computed is = absurd (cc)
