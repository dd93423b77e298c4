-- How the second pass of a fetch fails. No public contract cites these.
use Rattle.std.specs.Prelude.{◌≡◌, ◌⊎◌, ℕ, List}
use Rattle.aea_lattice.specs.declared.blocks.BlockId.{BlockId}
use Rattle.aea_ledger.specs.Values.{Opened}
use Rattle.aea_restore.specs.Drawn.{IsOtherDigest}
use Rattle.aea_degraded.specs.declared.fault.PayloadFault.{PayloadFault}
use Rattle.aea_degraded.specs.declared.fault.PayloadFault.TheVariants as payload
use Rattle.aea_degraded.specs.declared.fault.FetchFault.{FetchFault}
use Rattle.aea_degraded.specs.declared.fault.FetchFault.TheVariants.{Clash, WriteFault, DiskFault}

-- two digests differ, the output failed, or the disk did
abbrev pub IsSendFault : FetchFault → Type 0
IsSendFault fault =
    ((b : BlockId) × (revealed : List ℕ) × (computed : List ℕ) × (fault ≡ Clash b revealed computed)) ⊎ ((fault ≡ WriteFault) ⊎ (fault ≡ DiskFault))

-- What a fault of a payload says: a clash is one of two digests that differ, the first of them the ledger's; and there is none where the
-- disk's contents are known.
abbrev pub IsPlanFault : Type 0 → Opened → PayloadFault → Type 0
IsPlanFault reveals v (payload.Clash b recorded computed) = IsOtherDigest v b recorded computed × (reveals → ⊥)
IsPlanFault reveals v payload.DiskFault = Unit {0}

-- a fault of a payload as one of a fetch
abbrev pub fetch_fault : PayloadFault → FetchFault
fetch_fault (payload.Clash b recorded computed) = Clash b recorded computed
fetch_fault payload.DiskFault = DiskFault
