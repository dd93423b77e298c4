-- What a fetch has found out before its second pass: marks of the damaged blocks that its search found, and the fates of these.
-- No public contract cites these.
use Rattle.std.specs.Prelude.{◌≡◌, ◌⊎◌, ℕ, Bool, true, not, List, All, Contains}
use Rattle.aea_lattice.specs.declared.blocks.BlockId.{BlockId}
use Rattle.aea_lattice.specs.declared.grid.Lattice.{Lattice}
use Rattle.aea_view.specs.Marked.{Marked, is_marked}
use Rattle.aea_disk.specs.Files.{Files}
use Rattle.aea_envelope.specs.Cells.{block_digest}
use Rattle.aea_ledger.specs.Values.{Opened}
use Rattle.aea_archive.specs.Blocks.{recorded_in, RevealsSurvivors}
use Rattle.aea_gauss.specs.declared.fates.Fate.{Fate}
use Rattle.aea_gauss.specs.declared.fates.Fate.TheVariants.{Word}
use Rattle.aea_gauss.specs.Fates.{AreFates, IsFate, block_of_fate}
use Rattle.aea_degraded.specs.Summed.{sum_at}
use Rattle.aea_degraded.specs.Found.{IsFoundBy}
use Rattle.aea_degraded.specs.declared.fault.FetchFault.{FetchFault}
use Rattle.aea_degraded.specs.declared.fault.FetchFault.TheVariants.{Undetermined, Clash, DiskFault, NoMemory}

-- The fates are those of the marked blocks where all others are known.
abbrev pub AreFatesOf : Lattice → Marked → List Fate → Type 0
AreFatesOf l damaged fates = AreFates l (λ d. not (is_marked damaged d)) fates

-- no fate of the block is listed nodes
abbrev pub IsGiven : List Fate → BlockId → Type 0
IsGiven fates b = (nodes : List ℕ) → Contains fates (Word b nodes) → ⊥

-- What was found out is right for the intact blocks, which the test distinguishes: each fate is that of its block where these are
-- known, and of the given blocks those are marked that are not among them.
pub record IsRightPlan (v : Opened) (c : Files) (damaged : Marked) (fates : List Fate) (blocks : List BlockId) (known : BlockId → Bool) : Type 0 where
  pub survivors : RevealsSurvivors v.shape v.lattice.n v.digests c known
  pub right : All (IsFate v.lattice known) fates
  pub marked : All (λ b. known b ≡ not (is_marked damaged b)) blocks

-- where the block is marked, the sum that its fate is has the digest that the ledger keeps of it
abbrev pub IsChecked : Opened → Files → Marked → List Fate → BlockId → Type 0
IsChecked v c damaged fates b =
    is_marked damaged b ≡ true → (fate : Fate) → Contains fates fate → block_of_fate fate ≡ b → block_digest b (sum_at v.lattice v.shape c fate) ≡ recorded_in v.shape v.digests b

-- The second pass may ask for the block: no fate of it is listed nodes, and where the disk's contents are known, what was found out is
-- right for the intact blocks, and the block is checked.
pub record IsPlanned (reveals : Type 0) (v : Opened) (c : Files) (damaged : Marked) (fates : List Fate) (b : BlockId) : Type 0 where
  pub lattice : damaged.lattice ≡ v.lattice
  pub are : AreFatesOf v.lattice damaged fates
  pub given : IsGiven fates b
  pub right : reveals → (known : BlockId → Bool) → RevealsSurvivors v.shape v.lattice.n v.digests c known → IsFoundBy v c damaged fates b known
  pub checked : reveals → IsChecked v c damaged fates b

-- how the first pass of a fetch fails: a data block is not determined, two digests differ, the disk failed, or memory ran out
abbrev pub IsFirstFault : FetchFault → Type 0
IsFirstFault fault =
    ((b : BlockId) × (nodes : List ℕ) × (fault ≡ Undetermined b nodes)) ⊎ (((b : BlockId) × (revealed : List ℕ) × (computed : List ℕ) × (fault ≡ Clash b revealed computed)) ⊎ ((fault ≡ DiskFault) ⊎ (fault ≡ NoMemory)))
