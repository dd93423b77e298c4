-- Steps, and the fates after them, that are carried out in the order of their lists.
use Rattle.std.specs.Prelude.{◌≡◌, ◌||◌, ◌<◌, ◌≤◌, ℕ, List, [], ◌∷◌, ◌++◌, map, take, length, slice_get, Some, Err, Bool, false, IsTrue, IsOk}
use Rattle.aea_lattice.specs.declared.blocks.BlockId.{BlockId}
use Rattle.aea_lattice.specs.declared.blocks.EqId.{EqId}
use Rattle.aea_lattice.specs.Blocks.{HasBlock}
use Rattle.aea_lattice.specs.Closure.{is_among}
use Rattle.aea_disk.specs.Files.{Files}
use Rattle.aea_peel.specs.declared.plan.Step.{Step}
use Rattle.aea_gauss.specs.declared.fates.Fate.{Fate}
use Rattle.aea_gauss.specs.declared.fates.Fate.TheVariants.{Sum}
use Rattle.aea_ledger.specs.Values.{Opened}
use Rattle.aea_restore.specs.declared.fault.RestoreFault.TheVariants.{Clash}
use Rattle.aea_restore.specs.Given.{blocks_summed}
use Rattle.aea_restore.specs.Drawn.{other_blocks}
use Rattle.aea_restore.specs.Judged.{IsJudged, IsComputed, IsFound}
use Rattle.aea_restore.specs.Repairs.{Answer}
use Rattle.aea_restore.specs.UnderWay.{IsUnderWay}

-- a step, as the sum of its one equation
abbrev pub sum_of : Step → Fate
sum_of s = Sum s.block (s.by ∷ [])

-- the steps as sums, and the fates after them
abbrev pub all_sums : List Step → List Fate → List Fate
all_sums steps fates = map sum_of steps ++ fates

-- whether the block is marked at first, or one of the first k sums gives it
abbrev pub is_had_by : (BlockId → Bool) → List Fate → ℕ → BlockId → Bool
is_had_by marked all k b = marked b || is_among (blocks_summed (take k all)) b

-- The block was restored when these blocks could be read: each payload that was read for it was judged, and so was the one that
-- was computed. Where the disk's contents are known, that is so in the files as they were then, with all that had been restored
-- before, and all else as at first.
pub record IsRestoredFrom (reveals : Type 0) (v : Opened) (known ready : BlockId → Bool) (first : Files) (b : BlockId) (equations : List EqId) : Type 0 where
  pub now : Files
  pub way : reveals → IsUnderWay v known ready first now
  pub computed : IsComputed reveals v now ready b equations

-- Each of the first `count` sums whose block is not had before it restored this block from the blocks that are had then.
abbrev pub AreRestoredFrom : Type 0 → Opened → (BlockId → Bool) → (BlockId → Bool) → Files → List Fate → ℕ → Type 0
AreRestoredFrom reveals v known marked first all count =
    (k : ℕ) (b : BlockId) (equations : List EqId) → k < count → slice_get all k ≡ Some (Sum b equations) → is_had_by marked all k b ≡ false
    → IsRestoredFrom reveals v known (is_had_by marked all k) first b equations

-- The clash came at the next sum after the first `count`, while its block was computed from the blocks that were had then. A
-- block that was read and is found so was marked at first, since what was restored before is intact.
pub record ClashesAt (reveals : Type 0) (v : Opened) (known marked : BlockId → Bool) (first : Files) (all : List Fate) (count : ℕ) (d : BlockId) (revealed computed : List ℕ) : Type 0 where
  pub block : BlockId
  pub equations : List EqId
  pub next : slice_get all count ≡ Some (Sum block equations)
  pub fresh : is_had_by marked all count block ≡ false
  pub now : Files
  pub way : reveals → IsUnderWay v known (is_had_by marked all count) first now
  pub found : IsFound reveals v now (is_had_by marked all count) block equations d revealed computed

-- “In order”: the first `count` of the sums were carried out, one after the other, all where the result is Ok. What is marked
-- then is what was marked and what they give; each of their blocks was computed from judged payloads; and a clash is one that
-- came at the next of them.
pub record GoInOrder (reveals : Type 0) (v : Opened) (known marked after : BlockId → Bool) (first : Files) (all : List Fate) (result : Answer) : Type 0 where
  pub count : ℕ
  pub most : count ≤ length all
  pub whole : IsOk result → count ≡ length all
  pub marks : (d : BlockId) → HasBlock v.lattice d → after d ≡ is_had_by marked all count d
  pub each : AreRestoredFrom reveals v known marked first all count
  pub clash : (d : BlockId) (revealed computed : List ℕ) → result ≡ Err (Clash d revealed computed) → ClashesAt reveals v known marked first all count d revealed computed

-- “What is read is judged before it is used”: each block that was marked at first, and that stands beside the block of a sum
-- which was carried out, had at first a payload with the digest that the ledger keeps of it.
abbrev pub AreReadJudged : Type 0 → Opened → (BlockId → Bool) → Files → List Fate → Type 0
AreReadJudged reveals v marked first all =
    (k : ℕ) (b d : BlockId) (equations : List EqId) → slice_get all k ≡ Some (Sum b equations) → is_had_by marked all k b ≡ false
    → HasBlock v.lattice d → IsTrue (marked d) → IsTrue (is_among (other_blocks v.lattice (is_had_by marked all k) b equations) d)
    → (payload : List ℕ) × IsJudged reveals v first d payload
