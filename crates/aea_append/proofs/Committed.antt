-- What was taken and woven, and then committed: where its record ends, and what is written.
use Rattle.std.proofs.Common.{◌≡◌, ℕ, ◌+◌, ◌-◌, ◌*◌, ◌≤◌, List, length, Option, None, Some, sym, ◌∙◌, ap, subst, arith}
use Rattle.std.specs.Io.KnownBytes.{IsAtEnd}
use Rattle.sha2.proofs.Facts256.{length-sha256}
use Rattle.aea_disk.specs.Files.{ChangesOnly}
use Rattle.aea_disk.specs.State.{State, IsReady}
use Rattle.aea_disk.specs.Frames.{OnlyWrites}
use Rattle.aea_weave.specs.Woven.{Woven}
use Rattle.aea_records.specs.Format.{Object, nodes_for, limit_when, entry}
use Rattle.aea_ledger.specs.Values.{Opened}
use Rattle.aea_ledger.specs.Next.{next_stored}
use Rattle.aea_ledger.specs.Taking.{FitsAdding}
use Rattle.aea_archive.specs.Blocks.{IsBlockIn}
use Rattle.aea_archive.specs.Cells.{IsBesides, ChangesArchive, WritesCells}
use Rattle.aea_archive.specs.Lasts.{AreLastsIntact}
use Rattle.aea_append.specs.Taking.{TakesObject}
use Rattle.aea_append.specs.Causes.{MayEnter, HasWantedRoom, next_end}
use Rattle.aea_append.proofs.Wanted.{wanted_ledger}
use Rattle.aea_append.proofs.Leaving.{both_write}

-- what was taken, with its digests under another name
pub taken_with : (reveals : Type 0) (v : Opened) (k : ℕ) (digest : List ℕ) (left rest : Option (List ℕ)) (digests given : List (List ℕ)) (old mid : State) (heads : Woven) → given ≡ digests
    → TakesObject reveals v.shape v.lattice v.digests k digest left rest digests old.files mid.files heads → TakesObject reveals v.shape v.lattice v.digests k digest left rest given old.files mid.files heads
taken_with reveals v k digest left rest digests given old mid heads same took =
    subst (λ (d : List (List ℕ)). TakesObject reveals v.shape v.lattice v.digests k digest left rest d old.files mid.files heads) (sym same) took

module _ (reveals : Type 0) (v : Opened) (name : List ℕ) (k count : ℕ) (digest : List ℕ) (left rest : Option (List ℕ)) (digests : List (List ℕ)) (old mid : State) (counted : count ≡ nodes_for v.shape k)
    {heads : Woven} (t : TakesObject reveals v.shape v.lattice v.digests k digest left rest digests old.files mid.files heads)
    (size : length digest ≡ 32 → length (entry (Object (next_stored v name k digest count digests))) ≡ 56 + length name + 32 * length digests) where
  -- where the record ends that is committed
  pub record_end : next_end v.end (length name) (nodes_for v.shape (length t.bytes) * (1 + v.shape.alpha)) ≡ v.end + length (entry (Object (next_stored v name k digest count digests)))
  record_end =
      let nodes = t.nodes in
      let rows : heads.lattice.n - v.lattice.n ≡ nodes_for v.shape (length t.bytes) = omega (arith, nodes, ap (nodes_for v.shape) t.long) in
      let long : length digests ≡ nodes_for v.shape (length t.bytes) * (1 + v.shape.alpha) = t.woven.digests_are.long ∙ ap (λ (n : ℕ). n * (1 + v.shape.alpha)) rows in
      omega (arith, size (ap length t.digest_is ∙ length-sha256 t.bytes), long)

  -- cells were written, and then the record, of all that is wanted
  pub commits : (want : Option ℕ) (new : State) (first second : Type 0) → (first → ⊥) → MayEnter v name → (reveals → AreLastsIntact v.shape v.lattice v.digests old.files) → (want ≡ None → IsAtEnd rest)
      → ((n : ℕ) → want ≡ Some n → k ≡ n) → v.lattice.n + count ≤ limit_when v.raised → WritesCells reveals v.shape (limit_when v.raised) (IsBlockIn v.shape v.lattice.n) first old mid
      → OnlyWrites reveals (IsReady mid) (FitsAdding mid 1 (v.end + length (entry (Object (next_stored v name k digest count digests))))) second (ChangesOnly 0) mid new
      → OnlyWrites reveals (IsReady old) (HasWantedRoom v name want left rest old) second (ChangesArchive v.shape (limit_when v.raised) (IsBlockIn v.shape v.lattice.n) (IsBesides v.shape)) old new
  commits want new first second fine enters intact end all fits cells commit =
      both_write reveals first second v name want left rest (v.end + length (entry (Object (next_stored v name k digest count digests)))) old mid new fine cells commit
      (λ revealed has. subst (FitsAdding old 1) record_end
      (wanted_ledger v name want left rest old has t.bytes t.taken end (λ n is. t.long ∙ all n is) enters (intact revealed) (omega (arith, fits, counted, ap (nodes_for v.shape) t.long))))
