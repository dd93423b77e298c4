-- A copy is extended by three calls: entries, a sync, and the gate. What they change and need together.
use Rattle.std.proofs.Common.{◌≡◌, ℕ, ◌+◌, ◌-◌, ◌≤◌, ◌==◌, false, List, [], ◌∷◌, length, take, drop, get_or, ap, ◌∙◌, subst, arith}
use Rattle.std.proofs.lemmas.Bool.{ne_eqb}
use Rattle.aea_disk.specs.Files.{Files, ChangesFile, ChangesOnly, Holds, Torn, overwritten}
use Rattle.aea_disk.specs.Frames.{OnlyReads, OnlyWrites}
use Rattle.aea_disk.specs.State.{State, IsReady}
use Rattle.aea_disk.specs.Steps.{holds_torn, range-overwritten, get_or-overwritten_at}
use Rattle.aea_disk.proofs.Frames.{writes_wider, writes_then_reads, writes_both}
use Rattle.aea_records.specs.Format.{open_gate}
use Rattle.aea_records.specs.TableLaws.{AreBytes}
use Rattle.aea_copies.specs.Format.{text_of}
use Rattle.aea_copy_writer.specs.declared.entries.Written.{Written}
use Rattle.aea_copy_writer.specs.Changes.{FitsChange}
use Rattle.aea_copy_writer.specs.Entries.{HasPieces, HasWritten, FitsEntries, after_gate}
use Rattle.aea_copy_writer.specs.Parts.{part_of}
use Rattle.aea_mirror.specs.Extending.{HasEntries}
use Rattle.aea_mirror.proofs.Staging.{torn_entries}

-- a change of one file changes no other
pub entries_only : (reveals taken fits fault : Type 0) (file : ℕ) (step : List ℕ → List ℕ → Type 0) (s a : State) → OnlyWrites reveals taken fits fault (ChangesFile file step) s a → OnlyWrites reveals taken fits fault (ChangesOnly file) s a
entries_only reveals taken fits fault file step s a writes =
    writes_wider reveals taken fits taken fits fault (ChangesFile file step) (ChangesOnly file) s a (λ c d changes. changes.others) (λ revealed is. is) (λ revealed fit. fit) writes

pub then_sync : (reveals fault late : Type 0) (file gate : ℕ) (link : List ℕ) (from until : ℕ) (s a b : State) → (fault → ⊥) → (a.free → IsReady a)
    → OnlyWrites reveals s.free (FitsEntries s file gate link from until) fault (ChangesOnly file) s a → OnlyReads reveals late a b → OnlyWrites reveals s.free (FitsEntries s file gate link from until) late (ChangesOnly file) s b
then_sync reveals fault late file gate link from until s a b fine ready writes reads =
    writes_then_reads reveals s.free (FitsEntries s file gate link from until) fault late (ChangesOnly file) s a b fine
    (λ revealed free step takes. ready (writes.time.free free))
    (λ revealed fit step passes. record { some = (file, _, passes.room file _ fit.change.room); sync = passes.syncs (a.files 0) (fit.change.sync a.files step) })
    writes reads

pub then_open : (reveals fault late : Type 0) (file gate : ℕ) (link : List ℕ) (from until : ℕ) (s b n : State) → (fault → ⊥) → ((f m k : ℕ) → m ≤ k → b.room f k → b.room f m)
    → OnlyWrites reveals s.free (FitsEntries s file gate link from until) fault (ChangesOnly file) s b → OnlyWrites reveals b.free (FitsChange b file (gate + 1)) late (ChangesFile file (Torn gate 1)) b n
    → OnlyWrites reveals s.free (FitsEntries s file gate link from until) late (ChangesOnly file) s n
then_open reveals fault late file gate link from until s b n fine smaller writes opens =
    writes_both reveals s.free s.free b.free (FitsEntries s file gate link from until) (FitsEntries s file gate link from until) (FitsChange b file (gate + 1)) fault late
    (ChangesOnly file) (ChangesFile file (Torn gate 1)) (ChangesOnly file) s b n fine
    (λ c d step. step) (λ c d e one two f other. two.others f other ∙ one f other)
    (λ revealed free. free) (λ revealed free step takes. writes.time.free free)
    (λ revealed fit. fit)
    (λ revealed fit step passes. record {
      room = smaller file (gate + 1) _ (omega arith) (passes.room file _ fit.change.room);
      sync = λ c changes. passes.syncs (c 0) (fit.change.sync c (λ f other. changes f other ∙ step f other));
    })
    writes opens

-- a place past the header is no first one
pub not_first : (from : ℕ) → 1 ≤ from → (from == 0) ≡ false
not_first from some = ne_eqb from 0 (λ is. omega (arith, some, is))

pub as_further : (pieces : List (List ℕ)) (from until : ℕ) (ledger : List ℕ) → 1 ≤ from → HasPieces false pieces from until ledger → HasPieces (from == 0) pieces from until ledger
as_further pieces from until ledger some has = rw (not_first from some) has

-- the entries that were written
pub entries_there : (file gate : ℕ) (link : List ℕ) (more : List (List ℕ)) (from until : ℕ) (w : Written) (old new : Files) → HasPieces false more from until (old 0) → HasWritten file gate link more w old new
    → AreBytes (part_of (old 0) from (until - from)) → HasEntries gate link more (new file)
entries_there file gate link more from until w old new has written bytes = record {
  entries = ap (λ (l : List ℕ). take (length (after_gate link more)) (drop (gate + 1) l)) written.step.here ∙ range-overwritten (old file) (gate + 1) (after_gate link more);
  are = subst AreBytes (ap (λ (n : ℕ). take n (drop from (old 0))) (let e : until - from ≡ length (text_of more) = omega (arith, has.place) in e) ∙ has.there) bytes;
}

-- and the gate that was opened
pub opened_there : (file gate : ℕ) (link : List ℕ) (more : List (List ℕ)) (old new : Files) → HasEntries gate link more (old file) → ChangesFile file (Holds gate (1 ∷ [])) old new → (get_or (new file) gate 0 ≡ open_gate) × HasEntries gate link more (new file)
opened_there file gate link more old new has opens = (
  ap (λ (l : List ℕ). get_or l gate 0) opens.here ∙ ap (λ (n : ℕ). get_or (overwritten (old file) gate (1 ∷ [])) n 0) (let e : gate ≡ gate + 0 = omega arith in e) ∙ get_or-overwritten_at (old file) gate (1 ∷ []) 0 (omega arith),
  torn_entries gate link more (old file) (new file) has (holds_torn gate (1 ∷ []) (old file) (new file) opens.here),
)
