-- A Mirror whose copies were begun.
use Rattle.std.proofs.Common.{◌≡◌, ◌≢◌, ℕ, ◌+◌, Bool, true, false, List, length, get_or, sym, ap, ◌∙◌, subst}
use Rattle.std.proofs.Props.{props}
use Rattle.std.proofs.Math.Logic.{∥∥₁_elim}
use Rattle.std.specs.Prelude.{Ok, Err}
use Rattle.aea_faults.specs.Faults.{HasCause}
use Rattle.aea_disk.specs.Ends.{EndsAt}
use Rattle.aea_disk.specs.Files.{Files}
use Rattle.aea_disk.specs.Frames.{OnlyWrites}
use Rattle.aea_disk.specs.State.{State, KeepsImages, IsSynced}
use Rattle.aea_records.specs.TableLaws.{AreBytes}
use Rattle.aea_copies.specs.Kept.{IsGood}
use Rattle.aea_copy_writer.specs.Anew.{CanMake}
use Rattle.aea_copy_writer.specs.Parts.{part_of}
use Rattle.aea_mirror.specs.declared.tail.Tail.{Tail}
use Rattle.aea_mirror.specs.Guarding.{AreFixed, Guards}
use Rattle.aea_mirror.specs.Mirrored.{Kept, mirror_state}
use Rattle.aea_mirror.specs.Shown.{NoneBegun}
use Rattle.aea_mirror.specs.Starting.{ArePiecesOf, HasStarted, ShowsNoMore}
use Rattle.aea_mirror.proofs.Adopting.{guards_whole}
use Rattle.aea_mirror.proofs.Calls.{refused_keeps}
use Rattle.aea_mirror.proofs.Catching.{whole_kept}
use Rattle.aea_mirror.proofs.Syncing.{sync_durable}
use Rattle.aea_mirror.proofs.Wholes.{ledger_pieces, pieces_are, text_begins, whole_copies_are_good}

-- what a Mirror knows where copies are off
pub off_none : (s : State) (on : Bool) (end : ℕ) (first second : Tail) → on ≡ false → ∥ Guards s on end first second ∥₁ → NoneBegun s.files
off_none s on end first second off guards = ∥∥₁_elim guards (Prim.hlevel props) (λ was. (was.off off).none)

pub off_fixed : (s : State) (on : Bool) (end : ℕ) (first second : Tail) → on ≡ false → ∥ Guards s on end first second ∥₁ → AreFixed s
off_fixed s on end first second off guards = ∥∥₁_elim guards (Prim.hlevel props) (λ was. (was.off off).fixed)

-- it shows nothing that it might not show before
pub started_keeps : (reveals : Type 0) (r n : State) (k l : Kept) → (reveals → ShowsNoMore r n) → KeepsImages (mirror_state reveals r k) (mirror_state reveals n l)
started_keeps reveals r n k l shows t c from to here =
    let was = shows here.0 t here.1.0 c from to here.1.1 here.1.2 in (here.0, (was.0, was.1, was.2))

-- nor where the lent disk was not called
pub idle_keeps : (reveals : Type 0) (r n : State) (k l : Kept) → n ≡ r → KeepsImages (mirror_state reveals r k) (mirror_state reveals n l)
idle_keeps reveals r n k l same = subst (λ (u : State). KeepsImages (mirror_state reveals r k) (mirror_state reveals u l)) (sym same) (refused_keeps reveals r k l)

-- ---- once both copies are whole

module _ (r n : State) (end : ℕ) (first second : Tail) (ends : EndsAt (r.files 0) end) (bytes : AreBytes (part_of (r.files 0) 0 end))
    (made : (last : ℕ) (pieces : List (List ℕ)) → EndsAt (r.files 0) last → CanMake pieces last (r.files 0) → HasStarted pieces end first second n.files)
    (synced : IsSynced n) (ledger : n.files 0 ≡ r.files 0) where
  here : (pieces : List (List ℕ)) × CanMake pieces end (r.files 0) × (length pieces ≡ ends.records + 1)
  here = ledger_pieces (r.files 0) end ends

  are : ArePiecesOf (r.files 0) here.0
  are = pieces_are (r.files 0) end here.0 ends here.1 bytes

  -- the pieces of the ledger are in both
  pub started_pieces : (pieces : List (List ℕ)) × ArePiecesOf (r.files 0) pieces × HasStarted pieces end first second n.files
  started_pieces = (here.0, are, made end here.0 ends here.1)

  -- what the Mirror knows then
  pub started_knows : Guards n true end first second
  started_knows =
      let has = made end here.0 ends here.1 in
      guards_whole n here.0 end first second synced
      (λ f is. subst (IsGood here.0) (sym (has.whole f is)) (whole_copies_are_good here.0 are.can))
      (text_begins _ (n.files 0) (record { gate = are.text.gate; closed = are.text.closed; after = are.text.after; spelling = ledger ∙ are.text.spelling })) has.text has.one has.two

  pub started_shut : get_or (n.files 0) end 0 ≢ 1
  started_shut is = ends.shut (ap (λ (l : List ℕ). get_or l end 0) (sym ledger) ∙ is)

-- and the files are shown as they read
pub started_durable : (reveals : Type 0) (n : State) (l : Kept) (end : ℕ) (first second : Tail) → (reveals → IsSynced n) → (reveals → ∥ Guards n true end first second ∥₁) → (reveals → get_or (n.files 0) end 0 ≢ 1) → IsSynced (mirror_state reveals n l)
started_durable reveals n l end first second synced knows shut = sync_durable reveals n l synced (λ revealed. whole_kept n end first second (knows revealed) (shut revealed))

-- ---- faults

pub started_cause : {T E : Type 0} (reveals taken fits : Type 0) (step : Files → Files → Type 0) (r n : State) (v : T) → OnlyWrites reveals taken fits (false ≡ true) step r n → HasCause {T = T} {E = E} r.faults n.faults (Ok v)
started_cause reveals taken fits step r n v writes = record { kept = writes.kept; rose = tt; still = writes.still (λ is. absurd (cc)) }

pub failed_cause : {T E : Type 0} (reveals taken fits fault : Type 0) (step : Files → Files → Type 0) (r n : State) (e : E) → fault → OnlyWrites reveals taken fits fault step r n → HasCause {T = T} {E = E} r.faults n.faults (Err e)
failed_cause reveals taken fits fault step r n e is writes = record { kept = writes.kept; rose = writes.cause is; still = tt }
