-- Where an archive was not opened into which an object was to be put.
use Rattle.std.proofs.Common.{inl, inr, ℕ, List, arith, Option, Err, ◌≤◌, ◌⊎◌}
use Rattle.std.specs.Prelude.{IsSome, unwrap_or, []}
use Rattle.aea_disk.specs.Files.{Files}
use Rattle.aea_disk.specs.State.{State}
use Rattle.aea_command.specs.declared.refusal.Refusal.{Refusal}
use Rattle.aea_command.specs.declared.refusal.Refusal.TheVariants.{NoArchive, LedgerBad, BadName, NameTaken, CatalogFull, HeadDamaged, Full, Occupied}
use Rattle.aea_command.specs.declared.refusal.Failure.{Failure}
use Rattle.aea_command.specs.Causes.{RefusesBy, IsDecided, place_of}
use Rattle.aea_command.specs.Openings.{OpeningCauses, Opens}
use Rattle.aea_command_store.specs.Put.{PutCauses, IsByInput}
use Rattle.aea_command.proofs.Behind.{AreBehindOpening, some_ledger, unopened_refuses}
use Rattle.aea_command.proofs.Refusing.{refuses_by_revealed}
use Rattle.aea_records.specs.Laws.{IsSomeLedger}

-- the causes of a put are those of the opening, and others at what is a ledger
put_behind : (name : List ℕ) (files : Files) (input : List ℕ) → AreBehindOpening (files 0) (PutCauses name files input)
put_behind name files input = record {
  from = λ why cause. from_opening why cause;
  back = λ why cause. back_to why cause;
}
  where
    from_opening : (why : Refusal) → OpeningCauses (files 0) why → PutCauses name files input why
    from_opening NoArchive cause = cause
    from_opening (LedgerBad at) cause = cause
    from_opening why cause = absurd cause

    back_to : (why : Refusal) → PutCauses name files input why → OpeningCauses (files 0) why ⊎ (IsSomeLedger (files 0) × (place_of Occupied ≤ place_of why))
    back_to NoArchive cause = inl cause
    back_to (LedgerBad at) cause = inl cause
    back_to BadName cause = inr (cause.0, omega arith)
    back_to NameTaken cause = inr (some_ledger (files 0) cause.shape cause.records cause.ledger, omega arith)
    back_to CatalogFull cause = inr (some_ledger (files 0) cause.shape cause.records cause.ledger, omega arith)
    back_to (HeadDamaged block) cause = inr (some_ledger (files 0) cause.shape cause.records cause.ledger, omega arith)
    back_to (Full nodes) cause = inr (some_ledger (files 0) cause.shape cause.records cause.ledger, omega arith)
    back_to why cause = absurd cause

-- an archive that was not opened shows why
pub unopened_put : {T : Type 0} (name : List ℕ) (reveals : Type 0) (old new : State) (left : Option (List ℕ)) (f : Failure) → Opens reveals old new (Err f)
    → RefusesBy {T = T} (IsDecided reveals (IsSome left) IsByInput) (PutCauses name old.files (unwrap_or left [])) (Err f)
unopened_put {T} name reveals old new left f opens =
    refuses_by_revealed {T = T} (λ why. reveals) (IsDecided reveals (IsSome left) IsByInput) (PutCauses name old.files (unwrap_or left [])) (Err f) (λ why revealed. revealed.0)
    (unopened_refuses reveals old new f (PutCauses name old.files (unwrap_or left [])) (put_behind name old.files (unwrap_or left [])) opens)
