-- What `list` does, by where it ends, and what holds of its run.
pub mod Lines
use Rattle.std.proofs.Common.{◌≡◌, ◌≢◌, ◌⊎◌, inl, inr, ℕ, List, refl, sym, ◌∙◌, ap, subst, Result, Ok, Err}
use Rattle.std.specs.Prelude.{IfOk, IfErr, OnOk}
use Rattle.aea_io.specs.Streams.{SourceState, SinkState}
use Rattle.aea_disk.specs.State.{State}
use Rattle.aea_disk.proofs.Moments.{where_none, where_kept, passes_none}
use Rattle.aea_catalog.specs.Catalogs.{Objects}
use Rattle.aea_records.specs.Catalogued.{objects_of}
use Rattle.aea_records.specs.Format.{Record}
use Rattle.aea_ledger.specs.declared.open.OpenFault.{OpenFault}
use Rattle.aea_ledger.specs.Values.{Opened, HasRecords, IsThisOne}
use Rattle.aea_command.specs.declared.refusal.Failure.{Failure}
use Rattle.aea_command.specs.declared.refusal.Failure.TheVariants as failure
use Rattle.aea_command.specs.declared.status.Status.TheVariants.{Done}
use Rattle.aea_command.specs.Causes.{Refuses}
use Rattle.aea_command.specs.Failures.{Answer, opening_failure, NeverClashes}
use Rattle.aea_command_read.specs.List.{list_text, ListsObjects, IsListOf}
use Rattle.aea_command.specs.Openings.{OpeningCauses, Opens}
use Rattle.aea_command.specs.Printed.{FitsText, PrintsText}
use Rattle.aea_command.proofs.OpeningCases.{opening_more, opening_not_output}
use Rattle.aea_command_read.proofs.StatLemmas.{IsRevealing}

-- which answers there are where the archive was opened
abbrev pub IsListing : Answer → Type 0
IsListing answer = (answer ≡ Ok Done) ⊎ (answer ≡ Err failure.Output)

pub listing_revealing : (answer : Answer) → IsListing answer → IsRevealing answer
listing_revealing answer (inl e) = inl e
listing_revealing answer (inr e) = inr (inl e)

-- the archive was not opened
pub lists_unopened : (reveals : Type 0) (old new : State) (out : SinkState) (f : Failure) → Opens reveals old new (Err f) → ListsObjects reveals old new out out (Err f)
lists_unopened reveals old new out f opens = record { opening = Err f; opens = opens; unopened = (refl, refl); kinds = tt; prints = tt }

-- it was, and the lines of its objects were printed, unless the output failed
pub lists_opened : (reveals : Type 0) (old new : State) (before after : SinkState) (v : Opened) (answer : Answer) → Opens reveals old new (Ok v) → IsListing answer
    → PrintsText before after answer (list_text v.objects) → ListsObjects reveals old new before after answer
lists_opened reveals old new before after v answer opens listing prints = record {
  opening = Ok v;
  opens = opens;
  unopened = tt;
  kinds = listing;
  prints = λ records has. subst (λ (m : Objects). PrintsText before after answer (list_text m)) has.objects prints;
}

pub list_fits : (reveals : Type 0) (bytes : List ℕ) (before after : SinkState) (answer : Answer) (gave : Result Opened Failure) → reveals → IfOk gave (λ v. reveals → IsThisOne v bytes) → IfErr gave (λ f. (fault : OpenFault) × (f ≡ opening_failure fault))
    → IfErr gave (λ f. (answer ≡ Err f) × (after ≡ before)) → IfOk gave (λ v. (records : List Record) → HasRecords v records → PrintsText before after answer (list_text (objects_of records)))
    → ((text : List ℕ) → IsListOf bytes text → FitsText before text) → answer ≢ Err failure.Output
list_fits reveals bytes before after answer (Ok v) revealed this_one kinds unopened prints fits e =
    let one = this_one revealed in
    let room = fits (list_text (objects_of one.records)) (record { shape = v.shape; records = one.records; end = v.end; ledger = one.ledger; lines = refl }) in
    ((prints one.records one.has).in_room room.room room.revealed room.enough).0 e
list_fits reveals bytes before after answer (Err f) revealed this_one kinds unopened prints fits e =
    let h : Err f ≡ Err failure.Output = sym unopened.0 ∙ e in
    let is : f ≡ failure.Output = cc in
    opening_not_output kinds.0 (sym kinds.1 ∙ is)

pub list_disk : (answer : Answer) (before after : SinkState) (gave : Result Opened Failure) → (gave ≡ Err failure.Disk → ⊥) → IfErr gave (λ f. (answer ≡ Err f) × (after ≡ before)) → (gave_ok : IfOk gave (λ v. IsListing answer)) → answer ≢ Err failure.Disk
list_disk answer before after (Ok v) never unopened listing e = elim listing [
  | inl done ↦ let h : Ok Done ≡ Err failure.Disk = sym done ∙ e in cc
  | inr output ↦ let h : Err failure.Output ≡ Err failure.Disk = sym output ∙ e in cc
]
list_disk answer before after (Err f) never unopened listing e =
    let h : Err f ≡ Err failure.Disk = sym unopened.0 ∙ e in
    let is : f ≡ failure.Disk = cc in
    never (ap Err is)

pub ok_on : (gave : Result Opened Failure) (P : Type 0) → OnOk gave P → IfOk gave (λ v. P)
ok_on (Ok v) P p = p
ok_on (Err f) P p = tt
