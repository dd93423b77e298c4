-- What is printed after a record is added, and what holds of a run of a command that adds one.
use Rattle.std.proofs.Common.{◌≡◌, inl, inr, List, refl, sym, ◌∙◌, Ok, Err, subst}
use Rattle.std.specs.Prelude.{Result, IsOk}
use Rattle.aea_disk.specs.Files.{KeepsFiles}
use Rattle.aea_disk.specs.State.{State, KeepsWhere}
use Rattle.aea_disk.proofs.Moments.{where_others}
use Rattle.aea_ledger.specs.Stops.{HasOpening}
use Rattle.aea_records.specs.Format.{Record}
use Rattle.aea_command.specs.declared.refusal.Refusal.{Refusal}
use Rattle.aea_command.specs.declared.refusal.Failure.{Failure}
use Rattle.aea_command.specs.declared.status.Status.TheVariants.{Done}
use Rattle.aea_command_store.specs.Adding.{AddsRecord, KeepsTheRest}
use Rattle.aea_command.specs.Causes.{Refuses, RefusesBy}
use Rattle.aea_command.specs.Failures.{Answer}
use Rattle.aea_command_store.proofs.Adding.{Agrees}
use Rattle.aea_command_store.proofs.CreateLemmas.{IsPrinting, printing_never}
use Rattle.aea_command.proofs.OpeningCases.{opening_more}
use Rattle.aea_command.proofs.Refusing.{refuses_by_done}
use Rattle.aea_command.specs.declared.refusal.Failure.TheVariants as failure

-- the line was printed, or the output failed: the disk does not show which
pub agrees_printed : {T : Type 0} (v : T) (answer : Answer) → IsPrinting answer → Agrees (Ok v) answer
agrees_printed v answer (inl e) = record {
  well = λ _. inl refl;
  done = λ _. inl (subst IsOk (sym e) refl);
  there = λ f differs is. let h : Ok Done ≡ Err f = sym e ∙ is in cc;
  back = λ f differs is. let h : Ok v ≡ Err f = is in cc;
}
agrees_printed v answer (inr e) = record {
  well = λ _. inl refl;
  done = λ _. inr e;
  there = λ f differs is. let h : Err failure.Output ≡ Err f = sym e ∙ is in absurd (differs cc);
  back = λ f differs is. let h : Ok v ≡ Err f = is in cc;
}

-- each other file stays
pub rest_stays : (reveals fault : Type 0) (old new : State) → KeepsTheRest reveals fault old new → KeepsWhere reveals (λ file. file ≡ 0 → ⊥) old new
rest_stays reveals fault old new rest = where_others reveals _ 0 old new (λ k keep. keep) rest.others

-- a run that adds a record, over a disk whose contents are known, begins with a sync: once that has succeeded every image has
-- each file but the ledger's as it read
pub adds_opens : {T : Type 0} (adds : List Record → Record) (reveals : Type 0) (old new : State) (answer : Result T Failure) → AddsRecord adds reveals old new answer → reveals → HasOpening old new (KeepsFiles (λ file. file ≡ 0 → ⊥) old.files)
adds_opens adds reveals old new answer does revealed = opening_more old new _ _ (λ c may k keep. may.others k keep) (does.stops revealed)

-- what was done had no cause against it
pub printing_refuses_by : {T : Type 0} (revealed : Refusal → Type 0) (causes : Refusal → Type 0) (v : T) (answer : Answer) → IsPrinting answer → RefusesBy {T = T} revealed causes (Ok v) → RefusesBy revealed causes answer
printing_refuses_by revealed causes v answer printing refuses = refuses_by_done revealed causes v answer (λ why. printing_never answer (failure.Refused why) printing (λ d. cc)) refuses

pub printing_refuses : {T : Type 0} (revealed : Type 0) (causes : Refusal → Type 0) (v : T) (answer : Answer) → IsPrinting answer → Refuses {T = T} revealed causes (Ok v) → Refuses revealed causes answer
printing_refuses revealed causes v answer printing refuses = printing_refuses_by (λ why. revealed) causes v answer printing refuses
