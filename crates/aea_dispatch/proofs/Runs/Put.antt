-- What holds of a run of `put`.
use Rattle.std.proofs.Common.{◌≡◌, inl, inr, List, [], length, refl, sym, ◌∙◌, ap, subst, Err, arith, ℕ, ◌≤◌}
use Rattle.aea_io.specs.Streams.{SourceState, SinkState}
use Rattle.aea_disk.specs.State.{State}
use Rattle.aea_dispatch.specs.declared.command.Command.TheVariants.{Put}
use Rattle.aea_command_store.specs.Put.{stored_line, object_of, IsByInput, IsEarly, PutCauses, KeepsOtherFiles, Puts}
use Rattle.aea_command.specs.declared.refusal.Refusal.{Refusal}
use Rattle.aea_command.specs.Failures.{Answer, NeverClashes}
use Rattle.aea_command.specs.declared.refusal.Failure.TheVariants as failure
use Rattle.aea_records.specs.Grammar.{IsLedger}
use Rattle.std.specs.Prelude.{IsSome, unwrap_or}
use Rattle.aea_command.specs.Causes.{RefusesBy, IsDecided}
use Rattle.aea_dispatch.specs.Does.{Runs}
use Rattle.aea_dispatch.proofs.Runs.Unrefused.{none_held}
use Rattle.aea_command.specs.Worlds.{world}
use Rattle.aea_lattice.specs.declared.shape.Shape.{Shape}
use Rattle.aea_command.proofs.OpeningCases.{images_same}
use Rattle.aea_disk.proofs.Moments.{passes_none, where_none}
use Rattle.aea_command.proofs.Refusing.{refuses_by_revealed, refuses_by_stopped}
use Rattle.aea_command_store.proofs.PutLemmas.Running.{puts_failed, whole_input, nothing_stores}

pub put_runs : (name : List ℕ) (reveals : Type 0) (old new : State) (input input_after : SourceState) (before after : SinkState) (answer : Answer)
    → Puts name reveals old new input.left input_after.left before after answer → RefusesBy (IsDecided reveals (IsSome input.left) IsByInput) (PutCauses name old.files (unwrap_or input.left [])) answer
    → KeepsOtherFiles reveals (answer ≡ Err failure.Disk) old new
    → NeverClashes answer
    → Runs (Put name) (world reveals old input before) (world reveals new input_after after) answer
put_runs name reveals old new input input_after before after answer puts refuses rest honest = record {
  does = puts;
  refuses = λ early. refuses_by_revealed _ _ _ _ (λ why revealed. (revealed.0 tt, revealed.1)) refuses;
  disk_fits = λ revealed ready fits e.
      let no_cause : (why : Refusal) → IsEarly why → PutCauses name old.files [] why → ⊥ = λ why early cause. (puts.stores.refused_in_room revealed why early cause ready fits.some).0 e in
      (puts.stores.in_room revealed ready (fits.all (λ _. no_cause))).0 e;
  output_fits = λ revealed fits e.
      let line = puts.line (inr e) in
      let ledger = puts.stores.archive (inr e) (revealed.disk tt) in
      let has = subst (λ (n : ℕ). IsLedger (old.files 0) ledger.shape ledger.records n) ledger.ledger.place ledger.ledger in
      let room = fits (none_held _ _ answer refuses (λ why. (revealed.disk tt, λ by. revealed.input tt)) e) ledger.shape ledger.records has in
      let given : unwrap_or input.left [] ≡ line.o.bytes = whole_input input.left input_after.left line.o.bytes (revealed.input tt) line.whole.taken line.whole.end in
      let shape : line.shape ≡ ledger.shape = line.is_shape (revealed.disk tt) ledger.shape ledger.records has in
      let same_line : puts.text ≡ stored_line ledger.shape (object_of name (unwrap_or input.left [])) =
      line.line ∙ ap (λ (s : Shape). stored_line s line.o) shape
      ∙ ap (λ (n : List ℕ). stored_line ledger.shape (object_of n line.o.bytes)) line.whole.name_is
      ∙ sym (ap (λ (b : List ℕ). stored_line ledger.shape (object_of name b)) given) in
      (puts.prints.in_room room.room room.revealed (subst (λ (l : List ℕ). length l ≤ room.room) (sym same_line) room.enough)).0 e;
  honest = λ revealed is. honest;
  stays = rest.others;
  opens = rest.opens;
}

-- ---- memory ran out for the words

pub unparsed_runs : (name : List ℕ) (reveals : Type 0) (s : State) (input : SourceState) (out : SinkState) → Runs (Put name) (world reveals s input out) (world reveals s input out) (Err failure.Memory)
unparsed_runs name reveals s input out =
    put_runs name reveals s s input input out out (Err failure.Memory)
    (puts_failed name reveals s s input.left input.left out failure.Memory (λ e. cc) (nothing_stores name reveals s input.left))
    (refuses_by_stopped _ _ (Err failure.Memory) (inr (inr refl)))
    (record {
      others = where_none reveals _ s;
      opens = λ revealed. inl (images_same s);
      time = passes_none s;
      kept = omega arith;
      cause = λ is. let h : (let answer : Answer = Err failure.Memory in answer ≡ Err failure.Disk) = is in cc;
      still = λ fine. refl;
      beneath = λ revealed ready is. let h : (let answer : Answer = Err failure.Memory in answer ≡ Err failure.Disk) = is in cc;
    })
    (λ b recorded computed e. let h : (let answer : Answer = Err failure.Memory in answer ≡ Err (failure.Clash b recorded computed)) = e in cc)
