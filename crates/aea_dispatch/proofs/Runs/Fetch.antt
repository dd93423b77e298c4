-- What holds of a run of `fetch`, from what its own call ensures.
use Rattle.std.proofs.Common.{◌≡◌, ◌≢◌, inl, inr, ℕ, List, refl, sym, ◌∙◌, Result, Ok, Err}
use Rattle.std.specs.Prelude.{IfOk, IfErr}
use Rattle.std.specs.FinMap.{get}
use Rattle.aea_io.specs.Streams.{SourceState, SinkState}
use Rattle.aea_lattice.specs.declared.shape.Shape.{Shape}
use Rattle.aea_disk.specs.Files.{Files}
use Rattle.aea_disk.specs.State.{State}
use Rattle.aea_disk.proofs.Moments.{where_none, where_kept, passes_none}
use Rattle.aea_catalog.specs.Catalogs.{Placed}
use Rattle.aea_records.specs.Format.{Record}
use Rattle.aea_records.specs.Laws.{HasOneReading}
use Rattle.aea_ledger.specs.declared.open.OpenFault.{OpenFault}
use Rattle.aea_ledger.specs.Values.{Opened, IsThisOne}
use Rattle.aea_dispatch.specs.declared.command.Command.TheVariants.{Fetch}
use Rattle.aea_command.specs.declared.refusal.Refusal.TheVariants.{UnknownName}
use Rattle.aea_command.specs.declared.refusal.Failure.{Failure}
use Rattle.aea_command.specs.declared.refusal.Failure.TheVariants as failure
use Rattle.aea_command.specs.Causes.{Refuses}
use Rattle.aea_dispatch.specs.Does.{Runs}
use Rattle.aea_command.specs.Failures.{Answer, opening_failure, NeverClashes}
use Rattle.aea_command.specs.Honest.{HasHonestSurvivors}
use Rattle.aea_command_read.specs.Get.{HasObject, FitsBytes}
use Rattle.aea_command_read.specs.Fetch.{FetchesObject, FetchesOpened, FetchCauses}
use Rattle.aea_command.specs.Worlds.{world}
use Rattle.aea_command_read.proofs.GetLemmas.Causing.{object_here}
use Rattle.aea_command.proofs.OpeningCases.{opening_more, images_same, opening_not_output}
use Rattle.aea_command.proofs.Refusing.{refuses_by_revealed, refuses_by_stopped}
use Rattle.aea_dispatch.proofs.Runs.Get.{some_or_none}
use Rattle.aea_dispatch.proofs.Runs.Repair.{opening_not_clash, honest_here}

-- where the output has space for the object, it does not fail
fetched_fits : (name : List ℕ) (reveals : Type 0) (v : Opened) (c : Files) (before after : SinkState) (answer : Answer) → HasOneReading → IsThisOne v (c 0) → FetchesOpened name reveals v c before after answer
    → ((shape : Shape) (records : List Record) (p : Placed) → HasObject c name shape records p → FitsBytes before p.object.length) → answer ≢ Err failure.Output
fetched_fits name reveals v c before after answer reading one does fits e = elim (some_or_none (get v.objects name)) [
  | inl (p, is) ↦
      let room = fits v.shape one.records p (object_here reading v c one name p is) in
      (does.in_room p room.room is room.revealed room.enough).0 e
  | inr none ↦
      let refused = does.unknown.1 none in
      let h : Err (failure.Refused UnknownName) ≡ Err failure.Output = sym refused ∙ e in
      cc
]

fetch_fits : (name : List ℕ) (reveals : Type 0) (c : Files) (before after : SinkState) (answer : Answer) (gave : Result Opened Failure) → HasOneReading → reveals
    → IfOk gave (λ v. reveals → IsThisOne v (c 0)) → IfErr gave (λ f. (fault : OpenFault) × (f ≡ opening_failure fault)) → IfErr gave (λ f. (answer ≡ Err f) × (after ≡ before))
    → IfOk gave (λ v. FetchesOpened name reveals v c before after answer)
    → ((shape : Shape) (records : List Record) (p : Placed) → HasObject c name shape records p → FitsBytes before p.object.length) → answer ≢ Err failure.Output
fetch_fits name reveals c before after answer (Ok v) reading revealed one kinds unopened does fits e = fetched_fits name reveals v c before after answer reading (one revealed) does fits e
fetch_fits name reveals c before after answer (Err f) reading revealed one kinds unopened does fits e =
    let h : Err f ≡ Err failure.Output = sym unopened.0 ∙ e in
    let is : f ≡ failure.Output = cc in
    opening_not_output kinds.0 (sym kinds.1 ∙ is)

-- where the intact blocks are honest, no digests clash
fetch_honest : HasOneReading → (name : List ℕ) (reveals : Type 0) (c : Files) (before after : SinkState) (answer : Answer) (gave : Result Opened Failure) → reveals
    → IfOk gave (λ v. reveals → IsThisOne v (c 0)) → IfErr gave (λ f. (fault : OpenFault) × (f ≡ opening_failure fault)) → IfErr gave (λ f. (answer ≡ Err f) × (after ≡ before))
    → IfOk gave (λ v. FetchesOpened name reveals v c before after answer) → HasHonestSurvivors c → NeverClashes answer
fetch_honest reading name reveals c before after answer (Ok v) revealed one kinds unopened does honest =
    let here = one revealed in
    let there = honest_here reading v c here honest in
    does.no_clash revealed here.records honest.datas here.has there.0 there.1
fetch_honest reading name reveals c before after answer (Err f) revealed one kinds unopened does honest = λ b recorded computed e.
    let h : Err f ≡ Err (failure.Clash b recorded computed) = sym unopened.0 ∙ e in
    let is : f ≡ failure.Clash b recorded computed = cc in
    opening_not_clash kinds.0 b recorded computed (sym kinds.1 ∙ is)

-- what `fetch` did and when it is refused give what holds of its run
pub fetch_runs : HasOneReading → (name : List ℕ) (reveals : Type 0) (old new : State) (input : SourceState) (before after : SinkState) (answer : Answer)
    → FetchesObject name reveals old new before after answer → Refuses reveals (FetchCauses name old.files) answer
    → Runs (Fetch name) (world reveals old input before) (world reveals new input after) answer
fetch_runs reading name reveals old new input before after answer fetches refuses =
    let opens = fetches.opens in
    record {
      does = inr fetches;
      refuses = λ early. refuses_by_revealed _ _ _ _ (λ why revealed. revealed.0 tt) refuses;
      disk_fits = λ revealed ready room. (fetches.reads.sure revealed ready room).0;
      output_fits = λ revealed fits. fetch_fits name reveals old.files before after answer fetches.opening reading (revealed.disk tt) opens.this_one opens.kinds fetches.unopened fetches.fetches fits;
      honest = λ revealed is. fetch_honest reading name reveals old.files before after answer fetches.opening (revealed tt) opens.this_one opens.kinds fetches.unopened fetches.fetches is;
      stays = where_kept reveals _ old old new (passes_none old) fetches.reads.time fetches.reads.crash fetches.reads.contents (where_none reveals _ old);
      opens = λ revealed. opening_more old new _ _ (λ c stays f keep. stays f) (opens.stops revealed);
    }

-- memory ran out for the name
pub unfetched_runs : (name : List ℕ) (reveals : Type 0) (s : State) (input : SourceState) (out : SinkState) → Runs (Fetch name) (world reveals s input out) (world reveals s input out) (Err failure.Memory)
unfetched_runs name reveals s input out = record {
  does = inl (record { is = refl; images = images_same s; files = refl; disk = refl; out = refl });
  refuses = λ early. refuses_by_stopped _ _ (Err failure.Memory) (inr (inr refl));
  disk_fits = λ revealed ready room e. let h : (let answer : Answer = Err failure.Memory in answer ≡ Err failure.Disk) = e in cc;
  output_fits = λ revealed fits e. let h : (let answer : Answer = Err failure.Memory in answer ≡ Err failure.Output) = e in cc;
  honest = λ revealed is b recorded computed e. let h : (let answer : Answer = Err failure.Memory in answer ≡ Err (failure.Clash b recorded computed)) = e in cc;
  stays = where_none reveals _ s;
  opens = λ revealed. inl (images_same s);
}
