-- Runs that leave the ledger leave the blocks that are intact.
use Rattle.std.proofs.Common.{◌≡◌, inl, inr, Bool, ℕ, sym, ◌∙◌, subst, arith, Result, Ok, Err, List}
use Rattle.std.specs.Prelude.{IfOk, IfErr, IsTrue}
use Rattle.std.proofs.lemmas.Bool.{false≢true}
use Rattle.aea_io.specs.Streams.{SinkState}
use Rattle.aea_lattice.specs.declared.blocks.BlockId.{BlockId}
use Rattle.aea_lattice.specs.declared.shape.Shape.{Shape}
use Rattle.aea_lattice.specs.Shapes.{IsBlockOf}
use Rattle.aea_disk.specs.Files.{Files}
use Rattle.aea_disk.specs.State.{State}
use Rattle.aea_shelf.specs.Places.{home_file}
use Rattle.aea_shelf.proofs.Cells.{keeps_intact, intact_same}
use Rattle.aea_records.specs.Format.{Record, digests_of}
use Rattle.aea_records.specs.Laws.{HasOneReading}
use Rattle.aea_ledger.specs.Stops.{HasLedger, HasOpening}
use Rattle.aea_ledger.specs.Values.{Opened, IsThisOne}
use Rattle.aea_archive.specs.Blocks.{IsBlockIn, recorded_in, IsIntactBy, RevealsSurvivors}
use Rattle.aea_archive.specs.Cells.{IsNoSite, ChangesArchive}
use Rattle.aea_archive.specs.Laws.{SurvivorsAreRevealed}
use Rattle.aea_command.specs.declared.refusal.Failure.{Failure}
use Rattle.aea_command.specs.Failures.{Answer}
use Rattle.aea_command.specs.Worlds.{world}
use Rattle.aea_command.proofs.OpeningCases.{opening_more}
use Rattle.aea_command.proofs.Reading.{by_reading}
use Rattle.aea_command_loss.specs.Repair.{IsUnopened, RepairsThen}
use Rattle.aea_stops.specs.GoingOn.{KeepsBlocks}
use Rattle.aea_dispatch.specs.declared.command.Command.{Command}
use Rattle.aea_dispatch.specs.declared.command.Command.TheVariants.{Repair}
use Rattle.aea_dispatch.specs.Does.{Runs}
use Rattle.aea_dispatch.specs.Sparing.{RunsSpareBlocks}

-- files that are as they were
same_blocks : (shape : Shape) (records : List Record) (old new : Files) → ((f : ℕ) → new f ≡ old f) → KeepsBlocks shape records records old new
same_blocks shape records old new same b on was = intact_same shape b (recorded_in shape (digests_of records) b) old new (same (home_file shape b)) (was on.most)

-- no block that is intact is one that a repair restores
repaired_blocks : (v : Opened) (old new : Files) (one : IsThisOne v (old 0)) (known : BlockId → Bool) (keep : BlockId → Type 0) → RevealsSurvivors v.shape v.lattice.n v.digests old known → ((b : BlockId) → IsTrue (known b) → keep b)
    → ChangesArchive v.shape v.lattice.n keep (IsNoSite v.shape) old new → KeepsBlocks v.shape one.records one.records old new
repaired_blocks v old new one known keep survivors left changes b on was =
    let few = on.most in
    let first = on.after in
    let nodes = one.has.lattice.n in
    let range = v.lattice.in_range in
    let inside : IsBlockIn v.shape v.lattice.n b = record { after = on.after; most = omega (arith, few, nodes); used = on.used } in
    let block : IsBlockOf v.shape b = record { first = omega (arith, first); last = omega (arith, few, nodes, range); used = on.used } in
    let intact : IsIntactBy v.shape v.digests old b = subst (λ (ds : List (List ℕ)). IsIntactBy v.shape ds old b) (sym one.has.digests) (was on.most) in
    subst (λ (ds : List (List ℕ)). IsIntactBy v.shape ds new b) one.has.digests
    (keeps_intact v.shape keep old new changes.homes b (recorded_in v.shape v.digests b) block (left b ((survivors b inside).1 intact)) intact)

module _ (reading : HasOneReading) (survivors : SurvivorsAreRevealed) (reveals : Type 0) (revealed : reveals) (old new : State) (before after : SinkState) (answer : Answer) where
  -- a repair
  repair_spares : (gave : Result Opened Failure) → IfOk gave (λ v. reveals → IsThisOne v (old.files 0)) → IfErr gave (λ f. IsUnopened reveals f old new before after answer) → IfOk gave (λ v. RepairsThen reveals v old new before after answer)
      → (shape : Shape) (records : List Record) → HasLedger shape records (old.files 0) → HasOpening old new (KeepsBlocks shape records records old.files)
  repair_spares (Ok v) one unopened opened =
      let here = one revealed in
      let known = survivors v.shape v.lattice.n v.digests old.files in
      let then = opened.2.alone revealed known.0 known.1 in
      by_reading reading v (old.files 0) here (λ shape records. HasOpening old new (KeepsBlocks shape records records old.files))
      (inr (record {
        moment = then.moment;
        from = then.from;
        to = then.to;
        before = then.before;
        sure = then.synced;
        later = λ t c from to image. repaired_blocks v old.files c here known.0 _ known.1 (λ b is mends. false≢true (sym mends.damaged ∙ is)) (then.rest t c from to image);
      }))
  repair_spares (Err f) one unopened opened = λ shape records ledger. inl unopened.reads.crash

pub spare_blocks : HasOneReading → SurvivorsAreRevealed → (D reveals : Type 0) (state : D → State) → RunsSpareBlocks {D = D} reveals state
spare_blocks reading survivors D reveals state command old new input rest before after answer (inl is) runs =
    let here : Runs Repair (world reveals (state old) input before) (world reveals (state new) rest after) answer =
    subst (λ (c : Command). Runs c (world reveals (state old) input before) (world reveals (state new) rest after) answer) is runs in
    let does = here.does in (
      λ revealed. opening_more (state old) (state new) _ _ (λ c keeps. keeps 0 (λ site. let first = site.0 in omega (arith, first))) (here.opens revealed),
      λ revealed shape records ledger. repair_spares reading survivors reveals revealed (state old) (state new) before after answer does.opening does.this_one does.unopened does.opened shape records ledger,
    )
spare_blocks reading survivors D reveals state command old new input rest before after answer (inr none) runs = (
  λ revealed. opening_more (state old) (state new) _ _ (λ c keeps. keeps 0 (none 0)) (runs.opens revealed),
  λ revealed shape records ledger. opening_more (state old) (state new) _ _ (λ c keeps. same_blocks shape records (state old).files c (λ f. keeps f (none f))) (runs.opens revealed),
)
