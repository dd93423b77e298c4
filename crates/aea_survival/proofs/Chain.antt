-- Runs over a disk with copies, as runs over what a Mirror shows of it.
use Rattle.std.proofs.Common.{List, [], ◌∷◌, ◌++◌}
use Rattle.aea_lattice.specs.declared.shape.Shape.{Shape}
use Rattle.aea_disk.specs.Files.{Files}
use Rattle.aea_disk.specs.State.{State, IsFixed}
use Rattle.aea_envelope.specs.Facts.{CellsHaveLengths, CellsHaveParts}
use Rattle.aea_records.specs.Format.{Record}
use Rattle.aea_records.specs.Laws.{HasOneReading, DigestsAreCounted, RecordsAreShort}
use Rattle.aea_adopt.proofs.Left.{adopted_leaves, adopted_can}
use Rattle.aea_adopt.proofs.Faultless.{adopted_not}
use Rattle.aea_mirror.specs.Mirrored.{Kept, mirror_state, fresh, outer}
use Rattle.aea_mirror.specs.Shown.{Shows}
use Rattle.aea_mirror.proofs.Ready.{made_synced}
use Rattle.aea_stops.specs.GoingOn.{StoppedRun, GoOn, AreKept, AllSpareBlocks}
use Rattle.aea_stops.proofs.GoingOn.{stops_keep}
use Rattle.aea_survival.specs.Surviving.{StoppedOver, GoOnOver, AreKeptOver, AllSpareOver, CopiesKeepPuts}
use Rattle.aea_survival.proofs.Between.{found}
use Rattle.aea_survival.proofs.Blocks.{shown_blocks}

module _ (short : RecordsAreShort) (D reveals : Type 0) (state : D → State) (revealed : reveals) where
  abbrev shown_state : D × Kept → State
  shown_state x = mirror_state reveals (state x.0) x.1

  -- one of them, with what a Mirror may show of the files that the stop left
  as_stopped : (r : StoppedOver D reveals state) (shown : Files) → Shows r.files shown → StoppedRun (D × Kept) reveals shown_state
  as_stopped r shown shows = record {
    old = (r.mid, fresh r.name r.adopted);
    new = (r.new, r.kept);
    kind = r.kind;
    does = r.does;
    moment = r.moment;
    from = r.from;
    to = r.to;
    files = shown;
    image = (revealed, (r.files, r.image, shows));
  }

  -- nothing is pending on the ledger that a run finds
  is_fixed : (r : StoppedOver D reveals state) → IsFixed (shown_state (r.mid, fresh r.name r.adopted)) 0
  is_fixed r c here = made_synced reveals (state r.mid) r.adopted r.name (r.adopts.synced (adopted_not r.adopted)) r.adopts.revealed c here 0

  -- all of them: they go on over what is shown, and what they keep and spare is the same
  record AsStopped (runs : List (StoppedOver D reveals state)) (shown last : Files) : Type 1 where
    pub the_runs : List (StoppedRun (D × Kept) reveals shown_state)
    pub goes : GoOn (D × Kept) reveals shown_state shown the_runs (outer last)
    pub back : (shape : Shape) (records added : List Record) → AreKept (D × Kept) reveals shown_state shape records the_runs added → AreKeptOver D reveals state shape records runs added
    pub spare : AllSpareOver D reveals state runs → AllSpareBlocks (D × Kept) reveals shown_state the_runs

  all_stopped : (runs : List (StoppedOver D reveals state)) (first last : Files) → GoOnOver D reveals state first runs last → (shown : Files) × Shows first shown × AsStopped runs shown last
  unfolding as_stopped
  all_stopped [] first last (between, left, are, can, leaves) =
      let there = found short first left last between are can leaves in
      (there.0, there.1, record { the_runs = []; goes = there.2; back = λ shape records added kept. kept; spare = λ all. tt })
  all_stopped (r ∷ runs) first last (between, are, goes) =
      let answers = r.adopts.answers revealed in
      let there = found short first (state r.old).files (state r.mid).files between are (adopted_can (state r.old).files (state r.mid).files r.adopted answers) (adopted_leaves (state r.old).files (state r.mid).files r.adopted answers) in
      let rest = all_stopped runs r.files last goes in (
        there.0,
        there.1,
        record {
          the_runs = as_stopped r rest.0 rest.1 ∷ rest.2.the_runs;
          goes = (there.2, is_fixed r, rest.2.goes);
          back = λ shape records added kept. (kept.0, kept.1, kept.2, kept.3, rest.2.back shape (records ++ kept.0) kept.1 kept.4);
          spare = λ all. (all.0, rest.2.spare all.1);
        },
      )

pub copies_keep : HasOneReading → DigestsAreCounted → CellsHaveLengths → CellsHaveParts → RecordsAreShort → (D reveals : Type 0) (state : D → State) → CopiesKeepPuts {D = D} reveals state
copies_keep reading counts lengths parts short D reveals state revealed shape records runs first last ledgers goes =
    let all = all_stopped short D reveals state revealed runs first last goes in
    let keep = stops_keep reading counts lengths parts (D × Kept) reveals (shown_state short D reveals state revealed) revealed shape records all.2.the_runs all.0 (outer last) (ledgers all.0 all.1) all.2.goes in
    (keep.0, all.2.back shape records keep.0 keep.1, keep.2, λ spare. shown_blocks shape records (records ++ keep.0) first last all.0 all.1 (keep.3 (all.2.spare spare)))
