use Rattle.std.proofs.Common.{◌≡◌, ◌-◌, ◌*◌, ◌≤◌, [], List, length}
use Rattle.aea_records.specs.Format.{greatest_objects}
use Rattle.aea_archive.specs.Next.{NewObject}
use Rattle.aea_append.specs.Keeping.{HasKeptHeads}
use Rattle.aea_command_store.specs.Ingest.{frames_of}
use Rattle.aea_command_store.proofs.IngestLemmas.Counting.{most_of_frame}
use Rattle.aea_command_store.proofs.IngestLemmas.Going.{HasGone}
use Rattle.aea_command_store.proofs.ingest.put_frames.Given as goal

-- the objects of the first frames were stored, and their lines printed
abbrev pub invariant-loop-page : goal.invariant-loop-page
invariant-loop-page g l = record {
  objects : List NewObject;
  gone : HasGone g.D.Disk.reveals (l.disk ≡ l.fn.disk) l.fn.ledger l.ledger (g.S.Source.state l.fn.input).left (g.S.Source.state l.input).left
      (g.D.Disk.state l.fn.disk) (g.D.Disk.state l.disk) (g.O.Sink.state l.fn.out) (g.O.Sink.state l.out) objects;
  counted : l.count ≡ length objects;
  few : l.count ≤ greatest_objects;
  kept : HasKeptHeads g.D.Disk.reveals l.ledger (g.D.Disk.state l.disk).files l.kept;
  page : l.page ≡ [];
  at : l.at ≤ l.count * most_of_frame;
  exact : l.at ≡ length (frames_of objects);
  input_kept : (g.S.Source.state l.fn.input).faults ≤ (g.S.Source.state l.input).faults;
  input_still : (g.S.Source.state l.input).faults ≡ (g.S.Source.state l.fn.input).faults;
  out_kept : (g.O.Sink.state l.fn.out).faults ≤ (g.O.Sink.state l.out).faults;
}

abbrev pub decreases-loop-page : goal.decreases-loop-page
decreases-loop-page g l = greatest_objects - l.count
