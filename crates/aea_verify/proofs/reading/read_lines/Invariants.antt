use Rattle.std.proofs.Common.{◌≡◌, ◌-◌, ◌≤◌, ℕ, List, [], true, None}
use Rattle.aea_lattice.specs.Blocks.{blocks_count}
use Rattle.aea_view.specs.Marked.{is_marked}
use Rattle.aea_report.specs.declared.head.Head.{Head}
use Rattle.aea_reader.specs.Readings.{IsReading}
use Rattle.aea_verify.specs.Judged.{IsGoing, HasSome}
use Rattle.aea_verify.proofs.reading.read_lines.Given as goal

abbrev pub invariant-lines : goal.invariant-lines
invariant-lines g l = record {
  open_still : l.reader.settled ≡ None;
  low : l.reader.least ≤ blocks_count l.reader.lattice;
  going : l.judged ≡ true → IsGoing l.marks.lattice l.reader l.tally;
  reads : (input : List ℕ) (h : Head) → IsReading input h [] l.fn.reader (g.S.Source.state l.fn.source).left
      → HasSome l.judged l.marks.lattice (is_marked l.marks) input h l.reader (g.S.Source.state l.source).left l.tally;
  kept : (g.S.Source.state l.fn.source).faults ≤ (g.S.Source.state l.source).faults;
  still : (g.S.Source.state l.source).faults ≡ (g.S.Source.state l.fn.source).faults;
}

abbrev pub decreases-lines : goal.decreases-lines
decreases-lines g l = blocks_count l.reader.lattice - l.reader.least
