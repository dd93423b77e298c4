use Rattle.std.proofs.Common.{◌≤◌, ◌-◌, List, Ok, vec_capacity}
use Rattle.aea_io.specs.declared.traits.WriteFault.{WriteFault}
use Rattle.aea_io.specs.Pages.{Prints}
use Rattle.aea_lattice.specs.Blocks.{blocks_count}
use Rattle.aea_report.specs.declared.line.Line.{Line}
use Rattle.aea_plan.specs.Texts.{KeepsText}
use Rattle.aea_plan.proofs.Printing.{IsPast, texts_of}
use Rattle.aea_plan.proofs.print.print_lines.Given as goal

abbrev pub invariant-loop-damaged : goal.invariant-loop-damaged
invariant-loop-damaged g l = let O = g.O.Sink in record {
  inside : l.from ≤ blocks_count l.verdicts.damaged.lattice;
  kept : KeepsText l.verdicts.losses l.text.items l.noted;
  room : vec_capacity l.fn.text ≤ vec_capacity l.text;
  walked : (done : List Line) × IsPast l.verdicts l.from done
      × Prints {T = Unit {0}} {E = WriteFault} (O.state l.fn.out) l.fn.page (O.state l.out) l.page (Ok tt) (texts_of done);
}

abbrev pub decreases-loop-damaged : goal.decreases-loop-damaged
decreases-loop-damaged g l = blocks_count l.verdicts.damaged.lattice - l.from
