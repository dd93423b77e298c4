use Rattle.std.proofs.Common.{Ok, take}
use Rattle.aea_io.specs.declared.traits.WriteFault.{WriteFault}
use Rattle.aea_io.specs.Pages.{Prints}
use Rattle.aea_report.specs.Format.{numbers_text}
use Rattle.aea_command.proofs.lines.print_nodes.Given as goal

-- the first ones are printed
abbrev pub invariant-loop-k : goal.invariant-loop-k
invariant-loop-k g l =
    let E = g.E.Sink in
    Prints {T = Unit {0}} {E = WriteFault} (E.state l.fn.err) l.fn.page (E.state l.err) l.page (Ok tt) (numbers_text (take l.k l.nodes))
