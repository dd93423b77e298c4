use Rattle.std.proofs.Common.{◌≤◌, ◌-◌, Ok, take, length}
use Rattle.aea_io.specs.declared.traits.WriteFault.{WriteFault}
use Rattle.aea_io.specs.Pages.{Prints}
use Rattle.aea_session.proofs.LookingOver.{numbers_text}
use Rattle.aea_session.proofs.patrol.print_numbers.Given as goal

-- the first numbers are printed
abbrev pub invariant-loop-k : goal.invariant-loop-k
invariant-loop-k g l = let O = g.O.Sink in record {
  printed : Prints {T = Unit {0}} {E = WriteFault} (O.state l.fn.out) l.fn.page (O.state l.out) l.page (Ok tt) (numbers_text (take l.k l.numbers));
  within : l.k ≤ length l.numbers;
}

abbrev pub decreases-loop-k : goal.decreases-loop-k
decreases-loop-k g l = length l.numbers - l.k
