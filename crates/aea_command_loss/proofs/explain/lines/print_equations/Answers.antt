use Rattle.std.proofs.Common.{suc, sym, ◌∙◌, drop}
use Rattle.std.specs.List.{flat_map}
use Rattle.aea_io.proofs.Printing.{prints_then, prints_stopped, prints_as}
use Rattle.aea_command_loss.specs.Explain.{equation_text}
use Rattle.aea_command.proofs.Listed.{texts-more, texts-around}
use Rattle.aea_command_loss.proofs.explain.lines.print_equations.Goals as goal

pub returns-in_err-print_equation : goal.returns-in_err-print_equation
returns-in_err-print_equation g c =
    rw (texts-around equation_text c.args.equations.now c.loop-k.k c.in-Some.e (sym c.get.ensures ∙ c.in-Some.is))
    (prints_stopped (flat_map equation_text (drop (suc c.loop-k.k) c.args.equations.now)) c.from_residual.ensures.0 (prints_then c.loop-k.invariant c.in_err-print_equation.ensures))

pub loop-k-preserved : goal.loop-k-preserved
loop-k-preserved g c =
    rw (texts-more equation_text c.args.equations.now c.loop-k.k c.in-Some.e (sym c.get.ensures ∙ c.in-Some.is))
    (prints_then c.loop-k.invariant (prints_as tt c.in_ok-print_equation.ensures))
