use Rattle.std.proofs.Common.{suc, sym, ◌∙◌, drop}
use Rattle.aea_report.specs.Format.{numbers_text}
use Rattle.aea_io.proofs.Printing.{prints_then, prints_stopped, prints_as}
use Rattle.aea_report.proofs.Writes.{numbers-more, numbers-around}
use Rattle.aea_report.proofs.print.print_nodes.Goals as goal

pub returns-in_err-print_node : goal.returns-in_err-print_node
returns-in_err-print_node g c =
    rw (numbers-around c.args.nodes.now c.loop-k.k c.in-Some.node (sym c.get.ensures ∙ c.in-Some.is))
    (prints_stopped (numbers_text (drop (suc c.loop-k.k) c.args.nodes.now)) c.from_residual.ensures.0 (prints_then c.loop-k.invariant c.in_err-print_node.ensures))

pub loop-k-preserved : goal.loop-k-preserved
loop-k-preserved g c =
    rw (numbers-more c.args.nodes.now c.loop-k.k c.in-Some.node (sym c.get.ensures ∙ c.in-Some.is))
    (prints_then c.loop-k.invariant (prints_as tt c.in_ok-print_node.ensures))
