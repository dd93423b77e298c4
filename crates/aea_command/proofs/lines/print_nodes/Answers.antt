use Rattle.std.proofs.Common.{ℕ, List, suc, sym, ◌∙◌, ◌++◌, codes, drop}
use Rattle.std.specs.Prelude.{decimal}
use Rattle.std.specs.List.{flat_map}
use Rattle.aea_io.proofs.Printing.{prints_then, prints_stopped, prints_as}
use Rattle.aea_command.proofs.Listed.{texts-more, texts-around}
use Rattle.aea_command.proofs.lines.print_nodes.Goals as goal

-- a number after a space
abbrev behind_space : ℕ → List ℕ
behind_space number = codes " " ++ decimal number

pub returns-in_err-print_number : goal.returns-in_err-print_number
returns-in_err-print_number g c =
    rw (texts-around behind_space c.args.nodes.now c.loop-k.k c.in-Some.node (sym c.get.ensures ∙ c.in-Some.is))
    (prints_stopped (flat_map behind_space (drop (suc c.loop-k.k) c.args.nodes.now)) c.from_residual.ensures.0 (prints_then c.loop-k.invariant (rw c.from.ensures at c.in_err-print_number.ensures)))

pub loop-k-preserved : goal.loop-k-preserved
loop-k-preserved g c =
    rw (texts-more behind_space c.args.nodes.now c.loop-k.k c.in-Some.node (sym c.get.ensures ∙ c.in-Some.is))
    (prints_then c.loop-k.invariant (prints_as tt (rw c.from.ensures at c.in_ok-print_number.ensures)))
