use Rattle.std.proofs.Common.{◌∙◌, ap}
use Rattle.std.specs.Prelude.{not, cond, ◌==◌}
use Rattle.aea_lattice.specs.Blocks.{blocks_of}
use Rattle.aea_io.proofs.Printing.{prints_then_nothing, prints_failed, prints_as}
use Rattle.aea_command.specs.declared.status.Status.TheVariants.{Done, Damage}
use Rattle.aea_command_read.proofs.ScrubLemmas.BlockLines.{status-length}
use Rattle.aea_command_read.proofs.scrub.lines.put_damage.Goals as goal

pub returns-in_err-count-clause-prints : goal.returns-in_err-count-clause-prints
returns-in_err-count-clause-prints g c intact are =
    prints_failed c.from_residual.ensures.0 (rw c.new-page.ensures at c.in_err-count.ensures.prints intact are)

pub returns-in_err-finish-clause-prints : goal.returns-in_err-finish-clause-prints
returns-in_err-finish-clause-prints g c intact are =
    prints_failed {T = Unit {0}} c.from_residual-in_err-finish.ensures.0
    (prints_then_nothing (rw c.new-page.ensures at c.in_ok-count.ensures.prints intact are) c.in_err-finish.ensures.prints)

pub returns-clause-prints : goal.returns-clause-prints
returns-clause-prints g c intact are =
    prints_as c.status_by.result
    (prints_then_nothing (rw c.new-page.ensures at c.in_ok-count.ensures.prints intact are)
    (rw c.in_ok-finish.ensures.empty at c.in_ok-finish.ensures.prints))

pub returns-clause-status : goal.returns-clause-status
returns-clause-status g c intact are =
    c.status_by.ensures
    ∙ ap (λ n. cond (n == 0) Done Damage) (c.in_ok-count.ensures.count intact are)
    ∙ status-length (λ b. not (intact b)) (blocks_of c.args.lattice.now)
