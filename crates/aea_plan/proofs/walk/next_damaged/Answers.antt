use Rattle.aea_plan.proofs.Walking.{comes-next, no-more, lines-here}
use Rattle.aea_plan.proofs.walk.next_damaged.Goals as goal

pub returns-in_err-number-clause-lines : goal.returns-in_err-number-clause-lines
returns-in_err-number-clause-lines c =
    let none = no-more c.args.verdicts.now c.args.from.now c.requires.inside c.in_err-number.ensures.none in
    rw c.from_residual.ensures none

pub returns-clause-lines : goal.returns-clause-lines
returns-clause-lines c =
    let v = c.args.verdicts.now in
    let from = c.args.from.now in
    let k = c.in_ok-number.number in
    let b = c.block-block.result in
    let comes = comes-next v from k b c.lattice.result.now c.lattice.ensures.lattice c.in_ok-number.ensures.found c.block-block.ensures.place c.block-block.ensures.number in
    lines-here v from k b comes
