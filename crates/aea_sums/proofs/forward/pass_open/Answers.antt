use Rattle.aea_sums.proofs.Opening.{open_on, open_ended}
use Rattle.aea_sums.proofs.forward.pass_open.Goals as goal

pub returns-in-Some-clause-passes : goal.returns-in-Some-clause-passes
returns-in-Some-clause-passes c wanted are =
    open_on c.args.lattice.now wanted c.args.b c.requires.block c.requires.parity c.place-at.result c.args.tags c.args.rows.now c.pass_tag.new.rows c.args.lost
    c.place-at.ensures.place are c.pass_tag.ensures.passes c.in-Some.field-0 c.in-Some.ensures.next c.in-Some.ensures.later.0

pub returns-in-None-clause-passes : goal.returns-in-None-clause-passes
returns-in-None-clause-passes c wanted are =
    open_ended c.args.lattice.now wanted c.args.b c.requires.block c.requires.parity c.place-at.result c.args.tags c.args.rows.now c.pass_tag.new.rows c.args.lost
    c.place-at.ensures.place are c.pass_tag.ensures.passes c.pass_end.new.rows c.pass_end.result c.pass_end.ensures.passes c.in-None.ensures.next
