use Rattle.std.proofs.Common.{sym, ◌∙◌}
use Rattle.std.proofs.lemmas.Bool.{true≢false}
use Rattle.aea_sums.proofs.Opening.{datum_passes}
use Rattle.aea_sums.proofs.forward.pass_datum.Goals as goal

pub returns-clause-known : goal.returns-clause-known
returns-clause-known c is = absurd (true≢false (sym is ∙ sym c.get.ensures ∙ c.if-get.false))

pub returns-clause-lost : goal.returns-clause-lost
returns-clause-lost c off wanted are =
    datum_passes c.args.lattice.now wanted c.args.node c.args.tags c.row_of.result c.args.rows.now c.settle.new.rows c.args.lost c.settle.result
    are c.row_of.ensures.meets c.settle.ensures.settles
