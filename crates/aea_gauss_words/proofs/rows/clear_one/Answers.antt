use Rattle.std.proofs.Common.{sym, ◌∙◌}
use Rattle.aea_gauss_words.proofs.rows.clear_one.Goals as goal
use Rattle.aea_gauss_words.proofs.Bits.{rows_apart, added_one}

pub add_row-requires-clause-apart : goal.add_row-requires-clause-apart
add_row-requires-clause-apart c = rows_apart c.args.wide c.args.row c.args.other (λ e. c.if-other-row.true (sym e))

pub returns-then-has-clause-cleared : goal.returns-then-has-clause-cleared
returns-then-has-clause-cleared c =
    added_one c.args.rows c.args.wide c.args.row c.args.other c.args.column c.args.words.now c.add_row.new.words
    (λ e. c.if-other-row.true (sym e)) (sym c.has.ensures ∙ c.if-has.true) c.add_row.ensures
