use Rattle.std.proofs.Common.{◌≡◌, suc, ◌+◌, ◌*◌, not, ◌&&◌, ◌==◌, sym, subst, arith}
use Rattle.aea_gauss_words.specs.Words.{bit_matrix}
use Rattle.aea_gauss_words.specs.Matrices.{ReducedTo}
use Rattle.aea_gauss_words.proofs.rows.reduce_row.Goals as goal
use Rattle.aea_gauss_words.proofs.Elimination.{added_sums, cleared_adds, reduced_more, reduced_nothing}

pub returns-in-Some-clause-sums : goal.returns-in-Some-clause-sums
returns-in-Some-clause-sums c =
    let cols = 64 * c.args.wide in
    let old = bit_matrix c.args.wide c.args.words.now in
    let new = bit_matrix c.args.wide c.clear.new.words in
    added_sums c.args.rows cols old new c.args.row (λ r. not (r == c.args.row) && old r c.in-Some.column) c.requires.row
    (cleared_adds c.args.rows cols old new c.args.row c.in-Some.column c.clear.ensures.cleared)

pub returns-in-Some-clause-reduced : goal.returns-in-Some-clause-reduced
returns-in-Some-clause-reduced c before =
    let n : c.args.row + 1 ≡ suc c.args.row = omega arith in
    subst (λ k. ReducedTo k c.args.rows (64 * c.args.wide) (bit_matrix c.args.wide c.clear.new.words)) (sym n)
    (reduced_more c.args.rows (64 * c.args.wide) (bit_matrix c.args.wide c.args.words.now) (bit_matrix c.args.wide c.clear.new.words)
    c.args.row c.in-Some.column c.requires.row c.in-Some.ensures before c.clear.ensures.cleared)

pub returns-in-None-clause-reduced : goal.returns-in-None-clause-reduced
returns-in-None-clause-reduced c before =
    let n : c.args.row + 1 ≡ suc c.args.row = omega arith in
    subst (λ k. ReducedTo k c.args.rows (64 * c.args.wide) (bit_matrix c.args.wide c.args.words.now)) (sym n)
    (reduced_nothing c.args.rows (64 * c.args.wide) (bit_matrix c.args.wide c.args.words.now) c.args.row c.in-None.ensures before)
