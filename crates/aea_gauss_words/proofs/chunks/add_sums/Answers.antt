use Rattle.std.proofs.Common.{◌≡◌, ◌+◌, ◌*◌, get_or, refl, ap, arith}
use Rattle.aea_gauss_words.proofs.Adding.{row_inside, sums_more}
use Rattle.aea_gauss_words.proofs.chunks.add_sums.Goals as goal

pub add_four-requires-clause-into : goal.add_four-requires-clause-into
add_four-requires-clause-into c =
    let inside = row_inside c.args.rows c.args.wide c.args.from c.loop-i.i c.args.count c.args.at c.args.len c.requires.from c.loop-i-test.true c.requires.at in
    let a = c.loop-i.auto.words in
    let b = c.requires.long in
    omega arith

pub loop-i-preserved : goal.loop-i-preserved
loop-i-preserved c =
    let i = c.loop-i.i in
    let less = c.loop-i-test.true in
    let picks = c.args.picks.now in
    sums_more c.args.rows c.args.wide c.args.from i c.args.at c.args.len (get_or picks (4 * i) 0) (get_or picks (4 * i + 1) 0) (get_or picks (4 * i + 2) 0) (get_or picks (4 * i + 3) 0)
    c.args.table.now picks c.args.words.now c.loop-i.words c.add_four.new.words c.requires.at (omega arith) (ap (λ n. get_or picks n 0) (let z : 4 * i ≡ 4 * i + 0 = omega arith in z)) refl refl refl c.loop-i.invariant c.add_four.ensures
