use Rattle.std.proofs.Common.{◌≡◌, ◌+◌, ◌*◌, subst, arith}
use Rattle.aea_gauss_words.specs.Words.{Adds}
use Rattle.aea_gauss_words.proofs.rows.add_eights.Goals as goal
use Rattle.aea_gauss_words.proofs.Lanes.{adds_more}
use Rattle.aea_gauss_words.proofs.Bits.{apart_less}

pub loop-eight-preserved : goal.loop-eight-preserved
loop-eight-preserved c =
    let n = c.loop-eight.eight * 8 in
    let next : n + 8 ≡ (c.loop-eight.eight + 1) * 8 = omega arith in
    subst (λ k. Adds c.args.from c.args.into k c.args.words.now c.add_lanes.new.words) next
    (adds_more c.args.from c.args.into n 8 c.args.words.now c.loop-eight.words c.add_lanes.new.words
    (apart_less c.args.from c.args.into (n + 8) c.args.wide (omega arith) c.requires.apart) c.loop-eight.invariant c.add_lanes.ensures)
