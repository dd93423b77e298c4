use Rattle.aea_gauss_words.proofs.Setting.{fours_more}
use Rattle.aea_gauss_words.proofs.entries.four_eights.Goals as goal

pub loop-eight-preserved : goal.loop-eight-preserved
loop-eight-preserved c =
    fours_more c.args.into c.args.first c.args.second c.args.third c.args.fourth c.loop-eight.eight c.args.table.now c.args.words.now c.loop-eight.words c.four_lanes.new.words
    c.loop-eight.invariant c.four_lanes.ensures
