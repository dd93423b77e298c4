use Rattle.aea_gauss_words.proofs.Setting.{sets_four}
use Rattle.aea_gauss_words.proofs.entries.four_lanes.Goals as goal

pub returns : goal.returns
returns c =
    sets_four c.args.words.now c.args.table.now c.args.into c.args.first c.args.second c.args.third c.args.fourth 8
    c.requires.into c.requires.first c.requires.second c.requires.third c.requires.fourth
