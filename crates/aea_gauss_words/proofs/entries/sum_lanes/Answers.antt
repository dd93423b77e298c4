use Rattle.aea_gauss_words.proofs.Setting.{sets_sum}
use Rattle.aea_gauss_words.proofs.entries.sum_lanes.Goals as goal

pub returns : goal.returns
returns c = sets_sum c.args.table.now c.args.words.now c.args.from c.args.into c.args.begin 8 c.requires.from c.requires.into c.requires.begin
