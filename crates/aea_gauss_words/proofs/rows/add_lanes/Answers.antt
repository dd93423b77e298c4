use Rattle.std.proofs.Common.{◌+◌}
use Rattle.aea_gauss_words.proofs.rows.add_lanes.Goals as goal
use Rattle.aea_gauss_words.proofs.Lanes.{adds_chunk}

pub returns : goal.returns
returns c = adds_chunk c.args.words.now (c.args.from + c.args.at) (c.args.into + c.args.at) 8 c.requires.from c.requires.into
