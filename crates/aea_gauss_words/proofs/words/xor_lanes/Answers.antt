use Rattle.aea_gauss_words.proofs.words.xor_lanes.Goals as goal
use Rattle.aea_weave.proofs.Lanes.{xors_chunk}

pub returns : goal.returns
returns c = xors_chunk c.args.dst.now c.args.src.now c.args.at 8 c.requires.long c.requires.inside
