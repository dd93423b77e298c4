use Rattle.aea_weave.proofs.Lanes.{xors_chunk}
use Rattle.aea_weave.proofs.xor.xor_lanes.Goals as goal

pub returns : goal.returns
returns c = xors_chunk c.args.dst.now c.args.src.now c.args.at 64 c.requires.long c.requires.inside
