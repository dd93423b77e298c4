use Rattle.aea_sweep.proofs.Bits.{flipped}
use Rattle.aea_sweep.proofs.heads.flipped.Goals as goal

pub returns : goal.returns
returns c k less = flipped c.args.word c.args.place k c.requires
