use Rattle.aea_sweep.proofs.Bits.{cleared}
use Rattle.aea_sweep.proofs.heads.without.Goals as goal

pub returns : goal.returns
returns c k less = cleared c.args.word c.args.place k c.requires less
