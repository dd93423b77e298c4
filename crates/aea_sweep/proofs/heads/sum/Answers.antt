use Rattle.aea_sweep.proofs.Bits.{xor-bits}
use Rattle.aea_sweep.proofs.heads.sum.Goals as goal

pub returns : goal.returns
returns c k less = xor-bits c.args.first c.args.second k
