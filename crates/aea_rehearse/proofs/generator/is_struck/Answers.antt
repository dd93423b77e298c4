use Rattle.std.proofs.Common.{ap, ◌/◌, ◌%◌}
use Rattle.std.specs.Prelude.{nat_lt}
use Rattle.aea_rehearse.specs.Generator.{strikes}
use Rattle.aea_rehearse.proofs.generator.is_struck.Goals as goal

pub returns : goal.returns
unfolding strikes
returns c = ap (nat_lt (c.args.state / 4294967296 % 1000)) c.from.ensures
