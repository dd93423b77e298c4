use Rattle.std.proofs.Common.{◌*◌}
use Rattle.aea_rehearse.specs.Generator.{next_state}
use Rattle.aea_rehearse.proofs.States.{mod_of_sum}
use Rattle.aea_rehearse.proofs.generator.stepped.Goals as goal

pub returns : goal.returns
unfolding next_state
returns c = mod_of_sum 18446744073709551616 (c.args.state * 6364136223846793005) 1442695040888963407
