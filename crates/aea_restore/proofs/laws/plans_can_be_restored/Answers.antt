use Rattle.aea_restore.proofs.Planned.{plans_can}
use Rattle.aea_restore.proofs.laws.plans_can_be_restored.Goals as goal

pub returns : goal.returns
returns c l known marks steps fates are = plans_can l known marks steps fates are
