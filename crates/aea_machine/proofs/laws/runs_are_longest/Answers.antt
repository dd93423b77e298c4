use Rattle.aea_machine.proofs.Runs.{runs-longest}
use Rattle.aea_machine.proofs.laws.runs_are_longest.Goals as goal

pub returns : goal.returns
returns c = runs-longest
