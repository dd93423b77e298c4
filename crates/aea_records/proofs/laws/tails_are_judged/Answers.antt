use Rattle.aea_records.proofs.Tails.{tails_are_judged}
use Rattle.aea_records.proofs.laws.tails_are_judged.Goals as goal

pub returns : goal.returns
returns c = tails_are_judged
