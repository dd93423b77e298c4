use Rattle.aea_verify.proofs.Judged.{accepted-fit}
use Rattle.aea_verify.proofs.laws.accepted_are_fitting.Goals as goal

pub returns : goal.returns
returns c = accepted-fit
