use Rattle.aea_explain.proofs.Explanations.{sums-determined}
use Rattle.aea_explain.proofs.laws.sums_explain_determined.Goals as goal

pub returns : goal.returns
returns c = sums-determined c.sums_are_determined.ensures c.words_are_open.ensures
