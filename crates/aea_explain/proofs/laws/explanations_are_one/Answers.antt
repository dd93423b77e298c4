use Rattle.aea_explain.proofs.Explanations.{explanations-one}
use Rattle.aea_explain.proofs.laws.explanations_are_one.Goals as goal

pub returns : goal.returns
returns c = explanations-one c.lists_are_one.ensures c.words_stay.ensures
