use Rattle.aea_place.proofs.HomeLemmas.{same_home}
use Rattle.aea_place.proofs.facts.homes_are_apart.Goals as goal

pub returns : goal.returns
returns c = same_home
