use Rattle.aea_place.proofs.HomeLemmas.{on_a_site}
use Rattle.aea_place.proofs.facts.homes_are_on_sites.Goals as goal

pub returns : goal.returns
returns c = on_a_site
