use Rattle.aea_place.proofs.HomeLemmas.{same_in_row}
use Rattle.aea_place.proofs.facts.rows_go_over_sites.Goals as goal

pub returns : goal.returns
returns c = same_in_row
