use Rattle.aea_archive.proofs.Honest.{lasts_are_values}
use Rattle.aea_archive.proofs.laws.lasts_are_values.Goals as goal

pub returns : goal.returns
returns c = lasts_are_values c.cells_have_lengths.ensures c.cells_have_parts.ensures
