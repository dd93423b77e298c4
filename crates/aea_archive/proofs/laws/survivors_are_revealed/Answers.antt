use Rattle.aea_archive.proofs.Revealed.{survivors_are_revealed}
use Rattle.aea_archive.proofs.laws.survivors_are_revealed.Goals as goal

pub returns : goal.returns
returns c = survivors_are_revealed c.cells_have_lengths.ensures c.cells_have_parts.ensures
