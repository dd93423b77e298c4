use Rattle.aea_envelope.proofs.CellLemmas.{cells_of_one_block}
use Rattle.aea_envelope.proofs.facts.cells_reveal_blocks.Goals as goal

pub returns : goal.returns
returns c = cells_of_one_block
