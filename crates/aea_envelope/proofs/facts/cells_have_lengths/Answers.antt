use Rattle.aea_envelope.proofs.CellLemmas.{length-head_of, length-block_digest, length-cell_of}
use Rattle.aea_envelope.proofs.facts.cells_have_lengths.Goals as goal

pub returns : goal.returns
returns c = λ b payload. (length-head_of b, length-block_digest b payload, length-cell_of b payload)
