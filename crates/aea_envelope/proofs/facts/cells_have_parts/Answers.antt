use Rattle.aea_envelope.proofs.CellLemmas.{take-cell_of, payload-cell_of, digest-cell_of}
use Rattle.aea_envelope.proofs.facts.cells_have_parts.Goals as goal

pub returns : goal.returns
returns c = λ b payload. (take-cell_of b payload, payload-cell_of b payload, digest-cell_of b payload)
