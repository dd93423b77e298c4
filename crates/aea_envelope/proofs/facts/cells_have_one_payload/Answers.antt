use Rattle.aea_envelope.proofs.CellLemmas.{one_payload}
use Rattle.aea_envelope.proofs.facts.cells_have_one_payload.Goals as goal

pub returns : goal.returns
returns c = one_payload
