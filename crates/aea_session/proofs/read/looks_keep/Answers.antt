use Rattle.aea_session.proofs.LookingKept.{looks_keep}
use Rattle.aea_session.proofs.read.looks_keep.Goals as goal

pub returns : goal.returns
returns c = looks_keep
