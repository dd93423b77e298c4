use Rattle.aea_verify.proofs.Open.{lost-open}
use Rattle.aea_verify.proofs.laws.lost_are_open.Goals as goal

pub returns : goal.returns
returns c = lost-open c.changes_are_codewords.ensures
