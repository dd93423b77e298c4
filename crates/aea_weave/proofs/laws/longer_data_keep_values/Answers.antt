use Rattle.aea_weave.proofs.Weaving.{longer-keep}
use Rattle.aea_weave.proofs.laws.longer_data_keep_values.Goals as goal

pub returns : goal.returns
returns c = longer-keep
