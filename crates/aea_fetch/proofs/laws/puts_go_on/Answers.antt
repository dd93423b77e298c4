use Rattle.aea_fetch.proofs.Puts.{puts_go_on}
use Rattle.aea_fetch.proofs.laws.puts_go_on.Goals as goal

pub returns : goal.returns
returns c = puts_go_on
