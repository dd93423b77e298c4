use Rattle.aea_report.proofs.Short.{short-lines}
use Rattle.aea_report.proofs.laws.lines_are_short.Goals as goal

pub returns : goal.returns
returns c = short-lines
