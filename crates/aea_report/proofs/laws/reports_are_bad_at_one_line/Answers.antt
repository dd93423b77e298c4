use Rattle.aea_report.proofs.Beginnings.{bad_at_one}
use Rattle.aea_report.proofs.laws.reports_are_bad_at_one_line.Goals as goal

pub returns : goal.returns
returns c = bad_at_one
