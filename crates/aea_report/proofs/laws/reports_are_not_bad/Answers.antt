use Rattle.aea_report.proofs.Beginnings.{reports-not_bad}
use Rattle.aea_report.proofs.laws.reports_are_not_bad.Goals as goal

pub returns : goal.returns
returns c = reports-not_bad
