use Rattle.aea_report.proofs.Readings.{one-reading}
use Rattle.aea_report.proofs.laws.reports_have_one_reading.Goals as goal

pub returns : goal.returns
returns c = one-reading
