use Rattle.aea_report.proofs.PrintedReports.{printed-reports}
use Rattle.aea_report.proofs.laws.printed_are_reports.Goals as goal

pub returns : goal.returns
returns c = printed-reports c.blocks_are_inside.ensures
