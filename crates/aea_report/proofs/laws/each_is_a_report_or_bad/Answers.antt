use Rattle.aea_report.proofs.Judging.{each-judged}
use Rattle.aea_report.proofs.laws.each_is_a_report_or_bad.Goals as goal

pub returns : goal.returns
returns c = each-judged
