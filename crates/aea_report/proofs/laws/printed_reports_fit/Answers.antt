use Rattle.aea_report.proofs.PrintedFits.{printed-fit}
use Rattle.aea_report.proofs.laws.printed_reports_fit.Goals as goal

pub returns : goal.returns
returns c = printed-fit c.blocks_are_inside.ensures c.passing_are_among.ensures c.reached_are_determined.ensures c.words_miss_determined.ensures
