use Rattle.aea_report.proofs.PrintedOnce.{printed-one}
use Rattle.aea_report.proofs.laws.printed_are_one.Goals as goal

pub returns : goal.returns
returns c = printed-one c.blocks_are_inside.ensures c.reached_are_determined.ensures c.words_are_one.ensures
