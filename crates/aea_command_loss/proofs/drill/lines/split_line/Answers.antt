use Rattle.std.proofs.Common.{sym}
use Rattle.aea_command_loss.proofs.DrillLemmas.TextLines.{lines-position_some, lines-position_none}
use Rattle.aea_command_loss.proofs.drill.lines.split_line.Goals as goal

pub returns-in-Some-clause-lines : goal.returns-in-Some-clause-lines
returns-in-Some-clause-lines c = lines-position_some c.args.text.now c.in-Some.end (sym c.in-Some.ensures)

pub returns-in-None-clause-lines : goal.returns-in-None-clause-lines
returns-in-None-clause-lines c = lines-position_none c.args.text.now c.requires (sym c.in-None.ensures)
