use Rattle.aea_run_laws.proofs.OneBlock.{archives_stand}
use Rattle.aea_run_laws.proofs.standing.damaged_archives_stand.Goals as goal

pub returns : goal.returns
returns c = archives_stand c.cells_have_lengths.ensures c.cells_have_parts.ensures c.puts_record.ensures
