use Rattle.aea_run_laws.proofs.Sessions.{sessions_are_met}
use Rattle.aea_run_laws.proofs.standing.sessions_are_met.Goals as goal

pub returns : goal.returns
returns c = sessions_are_met c.cells_have_lengths.ensures c.cells_have_parts.ensures c.puts_record.ensures c.ledgers_have_one_reading.ensures c.ledgers_are_archives.ensures c.ledgers_are_not_bad.ensures
