use Rattle.aea_run_laws.proofs.Copied.{copies_are_met}
use Rattle.aea_run_laws.proofs.standing.copies_are_met.Goals as goal

pub returns : goal.returns
returns c =
    copies_are_met c.cells_have_lengths.ensures c.cells_have_parts.ensures c.puts_record.ensures c.ledgers_have_one_reading.ensures c.ledgers_are_archives.ensures c.ledgers_are_not_bad.ensures c.objects_are_of_records.ensures
    c.reports_have_one_reading.ensures c.reports_are_not_bad.ensures c.printed_are_reports.ensures c.printed_reports_fit.ensures c.accepted_are_fitting.ensures
