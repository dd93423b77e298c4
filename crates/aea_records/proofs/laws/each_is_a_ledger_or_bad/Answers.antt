use Rattle.aea_records.proofs.Whole.{one_or_bad}
use Rattle.aea_records.proofs.laws.each_is_a_ledger_or_bad.Goals as goal

pub returns : goal.returns
returns c = one_or_bad
