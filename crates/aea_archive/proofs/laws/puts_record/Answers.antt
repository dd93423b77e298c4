use Rattle.aea_archive.proofs.Runs.{puts_record}
use Rattle.aea_archive.proofs.laws.puts_record.Goals as goal

pub returns : goal.returns
returns c = puts_record c.longer_data_keep_values.ensures
