use Rattle.aea_archive.proofs.Records.{next_records_more}
use Rattle.aea_archive.proofs.laws.next_records_more.Goals as goal

pub returns : goal.returns
returns c = next_records_more c.longer_data_keep_values.ensures
