use Rattle.aea_archive.proofs.Records.{parts_record_more}
use Rattle.aea_archive.proofs.laws.parts_record_more.Goals as goal

pub returns : goal.returns
returns c = parts_record_more c.longer_data_keep_values.ensures
