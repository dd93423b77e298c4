use Rattle.aea_archive.proofs.Runs.{objects_record_more}
use Rattle.aea_archive.proofs.laws.objects_record_more.Goals as goal

pub returns : goal.returns
returns c = objects_record_more c.longer_data_keep_values.ensures
