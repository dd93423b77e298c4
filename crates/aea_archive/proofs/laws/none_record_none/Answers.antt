use Rattle.aea_archive.proofs.Records.{none_record_none}
use Rattle.aea_archive.proofs.laws.none_record_none.Goals as goal

pub returns : goal.returns
returns c = none_record_none
