use Rattle.aea_fetch.proofs.Puts.{recorded_digests}
use Rattle.aea_fetch.proofs.laws.recorded_objects_have_their_digests.Goals as goal

pub returns : goal.returns
returns c = recorded_digests c.objects_are_of_records.ensures
