use Rattle.aea_archive.proofs.Honest.{survivors_stay_honest}
use Rattle.aea_archive.proofs.laws.survivors_stay_honest.Goals as goal

pub returns : goal.returns
returns c = survivors_stay_honest c.cells_have_lengths.ensures c.cells_have_parts.ensures c.plain_damage_stays.ensures c.longer_data_keep_values.ensures
