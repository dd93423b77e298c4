use Rattle.aea_restore.proofs.Restorable.{given-restorable}
use Rattle.aea_restore.proofs.laws.given_are_restorable.Goals as goal

pub returns : goal.returns
returns c l known marks steps fates are b =
    given-restorable c.passing_are_among.ensures c.reached_are_determined.ensures c.sums_are_determined.ensures c.words_are_open.ensures c.determined_stay.ensures l known marks steps fates are b
