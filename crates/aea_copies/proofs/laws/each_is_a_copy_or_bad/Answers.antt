use Rattle.aea_copies.proofs.Decided as decided
use Rattle.aea_copies.proofs.laws.each_is_a_copy_or_bad.Goals as goal

pub returns : goal.returns
returns c = decided.each_is_a_copy_or_bad
