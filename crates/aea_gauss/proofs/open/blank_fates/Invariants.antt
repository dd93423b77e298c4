use Rattle.std.proofs.Common.{◌≡◌, map, take}
use Rattle.aea_gauss.specs.Fates.{block_of_fate}
use Rattle.aea_gauss.proofs.open.blank_fates.Given as goal

abbrev pub invariant-loop-at : goal.invariant-loop-at
invariant-loop-at l = map block_of_fate l.fates ≡ take l.at l.blocks
