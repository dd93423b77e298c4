use Rattle.std.proofs.Common.{◌≡◌, take}
use Rattle.std.specs.Prelude.{count_by}
use Rattle.aea_sites.specs.Words.{is_word}
use Rattle.aea_sites.proofs.few.count_words.Given as goal

abbrev pub invariant-loop-k : goal.invariant-loop-k
invariant-loop-k l = l.count ≡ count_by is_word (take l.k l.fates)
