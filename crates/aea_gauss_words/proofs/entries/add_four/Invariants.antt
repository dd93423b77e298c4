use Rattle.std.proofs.Common.{◌+◌, get_or, bit_xor}
use Rattle.aea_gauss_words.specs.Tables.{Sets}
use Rattle.aea_gauss_words.proofs.entries.add_four.Given as goal

abbrev pub invariant-loop-k : goal.invariant-loop-k
invariant-loop-k l = Sets l.into l.k (λ k. bit_xor (get_or l.fn.words (l.into + k) 0) (bit_xor (bit_xor (get_or l.table (l.first + k) 0) (get_or l.table (l.second + k) 0)) (bit_xor (get_or l.table (l.third + k) 0) (get_or l.table (l.fourth + k) 0)))) l.fn.words l.words
