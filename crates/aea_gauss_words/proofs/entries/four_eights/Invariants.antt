use Rattle.std.proofs.Common.{◌+◌, ◌*◌, get_or, bit_xor}
use Rattle.aea_gauss_words.specs.Tables.{Sets}
use Rattle.aea_gauss_words.proofs.entries.four_eights.Given as goal

abbrev pub invariant-loop-eight : goal.invariant-loop-eight
invariant-loop-eight l = Sets l.into (l.eight * 8) (λ k. bit_xor (get_or l.fn.words (l.into + k) 0) (bit_xor (bit_xor (get_or l.table (l.first + k) 0) (get_or l.table (l.second + k) 0)) (bit_xor (get_or l.table (l.third + k) 0) (get_or l.table (l.fourth + k) 0)))) l.fn.words l.words
