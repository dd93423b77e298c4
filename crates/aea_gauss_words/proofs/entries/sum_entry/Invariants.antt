use Rattle.std.proofs.Common.{◌+◌, get_or, bit_xor}
use Rattle.aea_gauss_words.specs.Tables.{Sets}
use Rattle.aea_gauss_words.proofs.entries.sum_entry.Given as goal

abbrev pub invariant-loop-k : goal.invariant-loop-k
invariant-loop-k l = Sets l.into l.k (λ k. bit_xor (get_or l.fn.table (l.from + k) 0) (get_or l.words (l.begin + k) 0)) l.fn.table l.table
