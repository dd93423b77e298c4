use Rattle.std.proofs.Common.{◌≡◌, take}
use Rattle.aea_gauss_words.specs.Words.{bit_matrix}
use Rattle.aea_readings.specs.Readings.{word_at}
use Rattle.aea_readings.specs.Small.{nodes_at}
use Rattle.aea_gauss.proofs.read.read_nodes.Given as goal

abbrev pub invariant-loop-k : goal.invariant-loop-k
invariant-loop-k l = l.nodes ≡ nodes_at (word_at l.rows (bit_matrix l.wide l.words) l.f) (take l.k l.blocks)
