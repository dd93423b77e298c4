use Rattle.std.proofs.Common.{◌+◌, ◌*◌}
use Rattle.aea_gauss_words.specs.Tables.{AddsPart}
use Rattle.aea_gauss_words.proofs.chunks.add_chunk.Given as goal

abbrev pub invariant-loop-strip : goal.invariant-loop-strip
invariant-loop-strip l = AddsPart l.rows l.wide l.lo l.leads l.from (l.from + l.count) (l.strip * 64) l.fn.words l.words
