use Rattle.std.proofs.Common.{◌*◌}
use Rattle.std.specs.Prelude.{min}
use Rattle.aea_gauss_words.specs.Tables.{AddsGroup}
use Rattle.aea_gauss_words.proofs.chunks.add_group.Given as goal

abbrev pub invariant-loop-chunk : goal.invariant-loop-chunk
invariant-loop-chunk l = AddsGroup l.rows l.wide l.lo l.leads 0 (min (l.chunk * 4096) l.rows) l.fn.words l.words
