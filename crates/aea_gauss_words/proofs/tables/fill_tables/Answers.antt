use Rattle.std.proofs.Common.{◌+◌, ◌*◌}
use Rattle.aea_gauss_words.specs.Tables.{word_of}
use Rattle.aea_gauss_words.proofs.Tabling.{tables_more}
use Rattle.aea_gauss_words.proofs.tables.fill_tables.Goals as goal

pub loop-t-preserved : goal.loop-t-preserved
loop-t-preserved c =
    tables_more (λ t s k. word_of c.args.wide c.args.words.now (c.args.lo + 8 * t + s) (c.args.at + k)) c.args.len c.loop-t.t c.loop-t.table c.fill_table.new.table
    c.requires.len c.fill_table.ensures.kept c.fill_table.ensures.table c.loop-t.invariant
