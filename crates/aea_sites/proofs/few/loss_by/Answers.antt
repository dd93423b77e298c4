use Rattle.aea_sites.proofs.ByFates.{words_lost}
use Rattle.aea_sites.proofs.few.loss_by.Goals as goal

pub returns : goal.returns
returns c l known are =
    words_lost c.sums_are_determined.ensures c.words_are_open.ensures l known c.blocks_are_inside.ensures c.args.fates are
    (record { lost = c.count_words-lost.result; first = c.first_lost-first.result }) c.count_words-lost.ensures c.first_lost-first.ensures
