use Rattle.std.proofs.Common.{◌+◌, ◌*◌, not, count_by, sym, ◌∙◌, ap}
use Rattle.aea_view.specs.Bits.{bits_of}
use Rattle.aea_view.proofs.Whole.{word_more}
use Rattle.aea_view.proofs.words.clear_in.Goals as goal

pub returns-clause-counted : goal.returns-clause-counted
returns-clause-counted c = λ words at here.
    word_more words at c.args.word c.ranges.word.fits here ∙ ap (λ n. count_by not (bits_of (64 * at) words) + n) (sym c.count_zeros.ensures.value)
