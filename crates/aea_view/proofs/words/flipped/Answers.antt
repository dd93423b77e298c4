use Rattle.aea_view.proofs.Lowest.{flipped-bits}
use Rattle.aea_view.proofs.words.flipped.Goals as goal

pub returns : goal.returns
returns c = λ k within. flipped-bits c.args.word k c.ranges.word.fits within
