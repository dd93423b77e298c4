use Rattle.aea_lattice.proofs.OneWord.{word_one}
use Rattle.aea_fates.proofs.Only.{sum_one, not_both_kinds}
use Rattle.aea_fates.proofs.laws.lists_are_one.Goals as goal

pub returns : goal.returns
returns c l known b has = record {
  one_sum = sum_one l known b;
  one_word = word_one l known b;
  one_kind = λ xs ys. not_both_kinds l known b xs ys has;
}
