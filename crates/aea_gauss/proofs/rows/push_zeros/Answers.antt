use Rattle.std.proofs.Common.{[], ◌∷◌, length, get_or, ◌∙◌, ap, arith}
use Rattle.aea_gauss.proofs.rows.push_zeros.Goals as goal
use Rattle.aea_gauss.proofs.Filling.{zeros_push}
use Rattle.std.proofs.lemmas.List.{length-append}

pub loop-at-preserved : goal.loop-at-preserved
loop-at-preserved c = record {
  long = ap length c.in_ok-push.ensures.items ∙ length-append c.loop-at.words.items (0 ∷ []) ∙ (let h = c.loop-at.invariant.long in omega arith);
  zeros = λ h k. ap (λ xs. get_or xs k 0) c.in_ok-push.ensures.items ∙ zeros_push c.loop-at.words.items (c.loop-at.invariant.zeros h) k;
}
