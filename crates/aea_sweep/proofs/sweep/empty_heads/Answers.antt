use Rattle.std.proofs.Common.{◌≡◌, ◌∷◌, ◌++◌, List, [], length, ◌∙◌, ap, arith}
use Rattle.std.proofs.lemmas.Grind.{common_steps}
use Rattle.aea_sweep.specs.declared.heads.Heads.{Heads}
use Rattle.aea_sweep.specs.Heads.{head_in}
use Rattle.aea_sweep.proofs.Rows.{more_none}
use Rattle.aea_sweep.proofs.sweep.empty_heads.Goals as goal

pub loop-at-preserved : goal.loop-at-preserved
loop-at-preserved c =
    let long = c.loop-at.invariant.long in
    let is : c.push.new.self.items ≡ c.loop-at.heads.items ++ c.none.result ∷ [] = c.in_ok-push.ensures.items in
    record {
      long = (let e = ap (length {A = Heads}) is in grind (arith, common_steps));
      empty = λ r t. ap (λ (xs : List Heads). head_in xs r t) is ∙ more_none c.loop-at.heads.items c.none.result c.none.ensures c.loop-at.invariant.empty r t;
    }
