-- Where strands end.
use Rattle.std.proofs.Common.{◌≡◌, inl, inr, Some, None, sym, ◌∙◌, ap, arith}
use Rattle.std.proofs.lemmas.Bool.{cases_lt}
use Rattle.aea_lattice.specs.Neighbours.{neighbour}
use Rattle.aea_lattice.proofs.Strands.{IsJustBefore, IsJustBefore-neighbour}
use Rattle.aea_lattice.proofs.Runs.{previous-neighbour, joined_is}
use Rattle.aea_sweep.proofs.StepLaws.{StrandEnds}

pub strand_ends : StrandEnds
strand_ends l i c next j g later inside was low same =
    let just : IsJustBefore l c g j = IsJustBefore-neighbour l c j g (joined_is l j g (neighbour l c j) (sym (previous-neighbour l c j) ∙ was)).0 in
    elim (cases_lt g i) [
      | inl before ↦ just.none_between i before later (sym same)
      | inr at ↦
          (let here : g ≡ i = omega arith in
          let is_next : None ≡ Some j = (next j).1 (inside, was ∙ ap (λ k. Some k) here) in
          absurd (cc))
    ]
