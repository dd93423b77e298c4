use Rattle.std.proofs.Common.{◌+◌, ℕ, List, get_or, ◌∙◌, ap}
use Rattle.std.proofs.lemmas.List.{get_or-replicate}
use Rattle.aea_lattice.specs.declared.grid.Lattice.{Lattice}
use Rattle.aea_walk.proofs.nexts.next_on.Goals as goal

pub pass_all-requires-clause-none : goal.pass_all-requires-clause-none
pass_all-requires-clause-none c t less =
    ap (λ (xs : List ℕ). get_or xs t 0) c.as_mut_slice-2.ensures.value
    ∙ get_or-replicate 64 t (c.n-end.result + 1) 0 less
    ∙ ap (λ (n : ℕ). n + 1) (c.n-end.ensures ∙ ap (λ (m : Lattice). m.n) c.lattice-lattice.ensures.lattice)
