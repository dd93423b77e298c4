-- The steps of a plan, and the fates of what they do not reach.
use Rattle.std.proofs.Common.{◌≡◌, [], ◌∷◌, List, map, Bool, false, inl, inr, refl, ap, sym, ◌∙◌, subst}
use Rattle.std.specs.Prelude.{All, filter, not}
use Rattle.std.proofs.lemmas.Bool.{cases_Bool}
use Rattle.std.proofs.lemmas.List.Elements.{All-head, All-nil, All-tail}
use Rattle.aea_lattice.specs.declared.blocks.BlockId.{BlockId}
use Rattle.aea_lattice.specs.declared.grid.Lattice.{Lattice}
use Rattle.aea_lattice.specs.Blocks.{HasBlock, blocks_count, blocks_of}
use Rattle.aea_lattice.specs.Facts.{BlocksAreInside}
use Rattle.aea_view.specs.Marked.{Marked, AreClear, IsWhole, is_marked}
use Rattle.aea_peel.specs.Plans.{IsPlan}
use Rattle.aea_gauss.specs.declared.fates.Fate.{Fate}
use Rattle.aea_gauss.specs.Fates.{AreFates, IsFate}
use Rattle.aea_plan.specs.declared.plan.Plan.{Plan}
use Rattle.aea_plan.specs.Plans.{IsPlanOf, IsSound}
use Rattle.aea_plan.proofs.Lists.{filter-fails}
use Rattle.aea_plan.proofs.Flipped.{all-marked}
use Rattle.aea_restore.specs.Laws.{AreOfPlan}

-- nothing passes a test that each block fails
none_pass : (l : Lattice) (test : BlockId → Bool) (xs : List BlockId) → All (HasBlock l) xs → ((b : BlockId) → HasBlock l b → test b ≡ false) → filter test xs ≡ []
none_pass l test [] inside fails = refl
none_pass l test (x ∷ xs) inside fails =
    filter-fails test x xs (fails x (All-head (HasBlock l) x xs inside)) ∙ none_pass l test xs (All-tail (HasBlock l) x xs inside) fails

-- where the flipped marks have none at all, each block is marked, and there is no fate
pub no_fates : BlocksAreInside → (m n : Marked) → n.lattice ≡ m.lattice → n.marks ≡ map not m.marks → IsWhole n → AreClear n 0 (blocks_count n.lattice)
    → AreFates m.lattice (is_marked m) []
no_fates inside m n same marks whole clear = record {
  blocks = sym (none_pass m.lattice (λ b. not (is_marked m b)) (blocks_of m.lattice) (inside m.lattice)
      (λ b has. elim (cases_Bool (is_marked m b)) [ inl e ↦ ap not e | inr e ↦ absurd (all-marked m n same marks whole clear b has e) ]));
  each = All-nil (IsFate m.lattice (is_marked m));
}

-- they are those of its known blocks
pub of_plan : (l : Lattice) (known : BlockId → Bool) (p : Plan) (fates : List Fate) → AreFates p.verdicts.reached.lattice (is_marked p.verdicts.reached) fates
    → p.verdicts.damaged.lattice ≡ l → IsSound p → IsPlanOf known p → AreOfPlan l known p.verdicts.reached p.steps fates
of_plan l known p fates rest same sound of = record {
  lattice = sound.verdicts.same ∙ same;
  plan = subst (λ (k : Lattice). IsPlan k known p.steps) same of.steps;
  reached = of.reached;
  rest = subst (λ (k : Lattice). AreFates k (is_marked p.verdicts.reached) fates) (sound.verdicts.same ∙ same) rest;
}
