-- Plans of peeling, and fates of elimination, can be carried out.
use Rattle.std.proofs.Common.{◌≡◌, ℕ, Bool, true, false, not, List, [], ◌∷◌, map, filter, refl, sym, ◌∙◌, ap, subst, inl, inr}
use Rattle.std.specs.Prelude.{All, IsTrue, ◌||◌}
use Rattle.std.proofs.lemmas.Bool.{cases_Bool, or_cases, or_left, or_right, true≢false}
use Rattle.std.proofs.lemmas.List.Elements.{All-head, All-tail, All-cons, All-nil}
use Rattle.aea_lattice.specs.declared.blocks.BlockId.{BlockId}
use Rattle.aea_lattice.specs.declared.blocks.EqId.{EqId}
use Rattle.aea_lattice.specs.declared.grid.Lattice.{Lattice}
use Rattle.aea_lattice.specs.Blocks.{HasBlock, same_block, blocks_of}
use Rattle.aea_lattice.specs.Equations.{HasEquation, is_in_equation, is_odd_count, equations_of, adds_up_to}
use Rattle.aea_lattice.specs.Lists.{is_listed}
use Rattle.aea_lattice.specs.Closure.{IsReached, is_among}
use Rattle.aea_lattice.proofs.Equations.{same_block-equal, same_block-refl}
use Rattle.aea_lattice.proofs.Odd.{odd-filter, Each}
use Rattle.aea_lattice.proofs.Once.{each-blocks_of, each-equations_of}
use Rattle.aea_lattice.proofs.Among.{Each-All}
use Rattle.aea_lattice.proofs.Derivations.{reached-known}
use Rattle.aea_peel.specs.declared.plan.Step.{Step}
use Rattle.aea_peel.specs.Plans.{blocks_given, is_had, IsPlan}
use Rattle.aea_view.specs.Marked.{Marked, is_marked}
use Rattle.aea_fates.specs.Sums.{IsSum}
use Rattle.aea_gauss.specs.declared.fates.Fate.{Fate}
use Rattle.aea_gauss.specs.declared.fates.Fate.TheVariants.{Sum, Word}
use Rattle.aea_gauss.specs.Fates.{block_of_fate, IsFate}
use Rattle.aea_restore.specs.Plans.{AreStepsOn, is_left_over, Give}
use Rattle.aea_restore.specs.Given.{block_summed, blocks_summed, IsGiven, IsFateOn, CanSum, CanBeRestored}
use Rattle.aea_restore.specs.Laws.{AreOfPlan}
use Rattle.aea_restore.specs.UnderWay.{AddsBlock}
use Rattle.aea_restore.proofs.Parts.{give_more}
use Rattle.aea_restore.proofs.Loops.{adds_one}

each-filtered : {A : Type 0} → (p : A → Bool) (P : A → Type 0) (xs : List A) → Each P xs → Each (λ x. P x × IsTrue (p x)) (filter p xs)
each-filtered p P [] each = tt
each-filtered p P (x ∷ xs) each = elim (cases_Bool (p x)) [
  | inl kept ↦ rw kept ((each.0, kept), each-filtered p P xs each.1)
  | inr dropped ↦ rw dropped (each-filtered p P xs each.1)
]

-- ---- plans

-- the steps of a plan can be carried out
pub plan_steps : (l : Lattice) (known : BlockId → Bool) (steps : List Step) → IsPlan l known steps → AreStepsOn l known steps
plan_steps l known steps plan = record {
  fresh = λ b given. let is = (plan.whole b).0 given in (is.0, is.1);
  forced = plan.forced;
}

-- ---- fates

-- listed equations of a block give it
pub sum_gives : (l : Lattice) (had : BlockId → Bool) (b : BlockId) (es : List EqId) → IsSum l had b es → Give l had b es
sum_gives l had b es sum = record {
  valid = Each-All (HasEquation l) es
      (subst (Each (HasEquation l)) (sym sum.ordered) (weaker (filter (is_listed es) (equations_of l)) (each-filtered (is_listed es) (HasEquation l) (equations_of l) (each-equations_of l))));
  contains = over b ∙ sum.gives.contains;
  others = λ d d_has left other. sum.gives.others d d_has (sym (over d) ∙ left) other;
}
  where
    over : (d : BlockId) → is_left_over l es d ≡ adds_up_to l (is_listed es) d
    over d = ap (λ (xs : List EqId). is_odd_count (λ e. is_in_equation l e d) xs) sum.ordered ∙ odd-filter (is_listed es) (λ e. is_in_equation l e d) (equations_of l)

    weaker : (xs : List EqId) → Each (λ e. HasEquation l e × IsTrue (is_listed es e)) xs → Each (HasEquation l) xs
    weaker [] each = tt
    weaker (x ∷ xs) each = (each.0.0, weaker xs each.1)

-- Fates of blocks that are not marked, where all that is known is marked, and what is marked is had.
pub fates_can : (l : Lattice) (known marked had : BlockId → Bool) → ((d : BlockId) → HasBlock l d → IsTrue (known d) → IsTrue (marked d)) → ((d : BlockId) → HasBlock l d → IsTrue (marked d) → IsTrue (had d))
    → (fates : List Fate) (bs : List BlockId) → map block_of_fate fates ≡ bs → Each (λ b. HasBlock l b × IsTrue (not (marked b))) bs → All (IsFate l marked) fates → All (IsFateOn l known had) fates
fates_can l known marked had within so [] bs same clear each = All-nil (IsFateOn l known had)
fates_can l known marked had within so (f ∷ fs) bs same clear each =
    let opens : Each (λ b. HasBlock l b × IsTrue (not (marked b))) (block_of_fate f ∷ map block_of_fate fs) = subst (Each (λ b. HasBlock l b × IsTrue (not (marked b)))) (sym same) clear in
    All-cons (IsFateOn l known had) f fs (one f opens.0 (All-head (IsFate l marked) f fs each))
    (fates_can l known marked had within so fs (map block_of_fate fs) refl opens.1 (All-tail (IsFate l marked) f fs each))
  where
    not_true : (x : Bool) → not x ≡ true → x ≡ true → ⊥
    not_true true e is = true≢false (sym e)
    not_true false e is = true≢false (sym is)

    one : (g : Fate) → HasBlock l (block_of_fate g) × IsTrue (not (marked (block_of_fate g))) → IsFate l marked g → IsFateOn l known had g
    one (Sum b es) is sum = record {
      block = is.0;
      fresh = elim (cases_Bool (known b)) [ inl k ↦ absurd (not_true (marked b) is.1 (within b is.0 k)) | inr no' ↦ no' ];
      gives = give_more l marked had b es so (sum_gives l marked b es sum);
    }
    one (Word b nodes) is word = tt

-- A plan, and the fates over what it reaches, can be carried out.
pub plans_can : (l : Lattice) (known : BlockId → Bool) (m : Marked) (steps : List Step) (fates : List Fate) → AreOfPlan l known m steps fates → CanBeRestored l known steps fates
plans_can l known m steps fates are = record {
  plan = plan_steps l known steps are.plan;
  sums = fates_can l known (is_marked m) (is_had known steps)
      (λ d has is. (are.reached d (subst (λ (k : Lattice). HasBlock k d) (sym are.lattice) has)).1 (reached-known m.lattice known d is))
      (λ d has is.
      let closure = subst (λ (k : Lattice). IsReached k known d) are.lattice ((are.reached d (subst (λ (k : Lattice). HasBlock k d) (sym are.lattice) has)).0 is) in
      elim (cases_Bool (known d)) [
        | inl yes' ↦ or_left (known d) (is_among (blocks_given steps) d) yes'
        | inr no' ↦ or_right (known d) (is_among (blocks_given steps) d) ((are.plan.whole d).1 (has, no', closure))
      ])
      fates (filter (λ b. not (is_marked m b)) (blocks_of l)) are.rest.blocks
      (each-filtered (λ b. not (is_marked m b)) (HasBlock l) (blocks_of l) (each-blocks_of l)) are.rest.each;
}

-- ---- what is given

summed_inside : (l : Lattice) (known had : BlockId → Bool) (fates : List Fate) → All (IsFateOn l known had) fates
    → (b : BlockId) → is_among (blocks_summed fates) b ≡ true → HasBlock l b × (known b ≡ false)
summed_inside l known had [] all b h = absurd (true≢false (sym h))
summed_inside l known had (Sum d es ∷ fates) all b h =
    let one = All-head (IsFateOn l known had) (Sum d es) fates all in
    elim (or_cases (same_block b d) (is_among (blocks_summed fates) b) h) [
      | inl here ↦ subst (λ (e : BlockId). HasBlock l e × (known e ≡ false)) (sym (same_block-equal b d here)) (one.block, one.fresh)
      | inr later ↦ summed_inside l known had fates (All-tail (IsFateOn l known had) (Sum d es) fates all) b later
    ]
summed_inside l known had (Word d nodes ∷ fates) all b h = summed_inside l known had fates (All-tail (IsFateOn l known had) (Word d nodes) fates all) b h

-- a block that is given is one of the lattice, and not known
pub given_inside : (l : Lattice) (known : BlockId → Bool) (steps : List Step) (fates : List Fate) → CanBeRestored l known steps fates → (b : BlockId) → IsGiven steps fates b → HasBlock l b × (known b ≡ false)
given_inside l known steps fates can b given =
    elim (or_cases (is_among (blocks_given steps) b) (is_among (blocks_summed fates) b) given) [
      | inl step ↦ can.plan.fresh b step
      | inr sum ↦ summed_inside l known (is_had known steps) fates can.sums b sum
    ]

-- sums that can be carried out from what is had can be so from marks of it
pub fates_sum : (l : Lattice) (known had marked : BlockId → Bool) → ((d : BlockId) → HasBlock l d → IsTrue (had d) → IsTrue (marked d)) → (fates : List Fate) → All (IsFateOn l known had) fates → All (CanSum l marked) fates
fates_sum l known had marked so [] all = All-nil (CanSum l marked)
fates_sum l known had marked so (f ∷ fs) all =
    All-cons (CanSum l marked) f fs (one f (All-head (IsFateOn l known had) f fs all)) (fates_sum l known had marked so fs (All-tail (IsFateOn l known had) f fs all))
  where
    one : (g : Fate) → IsFateOn l known had g → CanSum l marked g
    one (Sum b es) sum = (sum.block, give_more l had marked b es so sum.gives)
    one (Word b nodes) word = tt

-- and so from more that is had
pub sum_more : (l : Lattice) (had more : BlockId → Bool) (f : Fate) → ((d : BlockId) → HasBlock l d → IsTrue (had d) → IsTrue (more d)) → CanSum l had f → CanSum l more f
sum_more l had more (Sum b es) so can = (can.0, give_more l had more b es so can.1)
sum_more l had more (Word b nodes) so can = tt

-- the block of a Sum is the one that it gives
pub summed_one : (f : Fate) (b : BlockId) (es : List EqId) → f ≡ Sum b es → (d : BlockId) → d ≡ b → IsTrue (is_among (block_summed f) d)
summed_one f b es is d same =
    subst (λ (g : Fate). IsTrue (is_among (block_summed g) d)) (sym is)
    (or_left (same_block d b) false (ap (same_block d) (sym same) ∙ same_block-refl d))

-- marks with one block more have what a Sum gives
pub summed_adds : (l : Lattice) (before after : BlockId → Bool) (f : Fate) (b : BlockId) (es : List EqId) → f ≡ Sum b es → AddsBlock l b before after → (d : BlockId) → HasBlock l d → after d ≡ (before d || is_among (block_summed f) d)
summed_adds l before after f b es is adds d has =
    subst (λ (g : Fate). after d ≡ (before d || is_among (block_summed g) d)) (sym is) (adds_one l b before after adds d has)

-- a Word gives nothing
pub summed_none : (f : Fate) (b : BlockId) (nodes : List ℕ) → f ≡ Word b nodes → (x : Bool) (d : BlockId) → x ≡ (x || is_among (block_summed f) d)
summed_none f b nodes is x d = subst (λ (g : Fate). x ≡ (x || is_among (block_summed g) d)) (sym is) (none x)
  where
    none : (y : Bool) → y ≡ (y || false)
    none true = refl
    none false = refl
