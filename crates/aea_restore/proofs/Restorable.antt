-- What a plan gives is exactly the damaged blocks that the known ones determine.
use Rattle.std.proofs.Common.{◌≡◌, Bool, true, false, not, List, [], ◌∷◌, map, filter, refl, sym, ◌∙◌, ap, subst, inl, inr}
use Rattle.std.specs.Prelude.{All, IsTrue, ◌↔◌}
use Rattle.std.proofs.lemmas.Bool.{cases_Bool, or_cases, or_left, or_right, false≢true}
use Rattle.std.proofs.lemmas.List.Elements.{All-head, All-tail}
use Rattle.aea_lattice.specs.declared.blocks.BlockId.{BlockId}
use Rattle.aea_lattice.specs.declared.blocks.EqId.{EqId}
use Rattle.aea_lattice.specs.declared.grid.Lattice.{Lattice}
use Rattle.aea_lattice.specs.Blocks.{HasBlock, same_block, blocks_of}
use Rattle.aea_lattice.specs.Closure.{IsReached, is_among}
use Rattle.aea_lattice.specs.Data.{Determines}
use Rattle.aea_lattice.specs.Facts.{PassingAreAmong, ReachedAreDetermined}
use Rattle.aea_lattice.proofs.Equations.{same_block-equal, same_block-refl}
use Rattle.aea_lattice.proofs.Derivations.{reached-known, among-append_left, among-append_right}
use Rattle.aea_peel.specs.declared.plan.Step.{Step}
use Rattle.aea_peel.specs.Plans.{blocks_given}
use Rattle.aea_view.specs.Marked.{Marked, is_marked}
use Rattle.aea_fates.specs.Sums.{IsSum}
use Rattle.aea_fates.specs.Laws.{SumsAreDetermined, WordsAreOpen, DeterminedStay, AddsDetermined}
use Rattle.aea_gauss.specs.declared.fates.Fate.{Fate}
use Rattle.aea_gauss.specs.declared.fates.Fate.TheVariants.{Sum, Word}
use Rattle.aea_gauss.specs.Fates.{block_of_fate, IsFate}
use Rattle.aea_restore.specs.Given.{block_summed, blocks_summed, IsGiven}
use Rattle.aea_restore.specs.Laws.{AreOfPlan, IsRestorable}
use Rattle.aea_restore.proofs.Planned.{given_inside, plans_can}

-- the list has a fate of the block, and gives what that gives
record HasFate (l : Lattice) (marked : BlockId → Bool) (fates : List Fate) (b : BlockId) : Type 0 where
  pub fate : Fate
  pub block : block_of_fate fate ≡ b
  pub is : IsFate l marked fate
  pub given : (d : BlockId) → IsTrue (is_among (block_summed fate) d) → IsTrue (is_among (blocks_summed fates) d)

-- a block of the fates has one
has_fate : (l : Lattice) (marked : BlockId → Bool) (fates : List Fate) (bs : List BlockId) (b : BlockId) → map block_of_fate fates ≡ bs → All (IsFate l marked) fates → IsTrue (is_among bs b)
    → HasFate l marked fates b
has_fate l marked [] bs b same each among = absurd (false≢true (ap (λ (ds : List BlockId). is_among ds b) same ∙ among))
has_fate l marked (f ∷ fs) bs b same each among =
    elim (or_cases (same_block b (block_of_fate f)) (is_among (map block_of_fate fs) b) (ap (λ (ds : List BlockId). is_among ds b) same ∙ among)) [
      | inl here ↦ record {
        fate = f;
        block = sym (same_block-equal b (block_of_fate f) here);
        is = All-head (IsFate l marked) f fs each;
        given = λ d is. among-append_left (block_summed f) (blocks_summed fs) d is;
      }
      | inr later ↦
          (let rest = has_fate l marked fs (map block_of_fate fs) b refl (All-tail (IsFate l marked) f fs each) later in record {
            fate = rest.fate;
            block = rest.block;
            is = rest.is;
            given = λ d is. among-append_right (block_summed f) (blocks_summed fs) d (rest.given d is);
          })
    ]

-- a block that is summed has listed equations
summed_listed : (l : Lattice) (marked : BlockId → Bool) (fates : List Fate) → All (IsFate l marked) fates → (b : BlockId) → is_among (blocks_summed fates) b ≡ true → (es : List EqId) × IsSum l marked b es
summed_listed l marked [] all b h = absurd (false≢true h)
summed_listed l marked (Sum d es ∷ fates) all b h =
    elim (or_cases (same_block b d) (is_among (blocks_summed fates) b) h) [
      | inl here ↦ (es, subst (λ (e : BlockId). IsSum l marked e es) (sym (same_block-equal b d here)) (All-head (IsFate l marked) (Sum d es) fates all))
      | inr later ↦ summed_listed l marked fates (All-tail (IsFate l marked) (Sum d es) fates all) b later
    ]
summed_listed l marked (Word d nodes ∷ fates) all b h = summed_listed l marked fates (All-tail (IsFate l marked) (Word d nodes) fates all) b h

module _ (passing : PassingAreAmong) (determined : ReachedAreDetermined) (sums : SumsAreDetermined) (never : WordsAreOpen) (stay : DeterminedStay)
    (l : Lattice) (known : BlockId → Bool) (m : Marked) (steps : List Step) (fates : List Fate) (are : AreOfPlan l known m steps fates) where
  -- what is marked is what is reached
  reach : (b : BlockId) → HasBlock l b → IsTrue (is_marked m b) ↔ IsReached l known b
  reach = subst (λ (k : Lattice). (b : BlockId) → HasBlock k b → IsTrue (is_marked m b) ↔ IsReached k known b) are.lattice are.reached

  -- it adds only what is determined
  adds : AddsDetermined l known (is_marked m)
  adds = record {
    within = λ d has is. (reach d has).1 (reached-known l known d is);
    determined = λ d has is. determined l known d has ((reach d has).0 is);
  }

  restorable_from : (b : BlockId) → IsGiven steps fates b → IsRestorable l known b
  restorable_from b given =
      let inside = given_inside l known steps fates (plans_can l known m steps fates are) b given in record {
        block = inside.0;
        damaged = inside.1;
        determined =
            elim (or_cases (is_among (blocks_given steps) b) (is_among (blocks_summed fates) b) given) [
              | inl step ↦ (let whole = (are.plan.whole b).0 step in determined l known b inside.0 whole.2)
              | inr sum ↦
                  (let listed = summed_listed l (is_marked m) fates are.rest.each b sum in
                  (stay l known (is_marked m) adds b).1 (sums l (is_marked m) b listed.0 inside.0 listed.1))
            ];
      }

  -- a fate of a block that is determined is a Sum
  summed_from : (b : BlockId) → HasBlock l b → Determines l (is_marked m) b → (f : Fate) → block_of_fate f ≡ b → IsFate l (is_marked m) f → IsTrue (is_among (block_summed f) b)
  summed_from b has by (Sum d es) same is = or_left (same_block b d) false (ap (same_block b) same ∙ same_block-refl b)
  summed_from b has by (Word d nodes) same is =
      absurd (never l (is_marked m) d nodes (subst (HasBlock l) (sym same) has) is (subst (Determines l (is_marked m)) (sym same) by))

  given_from : (b : BlockId) → IsRestorable l known b → IsGiven steps fates b
  given_from b is =
      elim (cases_Bool (is_marked m b)) [
        | inl marked ↦ or_left (is_among (blocks_given steps) b) (is_among (blocks_summed fates) b) ((are.plan.whole b).1 (is.block, is.damaged, (reach b is.block).0 marked))
        | inr open' ↦
            (let fate = has_fate l (is_marked m) fates (filter (λ d. not (is_marked m d)) (blocks_of l)) b are.rest.blocks are.rest.each
            ((passing l (λ d. not (is_marked m d)) b).1 (is.block, ap not open')) in
            or_right (is_among (blocks_given steps) b) (is_among (blocks_summed fates) b)
            (fate.given b (summed_from b is.block ((stay l known (is_marked m) adds b).0 is.determined) fate.fate fate.block fate.is)))
      ]

  pub given-restorable : (b : BlockId) → IsGiven steps fates b ↔ IsRestorable l known b
  given-restorable b = (restorable_from b, given_from b)
