-- The other blocks of equations that give a block are had, and add up to it in every lattice.
use Rattle.std.proofs.Common.{◌≡◌, ℕ, Bool, true, false, not, ◌&&◌, List, [], ◌∷◌, ◌++◌, filter, Option, Some, None, refl, sym, ◌∙◌, ap, inl, inr}
use Rattle.std.specs.Prelude.{IsTrue}
use Rattle.std.specs.List.{flat_map}
use Rattle.std.proofs.lemmas.Bool.{cases_Bool, true≢false, and_parts}
use Rattle.aea_lattice.specs.declared.blocks.Class.TheVariants.{Datum}
use Rattle.aea_lattice.specs.declared.blocks.BlockId.{BlockId}
use Rattle.aea_lattice.specs.declared.blocks.EqId.{EqId}
use Rattle.aea_lattice.specs.declared.grid.Lattice.{Lattice}
use Rattle.aea_lattice.specs.Blocks.{HasBlock, block_of, blocks_of, same_block}
use Rattle.aea_lattice.specs.Strands.{previous}
use Rattle.aea_lattice.specs.Equations.{HasEquation, is_odd_count, is_in_equation, input_blocks, equation_blocks, adds_up_to}
use Rattle.aea_lattice.specs.Closure.{IsForcedBy}
use Rattle.aea_lattice.specs.Data.{value_of}
use Rattle.aea_lattice.specs.Facts.{AreOfSum}
use Rattle.aea_lattice.specs.Lists.{same_equation}
use Rattle.aea_lattice.specs.Parity.{differ}
use Rattle.aea_lattice.proofs.Equations.{same_block-equal, same_block-refl, member_inside, datum_in, output_in, input_in}
use Rattle.aea_lattice.proofs.Among.{Each-All, All-Each}
use Rattle.aea_lattice.proofs.Odd.{odd-cons, odd-append, odd-filter, odd-and, same_test, differ-false_r, Each, Each-append}
use Rattle.aea_lattice.proofs.Once.{odd-at}
use Rattle.aea_lattice.proofs.Even.{meet_equation, adds-differ, adds-none, adds-one}
use Rattle.aea_lattice.proofs.Sums.{length-value_at}
use Rattle.aea_lattice.proofs.SetSums.{sets-add_up}
use Rattle.aea_restore.specs.Plans.{is_left_over, Give}
use Rattle.aea_restore.specs.Drawn.{IsSumOf, ArePicked, is_other, other_blocks}
use Rattle.aea_restore.proofs.Sums.{sum_others, values_wide}

-- ---- the set of equations that are in a list an odd number of times

abbrev odd_set : List EqId → EqId → Bool
odd_set [] = λ f. false
odd_set (e ∷ es) = λ f. differ (same_equation e f) (odd_set es f)

-- it adds up to what is left over of the list
adds_list : (l : Lattice) (es : List EqId) (d : BlockId) → Each (HasEquation l) es → adds_up_to l (odd_set es) d ≡ is_left_over l es d
adds_list l [] d each = adds-none l d
adds_list l (e ∷ es) d each =
    adds-differ l (same_equation e) (odd_set es) d
    ∙ ap (λ x. differ x (adds_up_to l (odd_set es) d)) (adds-one l e d each.0)
    ∙ ap (differ (is_in_equation l e d)) (adds_list l es d each.1)
    ∙ sym (odd-cons (λ f. is_in_equation l f d) e es)

-- ---- how often a block occurs in the blocks of equations

and-comm : (a b : Bool) → (a && b) ≡ (b && a)
and-comm true true = refl
and-comm true false = refl
and-comm false true = refl
and-comm false false = refl

odd-passing : (l : Lattice) (p : BlockId → Bool) (b : BlockId) → HasBlock l b → is_odd_count (λ d. p d && same_block b d) (blocks_of l) ≡ p b
odd-passing l p b inside =
    ap (λ q. is_odd_count q (blocks_of l)) (same_test (λ d. p d && same_block b d) (λ d. same_block b d && p d) (λ d. and-comm (p d) (same_block b d)))
    ∙ odd-at l b p inside

odd-equation : (l : Lattice) (e : EqId) (b : BlockId) → HasEquation l e → HasBlock l b → is_odd_count (same_block b) (equation_blocks l e) ≡ is_in_equation l e b
odd-equation l e b has inside = sym (meet_equation l e (same_block b) has) ∙ odd-passing l (is_in_equation l e) b inside

odd-equations : (l : Lattice) (b : BlockId) → HasBlock l b → (es : List EqId) → Each (HasEquation l) es
    → is_odd_count (same_block b) (flat_map (equation_blocks l) es) ≡ is_left_over l es b
odd-equations l b inside [] each = refl
odd-equations l b inside (e ∷ es) each =
    odd-append (same_block b) (equation_blocks l e) (flat_map (equation_blocks l) es)
    ∙ ap (λ y. differ y (is_odd_count (same_block b) (flat_map (equation_blocks l) es))) (odd-equation l e b each.0 inside)
    ∙ ap (differ (is_in_equation l e b)) (odd-equations l b inside es each.1)
    ∙ sym (odd-cons (λ f. is_in_equation l f b) e es)

each-blocks_at : (l : Lattice) (e : EqId) → HasEquation l e → (p : Option ℕ) → previous l e.class e.node ≡ p
    → Each (HasBlock l) (input_blocks p e.class ++ block_of e.node Datum ∷ block_of e.node e.class ∷ [])
each-blocks_at l e has None was =
    (member_inside l e (block_of e.node Datum) has (datum_in l e), (member_inside l e (block_of e.node e.class) has (output_in l e), tt))
each-blocks_at l e has (Some g) was = (
  member_inside l e (block_of g e.class) has (input_in l e g was),
  (member_inside l e (block_of e.node Datum) has (datum_in l e), (member_inside l e (block_of e.node e.class) has (output_in l e), tt)),
)

pub each-equations : (l : Lattice) (es : List EqId) → Each (HasEquation l) es → Each (HasBlock l) (flat_map (equation_blocks l) es)
each-equations l [] each = tt
each-equations l (e ∷ es) each =
    Each-append (HasBlock l) (equation_blocks l e) (flat_map (equation_blocks l) es)
    (each-blocks_at l e each.0 (previous l e.class e.node) refl) (each-equations l es each.1)

each-filter : {A : Type 0} → (p : A → Bool) (P : A → Type 0) (xs : List A) → Each P xs → Each (λ x. P x × IsTrue (p x)) (filter p xs)
each-filter p P [] each = tt
each-filter p P (x ∷ xs) each = elim (cases_Bool (p x)) [
  | inl kept ↦ rw kept ((each.0, kept), each-filter p P xs each.1)
  | inr dropped ↦ rw dropped (each-filter p P xs each.1)
]

-- ---- the other blocks

module _ (l : Lattice) (ready : BlockId → Bool) (b : BlockId) (es : List EqId) (has : HasBlock l b) (gives : Give l ready b es) where
  abbrev all : List BlockId
  all = flat_map (equation_blocks l) es

  each_equation : Each (HasEquation l) es
  each_equation = All-Each (HasEquation l) es gives.valid

  picked : Each (λ d. HasBlock l d × IsTrue (is_other ready b d)) (other_blocks l ready b es)
  picked = each-filter (is_other ready b) (HasBlock l) (flat_map (equation_blocks l) es) (each-equations l es each_equation)

  all-more : {A : Type 0} → (P Q : A → Type 0) → ((x : A) → P x → Q x) → (xs : List A) → Each P xs → Each Q xs
  all-more P Q so [] each = tt
  all-more P Q so (x ∷ xs) each = (so x each.0, all-more P Q so xs each.1)

  -- they can be read
  pub others_ready : ArePicked l ready (other_blocks l ready b es)
  others_ready =
      Each-All (λ d. HasBlock l d × IsTrue (ready d)) (other_blocks l ready b es)
      (all-more (λ d. HasBlock l d × IsTrue (is_other ready b d)) (λ d. HasBlock l d × IsTrue (ready d))
      (λ d both. (both.0, (and_parts (ready d) (not (same_block d b)) both.1).0)) (other_blocks l ready b es) picked)

  -- how often one occurs among them
  other_count : (d : BlockId) → HasBlock l d → is_odd_count (same_block d) (other_blocks l ready b es) ≡ (is_other ready b d && is_left_over l es d)
  other_count d d_has =
      odd-filter (is_other ready b) (same_block d) (flat_map (equation_blocks l) es)
      ∙ ap (λ p. is_odd_count p (flat_map (equation_blocks l) es))
      (same_test (λ c. is_other ready b c && same_block d c) (λ c. same_block d c && is_other ready b d) (λ c. at c))
      ∙ odd-and (same_block d) (is_other ready b d) (flat_map (equation_blocks l) es)
      ∙ ap (λ x. x && is_other ready b d) (odd-equations l d d_has es each_equation)
      ∙ and-comm (is_left_over l es d) (is_other ready b d)
    where
      at : (c : BlockId) → (is_other ready b c && same_block d c) ≡ (same_block d c && is_other ready b d)
      at c = elim (cases_Bool (same_block d c)) [
        | inl same ↦
            and-comm (is_other ready b c) (same_block d c)
            ∙ ap (λ a. same_block d c && is_other ready b a) (sym (same_block-equal d c same))
        | inr other ↦ and-comm (is_other ready b c) (same_block d c) ∙ (rw other refl)
      ]

  with_block : AreOfSum l (odd_set es) (b ∷ other_blocks l ready b es)
  with_block = record {
    inside = Each-All (HasBlock l) (b ∷ other_blocks l ready b es)
        (has, all-more (λ d. HasBlock l d × IsTrue (is_other ready b d)) (HasBlock l) (λ d both. both.0) (other_blocks l ready b es) picked);
    counted = λ d d_has.
        odd-cons (same_block d) b (other_blocks l ready b es)
        ∙ ap (differ (same_block d b)) (other_count d d_has)
        ∙ at d d_has
        ∙ sym (adds_list l es d each_equation);
  }
    where
      at : (d : BlockId) → HasBlock l d → differ (same_block d b) (is_other ready b d && is_left_over l es d) ≡ is_left_over l es d
      at d d_has = elim (cases_Bool (same_block d b)) [
        | inl same ↦
            (let is : d ≡ b = same_block-equal d b same in
            let none : is_other ready b d ≡ false = ap (λ x. ready d && not x) same ∙ and-comm (ready d) false in
            ap (λ x. differ x (is_other ready b d && is_left_over l es d)) same
            ∙ ap (λ x. not (x && is_left_over l es d)) none
            ∙ sym (ap (is_left_over l es) is ∙ gives.contains))
        | inr other ↦
            ap (λ x. differ x (is_other ready b d && is_left_over l es d)) other
            ∙ elim (cases_Bool (is_left_over l es d)) [
              | inl left ↦
                  (let is : IsTrue (ready d) = gives.others d d_has left (λ same. true≢false (sym (same_block-refl d) ∙ ap (same_block d) same ∙ other)) in
                  ap (λ x. (x && not (same_block d b)) && is_left_over l es d) is
                  ∙ ap (λ x. not x && is_left_over l es d) other)
              | inr none ↦ and-comm (is_other ready b d) (is_left_over l es d) ∙ ap (λ x. x && is_other ready b d) none ∙ sym none
            ]
      ]

  -- and in the lattice of every data list the block is their XOR
  pub others_sum : IsSumOf l b (other_blocks l ready b es)
  others_sum w datas is =
      sum_others w (value_of l w datas) b (other_blocks l ready b es) (length-value_at l w datas b.node b.class is)
      (values_wide l w datas (other_blocks l ready b es) is)
      (sets-add_up l w datas (odd_set es) (b ∷ other_blocks l ready b es) is with_block)

-- ---- what gives a block

-- the equation of a step gives its block
pub step_gives : (l : Lattice) (had : BlockId → Bool) (b : BlockId) (e : EqId) → IsForcedBy l had b e → Give l had b (e ∷ [])
step_gives l had b e forced = record {
  valid = Each-All (HasEquation l) (e ∷ []) (forced.equation, tt);
  contains = one b ∙ forced.contains;
  others = λ d d_has left other. forced.others d (sym (one d) ∙ left) other;
}
  where
    one : (d : BlockId) → is_left_over l (e ∷ []) d ≡ is_in_equation l e d
    one d = odd-cons (λ f. is_in_equation l f d) e [] ∙ differ-false_r (is_in_equation l e d)

-- equations that give a block give it where more is had
pub give_more : (l : Lattice) (had more : BlockId → Bool) (b : BlockId) (es : List EqId) → ((d : BlockId) → HasBlock l d → IsTrue (had d) → IsTrue (more d)) → Give l had b es → Give l more b es
give_more l had more b es so gives = record {
  valid = gives.valid;
  contains = gives.contains;
  others = λ d d_has left other. so d d_has (gives.others d d_has left other);
}

-- those that are picked of the blocks of equations are blocks of the lattice
pub others_picked : (l : Lattice) (ready : BlockId → Bool) (b : BlockId) (es : List EqId) → HasBlock l b → Give l ready b es → ArePicked l (is_other ready b) (other_blocks l ready b es)
others_picked l ready b es has gives = Each-All (λ d. HasBlock l d × IsTrue (is_other ready b d)) (other_blocks l ready b es) (picked l ready b es has gives)
