-- What equations add up to and what codewords contain: one of the two for each block, and what each says of data lists.
use Rattle.std.proofs.Common.{◌≡◌, ℕ, zero, suc, Bool, true, false, not, ◌&&◌, ◌==◌, List, [], ◌∷◌, map, get_or, length, refl, sym, ◌∙◌, ap, subst, arith, inl, inr, IsTrue}
use Rattle.std.proofs.lemmas.Bool.{cases_Bool, and_parts, eq-eqb, ne_eqb, eqb-true, true≢false}
use Rattle.aea_lattice.specs.declared.blocks.Class.TheVariants.{Datum}
use Rattle.aea_lattice.specs.declared.blocks.BlockId.{BlockId}
use Rattle.aea_lattice.specs.declared.blocks.EqId.{EqId}
use Rattle.aea_lattice.specs.declared.grid.Lattice.{Lattice}
use Rattle.aea_lattice.specs.Blocks.{block_of, same_block, HasBlock, number_of, blocks_count, blocks_of, block_at}
use Rattle.aea_lattice.specs.Equations.{HasEquation, equation_blocks, is_in_equation, is_odd_count, equations_of, adds_up_to}
use Rattle.aea_lattice.specs.Facts.{MeetsEvenly}
use Rattle.aea_lattice.proofs.Codewords.{even-codeword, data_of}
use Rattle.aea_lattice.specs.Parity.{differ}
use Rattle.aea_gauss_laws.specs.Parities.{odd_below}
use Rattle.aea_lattice.proofs.Equations.{same_block-equal, same_block-refl, number_below, number_equal}
use Rattle.aea_lattice.proofs.Numbers.{length-blocks_of}
use Rattle.aea_gauss_laws.specs.Sums.{GivesBlock, Escapes}
use Rattle.aea_lattice.proofs.Odd.{odd-none, differ-assoc, odd-cons, odd-same, Each, Each-more, Each-map, Each-from_map, differ-false_r}
use Rattle.aea_lattice.proofs.BlockAt.{block_at-number, number-block_at}
use Rattle.aea_lattice.proofs.Once.{each-blocks_of, each-equations_of, odd-at, odd-at_equation}
use Rattle.aea_lattice.specs.Lists.{same_equation}
use Rattle.aea_lattice.proofs.Even.{meet_equation, sums_even, adds-differ, adds-none, adds-one}
use Rattle.aea_gauss_laws.proofs.Columns.{odd_below-same, odd_below-one, meets, IsSpace, Outcome, reached, missed, alternative}

-- ---- counts over a list and counts over its places

odd_below-shift : {A : Type 0} → (p : A → Bool) (x : A) (xs : List A) (d : A) (m : ℕ)
    → odd_below (λ k. p (get_or (x ∷ xs) k d)) (suc m) ≡ differ (p x) (odd_below (λ k. p (get_or xs k d)) m)
odd_below-shift p x xs d zero = sym (differ-false_r (p x))
odd_below-shift p x xs d (suc m) =
    ap (λ b. differ b (p (get_or xs m d))) (odd_below-shift p x xs d m)
    ∙ differ-assoc (p x) (odd_below (λ k. p (get_or xs k d)) m) (p (get_or xs m d))

-- the parity over all places of a list, of whether the item there passes, is that of the items that pass
pub odd_below-list : {A : Type 0} → (p : A → Bool) (xs : List A) (d : A) → odd_below (λ k. p (get_or xs k d)) (length xs) ≡ is_odd_count p xs
odd_below-list p [] d = refl
odd_below-list p (x ∷ xs) d =
    ap (odd_below (λ k. p (get_or (x ∷ xs) k d))) (length-cons x xs)
    ∙ odd_below-shift p x xs d (length xs)
    ∙ ap (differ (p x)) (odd_below-list p xs d)
    ∙ sym (odd-cons p x xs)
  where
    length-cons : {A : Type 0} → (x : A) (xs : List A) → length (x ∷ xs) ≡ suc (length xs)
    length-cons x xs = omega arith

-- the parity over all numbers of blocks, of whether the block there passes, is that of the blocks that pass
pub odd_below-blocks : (l : Lattice) (p : BlockId → Bool) → odd_below (λ k. p (block_at l k)) (blocks_count l) ≡ is_odd_count p (blocks_of l)
odd_below-blocks l p =
    ap (odd_below (λ k. p (block_at l k))) (sym (length-blocks_of l)) ∙ odd_below-list p (blocks_of l) (block_of 0 Datum)

-- ---- sets of equations that add up to b and known blocks meet an even set as b does

module _ (l : Lattice) (known : BlockId → Bool) (b : BlockId) (inside : HasBlock l b) where
  only_b : (t : EqId → Bool) (x : BlockId → Bool) → GivesBlock l known b t → ((d : BlockId) → HasBlock l d → IsTrue (known d) → x d ≡ false)
      → (d : BlockId) → HasBlock l d → (adds_up_to l t d && x d) ≡ (same_block b d && x d)
  only_b t x gives misses d has =
      elim (cases_Bool (same_block b d)) [
        | inl same ↦ (let is : b ≡ d = same_block-equal b d same in let added : adds_up_to l t d ≡ true = subst (λ c. adds_up_to l t c ≡ true) is gives.contains in rw (added, same) refl)
        | inr other ↦ elim (cases_Bool (adds_up_to l t d)) [
          | inl added ↦
              (let missed : x d ≡ false = misses d has (gives.others d has added (λ same. true≢false (sym (subst (λ c. same_block c d ≡ true) same (same_block-refl d)) ∙ other))) in
              rw (added, other, missed) refl)
          | inr not_added ↦ rw (not_added, other) refl
        ]
      ]

  -- an even set that has no known block lacks what equations give
  pub given-missed : (t : EqId → Bool) (x : BlockId → Bool) → GivesBlock l known b t → MeetsEvenly l x
      → ((d : BlockId) → HasBlock l d → IsTrue (known d) → x d ≡ false) → x b ≡ false
  given-missed t x gives even misses =
      sym (odd-at l b x inside)
      ∙ sym (odd-same (λ d. adds_up_to l t d && x d) (λ d. same_block b d && x d) (blocks_of l)
      (Each-more (HasBlock l) (λ d. (adds_up_to l t d && x d) ≡ (same_block b d && x d)) (blocks_of l) (λ d has. only_b t x gives misses d has) (each-blocks_of l)))
      ∙ sums_even l t x even

-- ---- the one or the other

-- the sums of equations at the blocks that are not known, by their numbers
abbrev pub IsSumAt : Lattice → (BlockId → Bool) → (ℕ → Bool) → Type 0
IsSumAt l known v = (t : EqId → Bool) × ((k : ℕ) → v k ≡ (not (known (block_at l k)) && adds_up_to l t (block_at l k)))

-- a conjunction with an XOR is the XOR of the conjunctions
pub and-differ : (a b c : Bool) → (a && differ b c) ≡ differ (a && b) (a && c)
and-differ true b c = refl
and-differ false b c = refl

-- with false as second, a conjunction is false
pub and-no : (a : Bool) → (a && false) ≡ false
and-no true = refl
and-no false = refl

pub sums_space : (l : Lattice) (known : BlockId → Bool) → IsSpace (IsSumAt l known)
sums_space l known = record {
  none = ((λ e. false), λ k. sym (ap (λ b. not (known (block_at l k)) && b) (adds-none l (block_at l k)) ∙ and-no (not (known (block_at l k)))));
  sum = λ u v hu hv. (
    (λ e. differ (hu.0 e) (hv.0 e)),
    λ k.
        ap (λ b. differ b (v k)) (hu.1 k) ∙ ap (differ (not (known (block_at l k)) && adds_up_to l hu.0 (block_at l k))) (hv.1 k)
        ∙ sym (and-differ (not (known (block_at l k))) (adds_up_to l hu.0 (block_at l k)) (adds_up_to l hv.0 (block_at l k)))
        ∙ ap (λ b. not (known (block_at l k)) && b) (sym (adds-differ l hu.0 hv.0 (block_at l k))),
  );
}

-- the row of an equation
abbrev pub row_of : Lattice → (BlockId → Bool) → EqId → ℕ → Bool
row_of l known e k = not (known (block_at l k)) && is_in_equation l e (block_at l k)

pub row_is_sum : (l : Lattice) (known : BlockId → Bool) (e : EqId) → HasEquation l e → IsSumAt l known (row_of l known e)
row_is_sum l known e has =
    (same_equation e, λ k. ap (λ b. not (known (block_at l k)) && b) (sym (adds-one l e (block_at l k) has)))

-- a block gets what equations give, or a codeword that has it and no known one
pub data Either (l : Lattice) (known : BlockId → Bool) (b : BlockId) : Type 0 where
  given : (t : EqId → Bool) → GivesBlock l known b t → Either l known b
  escaped : (nodes : ℕ → Bool) → Escapes l known b nodes → Either l known b

pub and-swap : (a b c : Bool) → ((a && b) && c) ≡ (b && (a && c))
and-swap true true c = refl
and-swap true false c = refl
and-swap false true c = refl
and-swap false false c = refl

-- the set of blocks that are not known and at whose numbers the test is true
abbrev pub set_at : Lattice → (BlockId → Bool) → (ℕ → Bool) → BlockId → Bool
set_at l known x d = not (known d) && x (number_of l d)

-- the row of an equation meets a test oddly exactly where an odd number of the equation's blocks are unknown
-- with a number that passes
pub row-meets : (l : Lattice) (known : BlockId → Bool) (x : ℕ → Bool) (e : EqId) → HasEquation l e
    → meets (row_of l known e) x (blocks_count l) ≡ is_odd_count (set_at l known x) (equation_blocks l e)
row-meets l known x e has =
    odd_below-same (λ k. row_of l known e k && x k) (λ k. is_in_equation l e (block_at l k) && set_at l known x (block_at l k)) (blocks_count l)
    (λ k less. and-swap (not (known (block_at l k))) (is_in_equation l e (block_at l k)) (x k)
    ∙ ap (λ j. is_in_equation l e (block_at l k) && (not (known (block_at l k)) && x j)) (sym (number-block_at l k less)))
    ∙ odd_below-blocks l (λ d. is_in_equation l e d && set_at l known x d)
    ∙ meet_equation l e (set_at l known x) has

-- the equation of a row, by the list of all equations
even_rows : (l : Lattice) (known : BlockId → Bool) (x : ℕ → Bool)
    → Each (λ e. meets (row_of l known e) x (blocks_count l) ≡ false) (equations_of l) → MeetsEvenly l (set_at l known x)
even_rows l known x each e has =
    sym (row-meets l known x e has)
    ∙ sym (odd-at_equation l e (λ f. meets (row_of l known f) x (blocks_count l)) has)
    ∙ odd-same (λ f. same_equation e f && meets (row_of l known f) x (blocks_count l)) (λ f. false) (equations_of l)
    (Each-more (λ f. meets (row_of l known f) x (blocks_count l) ≡ false) (λ f. (same_equation e f && meets (row_of l known f) x (blocks_count l)) ≡ false) (equations_of l)
    (λ f h. ap (λ b. same_equation e f && b) h ∙ and-no (same_equation e f)) each)
    ∙ odd-none (equations_of l)

number_test : (l : Lattice) (d b : BlockId) → HasBlock l d → HasBlock l b → (number_of l d == number_of l b) ≡ true → d ≡ b
number_test l d b hd hb same = number_equal l d b hd hb (eqb-true (number_of l d) (number_of l b) same)

sum_at : (l : Lattice) (known : BlockId → Bool) (v : ℕ → Bool) (t : EqId → Bool) → ((k : ℕ) → v k ≡ (not (known (block_at l k)) && adds_up_to l t (block_at l k)))
    → (d : BlockId) → HasBlock l d → v (number_of l d) ≡ (not (known d) && adds_up_to l t d)
sum_at l known v t h d has = h (number_of l d) ∙ ap (λ c. not (known c) && adds_up_to l t c) (block_at-number l d has)

either_from : (l : Lattice) (known : BlockId → Bool) (b : BlockId) → HasBlock l b → known b ≡ false
    → Outcome (blocks_count l) (IsSumAt l known) (map (row_of l known) (equations_of l)) (λ k. k == number_of l b) → Either l known b
either_from l known b inside not_known (reached v hv is) =
    given hv.0 (record {
      contains =
          (and_parts (not (known b)) (adds_up_to l hv.0 b)
          (sym (sum_at l known v hv.0 hv.1 b inside)
          ∙ is (number_of l b) (number_below l b inside)
          ∙ eq-eqb (number_of l b) (number_of l b) refl)).1;
      others = λ d has added other.
          elim (cases_Bool (known d)) [
            | inl yes' ↦ yes'
            | inr no' ↦
                absurd (other (number_test l d b has inside
                (sym (is (number_of l d) (number_below l d has))
                ∙ sum_at l known v hv.0 hv.1 d has
                ∙ ap (λ a. not a && adds_up_to l hv.0 d) no'
                ∙ added)))
          ];
    })
either_from l known b inside not_known (missed x even odd) =
    let word = even-codeword l (set_at l known x) (even_rows l known x (Each-from_map (row_of l known) (λ r. meets r x (blocks_count l) ≡ false) (equations_of l) even)) in
    let here : x (number_of l b) ≡ true =
    sym (odd_below-one (λ k. k == number_of l b && x k) (blocks_count l) (number_of l b) (number_below l b inside)
    (λ k less other. ap (λ a. a && x k) (ne_eqb k (number_of l b) other))
    ∙ ap (λ a. a && x (number_of l b)) (eq-eqb (number_of l b) (number_of l b) refl))
    ∙ odd in
    escaped (data_of (set_at l known x)) (record {
      contains = sym (word b inside) ∙ ap (λ a. not a && x (number_of l b)) not_known ∙ here;
      misses = λ d has is_known. sym (word d has) ∙ ap (λ a. not a && x (number_of l d)) is_known;
    })

-- a block of the lattice that is not known is given by some equations, or a codeword has it and no known block
pub one_or_other : (l : Lattice) (known : BlockId → Bool) (b : BlockId) → HasBlock l b → known b ≡ false → Either l known b
one_or_other l known b inside not_known =
    either_from l known b inside not_known
    (alternative (blocks_count l) (IsSumAt l known) (sums_space l known) (map (row_of l known) (equations_of l))
    (Each-map (row_of l known) (IsSumAt l known) (equations_of l)
    (Each-more (HasEquation l) (λ e. IsSumAt l known (row_of l known e)) (equations_of l) (λ e has. row_is_sum l known e has) (each-equations_of l)))
    (λ k. k == number_of l b))
