-- A block is the XOR of the known blocks of its listed equations.
use Rattle.std.proofs.Common.{◌≡◌, ℕ, Bool, true, false, not, ◌&&◌, List, [], ◌∷◌, map, filter, fold, replicate, length, refl, sym, ◌∙◌, ap, subst, inl, inr}
use Rattle.std.specs.List.{flat_map}
use Rattle.std.proofs.lemmas.Bool.{cases_Bool, true≢false}
use Rattle.std.proofs.lemmas.List.{length-replicate}
use Rattle.aea_lattice.specs.declared.blocks.BlockId.{BlockId}
use Rattle.aea_lattice.specs.declared.blocks.EqId.{EqId}
use Rattle.aea_lattice.specs.declared.grid.Lattice.{Lattice}
use Rattle.aea_lattice.specs.Blocks.{HasBlock, same_block}
use Rattle.aea_lattice.specs.Equations.{is_odd_count, equation_blocks, adds_up_to}
use Rattle.aea_lattice.specs.Data.{xor_bytes, xor_all, value_of}
use Rattle.aea_lattice.specs.Facts.{AreOfSum}
use Rattle.aea_lattice.specs.Lists.{is_listed}
use Rattle.aea_lattice.specs.Parity.{differ}
use Rattle.aea_lattice.proofs.Equations.{same_block-equal, same_block-refl}
use Rattle.aea_lattice.proofs.Among.{Each-All, All-Each}
use Rattle.aea_lattice.proofs.Odd.{odd-cons, odd-filter, odd-none, same_test, Each}
use Rattle.aea_lattice.proofs.Sums.{length-fold, length-value_at, xor_bytes-cancel, xor_bytes-comm, xor_bytes-assoc, xor_bytes-zeros, length-xor_bytes}
use Rattle.aea_lattice.proofs.SetSums.{sets-add_up, sums-listed}
use Rattle.aea_fates.specs.Sums.{IsSum}
use Rattle.aea_fates.specs.Laws.{known_blocks, SumsGiveBlocks}

-- ---- sums that begin with a block

-- a sum that begins with x is the sum of the rest and x
fold-first : {A : Type 0} → (w : ℕ) (f : A → List ℕ) (x : List ℕ) (bs : List A) (start : List ℕ) → ((k : A) → length (f k) ≡ w) → length x ≡ w → length start ≡ w
    → fold xor_bytes (xor_bytes start x) (map f bs) ≡ xor_bytes (fold xor_bytes start (map f bs)) x
fold-first w f x [] start each hx h = refl
fold-first w f x (b ∷ bs) start each hx h =
    ap (λ s. fold xor_bytes s (map f bs)) (xor_bytes-assoc start x (f b) ∙ ap (xor_bytes start) (xor_bytes-comm x (f b)) ∙ sym (xor_bytes-assoc start (f b) x))
    ∙ fold-first w f x bs (xor_bytes start (f b)) each hx (length-xor_bytes start (f b) (h ∙ sym (each b)) ∙ each b)

-- where a sum is zero, its first block is the sum of the others
first-others : (w : ℕ) (f : BlockId → List ℕ) (b : BlockId) (bs : List BlockId) → ((k : BlockId) → length (f k) ≡ w)
    → xor_all w (map f (b ∷ bs)) ≡ replicate w 0 → f b ≡ xor_all w (map f bs)
first-others w f b bs each zeros =
    let rest = xor_all w (map f bs) in
    let long : length rest ≡ w = length-fold w bs f (replicate w 0) (length-replicate w 0) each in
    let split : xor_bytes rest (f b) ≡ replicate w 0 = sym (fold-first w f (f b) bs (replicate w 0) each (each b) (length-replicate w 0)) ∙ zeros in
    sym (xor_bytes-zeros w (f b) (each b))
    ∙ ap (λ z. xor_bytes z (f b)) (sym split)
    ∙ xor_bytes-cancel rest (f b) (long ∙ sym (each b))

-- ---- the block and the known blocks are what the equations add up to

all-filter : {A : Type 0} → (P : A → Type 0) (p : A → Bool) (xs : List A) → Each P xs → Each P (filter p xs)
all-filter P p [] h = tt
all-filter P p (x ∷ xs) h = elim (cases_Bool (p x)) [
  | inl yes' ↦ rw yes' (h.0, all-filter P p xs h.1)
  | inr no' ↦ rw no' (all-filter P p xs h.1)
]

no_both : (x y : Bool) → (x && false) ≡ (y && false)
no_both true true = refl
no_both true false = refl
no_both false true = refl
no_both false false = refl

module _ (l : Lattice) (known : BlockId → Bool) (b : BlockId) (equations : List EqId) (has : HasBlock l b) (unknown : known b ≡ false)
    (sum : IsSum l known b equations) where
  whole : AreOfSum l (is_listed equations) (flat_map (equation_blocks l) equations)
  whole = subst (λ es. AreOfSum l (is_listed equations) (flat_map (equation_blocks l) es)) (sym sum.ordered) (sums-listed l (is_listed equations)).1

  -- how often a block is among the known blocks
  known_count : (d : BlockId) → HasBlock l d → is_odd_count (same_block d) (known_blocks l known equations) ≡ (known d && adds_up_to l (is_listed equations) d)
  known_count d d_has =
      odd-filter known (same_block d) (flat_map (equation_blocks l) equations)
      ∙ ap (λ p. is_odd_count p (flat_map (equation_blocks l) equations))
      (same_test (λ c. known c && same_block d c) (λ c. known d && same_block d c) (λ c. at c))
      ∙ guard (known d)
    where
      at : (c : BlockId) → (known c && same_block d c) ≡ (known d && same_block d c)
      at c = elim (cases_Bool (same_block d c)) [
        | inl same ↦ ap (λ a. known a && same_block d c) (sym (same_block-equal d c same))
        | inr other ↦ rw other (no_both (known c) (known d))
      ]

      guard : (k : Bool) → is_odd_count (λ c. k && same_block d c) (flat_map (equation_blocks l) equations) ≡ (k && adds_up_to l (is_listed equations) d)
      guard true = whole.counted d d_has
      guard false = odd-none (flat_map (equation_blocks l) equations)

  with_block : AreOfSum l (is_listed equations) (b ∷ known_blocks l known equations)
  with_block = record {
    inside = Each-All (HasBlock l) (b ∷ known_blocks l known equations)
        (has, all-filter (HasBlock l) known (flat_map (equation_blocks l) equations) (All-Each (HasBlock l) (flat_map (equation_blocks l) equations) whole.inside));
    counted = λ d d_has.
        odd-cons (same_block d) b (known_blocks l known equations)
        ∙ ap (differ (same_block d b)) (known_count d d_has)
        ∙ at d d_has;
  }
    where
      at : (d : BlockId) → HasBlock l d → differ (same_block d b) (known d && adds_up_to l (is_listed equations) d) ≡ adds_up_to l (is_listed equations) d
      at d d_has = elim (cases_Bool (same_block d b)) [
        | inl same ↦
            (let is : d ≡ b = same_block-equal d b same in
            ap (λ x. differ x (known d && adds_up_to l (is_listed equations) d)) same
            ∙ ap (λ c. not (known c && adds_up_to l (is_listed equations) c)) is
            ∙ ap (λ x. not (x && adds_up_to l (is_listed equations) b)) unknown
            ∙ sym (ap (adds_up_to l (is_listed equations)) is ∙ sum.gives.contains))
        | inr other ↦
            ap (λ x. differ x (known d && adds_up_to l (is_listed equations) d)) other
            ∙ elim (cases_Bool (adds_up_to l (is_listed equations) d)) [
              | inl added ↦
                  ap (λ x. x && adds_up_to l (is_listed equations) d)
                  (sum.gives.others d d_has added (λ is. true≢false (sym (same_block-refl d) ∙ ap (same_block d) is ∙ other)))
              | inr not_added ↦ ap (λ x. known d && x) not_added ∙ no_both (known d) false ∙ sym not_added
            ]
      ]

-- a block of the lattice that is not known is the XOR of the known blocks of its listed equations, whatever the data
pub sums-give : SumsGiveBlocks
sums-give l known b equations has unknown sum w datas is =
    first-others w (value_of l w datas) b (known_blocks l known equations) (λ k. length-value_at l w datas k.node k.class is)
    (sets-add_up l w datas (is_listed equations) (b ∷ known_blocks l known equations) is (with_block l known b equations has unknown sum))
