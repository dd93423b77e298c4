-- The fate of one block of several.
use Rattle.std.proofs.Common.{◌≡◌, ◌≢◌, ℕ, zero, suc, ◌+◌, ◌<◌, Bool, true, false, not, ◌||◌, List, [], ◌∷◌, ◌++◌, map, length, take, slice_get, Some, None, inl, inr, refl, sym, ◌∙◌, ap, subst, arith}
use Rattle.std.specs.Prelude.{Contains}
use Rattle.std.proofs.lemmas.Bool.{cases_lt, false_from_ne_true}
use Rattle.aea_lattice.specs.declared.blocks.BlockId.{BlockId}
use Rattle.aea_lattice.specs.declared.grid.Lattice.{Lattice}
use Rattle.aea_lattice.specs.Blocks.{HasBlock, same_block}
use Rattle.aea_lattice.specs.Closure.{is_among}
use Rattle.aea_lattice.specs.Facts.{PassingAreAmong}
use Rattle.aea_lattice.proofs.Equations.{same_block-equal}
use Rattle.aea_gauss.specs.declared.fates.Fate.{Fate}
use Rattle.aea_gauss.specs.Fates.{block_of_fate, AreFates}

-- the fates for these known blocks have one of each block that is not known
pub fate_stands : PassingAreAmong → (l : Lattice) (known : BlockId → Bool) (fates : List Fate) (b : BlockId) → AreFates l known fates → HasBlock l b → known b ≡ false
    → is_among (map block_of_fate fates) b ≡ true
fate_stands among l known fates b are has unknown =
    ap (λ blocks. is_among blocks b) are.blocks ∙ (among l (λ d. not (known d)) b).1 (has, ap not unknown)

-- ---- items of lists

-- an item at each place within a list
pub item_at : {X : Type 0} (xs : List X) (k : ℕ) → k < length xs → (x : X) × (slice_get xs k ≡ Some x)
item_at [] k below = absurd (omega (arith, below))
item_at (x ∷ xs) zero below = (x, refl)
item_at (x ∷ xs) (suc k) below = item_at xs k (omega (arith, below))

take_suc : {X : Type 0} (xs : List X) (k : ℕ) (x : X) → slice_get xs k ≡ Some x → take (suc k) xs ≡ take k xs ++ x ∷ []
take_suc [] k x here = let none : None ≡ Some x = here in absurd (cc)
take_suc (y ∷ ys) zero x here = let is : Some y ≡ Some x = here in let same : y ≡ x = cc in ap (λ z. z ∷ []) same
take_suc (y ∷ ys) (suc k) x here = ap (λ zs. y ∷ zs) (take_suc ys k x here)

-- one item more of a list
pub take_more : {X : Type 0} (xs : List X) (k : ℕ) (x : X) → slice_get xs k ≡ Some x → take (k + 1) xs ≡ take k xs ++ x ∷ []
take_more xs k x here = let e : k + 1 ≡ suc k = omega arith in ap (λ n. take n xs) e ∙ take_suc xs k x here

-- an item at a place is in the list
pub stands_at : {X : Type 0} (xs : List X) (k : ℕ) (x : X) → slice_get xs k ≡ Some x → Contains xs x
stands_at [] k x here = let none : None ≡ Some x = here in absurd (cc)
stands_at (y ∷ ys) zero x here = let is : Some y ≡ Some x = here in let same : y ≡ x = cc in (0, omega arith, same)
stands_at (y ∷ ys) (suc k) x here = let rest = stands_at ys k x here in (suc rest.0, omega (arith, rest.1), rest.2)

-- ---- the search for a fate

-- none of the first fates is of the block
abbrev pub NoneOf : List Fate → BlockId → ℕ → Type 0
NoneOf fates b end = (k : ℕ) (fate : Fate) → k < end → slice_get fates k ≡ Some fate → block_of_fate fate ≢ b

-- none before the first
pub none_before : (fates : List Fate) (b : BlockId) → NoneOf fates b 0
none_before fates b k fate below here = absurd (omega (arith, below))

-- none before the next one either
pub none_next : (fates : List Fate) (b : BlockId) (k : ℕ) (here : Fate) → slice_get fates k ≡ Some here → block_of_fate here ≢ b → NoneOf fates b k → NoneOf fates b (k + 1)
none_next fates b k here at other none i fate below is =
    elim (cases_lt i k) [
      | inl less ↦ none i fate less is
      | inr not_less ↦
          let same : i ≡ k = omega (arith, below, not_less) in
          let one : Some here ≡ Some fate = sym at ∙ ap (slice_get fates) (sym same) ∙ is in
          let equal : here ≡ fate = cc in
          subst (λ f. block_of_fate f ≢ b) equal other
    ]

-- where none is of the block, it is none of theirs
pub none_among : (fates : List Fate) (b : BlockId) → NoneOf fates b (length fates) → is_among (map block_of_fate fates) b ≡ false
none_among [] b none = refl
none_among (f ∷ fs) b none =
    let first : same_block b (block_of_fate f) ≡ false =
    false_from_ne_true (same_block b (block_of_fate f)) (λ is. none 0 f (omega arith) refl (sym (same_block-equal b (block_of_fate f) is))) in
    let rest : is_among (map block_of_fate fs) b ≡ false = none_among fs b (λ k fate below here. none (suc k) fate (omega (arith, below)) here) in
    ap (λ x. x || is_among (map block_of_fate fs) b) first ∙ rest
