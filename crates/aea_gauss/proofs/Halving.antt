-- A list whose numbers rise is halved until the place of a number is left.
use Rattle.std.proofs.Common.{◌≡◌, ℕ, ◌+◌, ◌<◌, ◌≤◌, inl, inr, List, [], map, length, get_or, sym, ◌∙◌, ap, subst, arith}
use Rattle.std.proofs.lemmas.Bool.{cases_eq}
use Rattle.std.proofs.lemmas.List.{length-map, get_or-map}
use Rattle.std.proofs.lemmas.List.Elements.{All-get_or}
use Rattle.aea_lattice.specs.declared.blocks.Class.TheVariants.{Datum}
use Rattle.aea_lattice.specs.declared.blocks.BlockId.{BlockId}
use Rattle.aea_lattice.specs.declared.grid.Lattice.{Lattice}
use Rattle.aea_lattice.specs.Blocks.{HasBlock, block_of, number_of}
use Rattle.aea_readings.specs.Small.{block_in, AreListed, UnknownAreListed}
use Rattle.aea_gauss.specs.declared.fates.Fate.{Fate}
use Rattle.aea_gauss.specs.declared.fates.Fate.TheVariants.{Word}
use Rattle.aea_gauss.specs.Fates.{AreInOrder, block_of_fate}
use Rattle.aea_gauss.specs.Parts.{fate_in}
use Rattle.aea_gauss.proofs.Reading.{same_default}

-- each place has a greater number than those before it
abbrev pub Rise : (ℕ → ℕ) → ℕ → Type 0
Rise number long = (a b : ℕ) → a < b → b < long → number a < number b

-- up to a place with a lesser number all numbers are lesser
pub lesser_to : (number : ℕ → ℕ) (long x middle : ℕ) → Rise number long → middle < long → number middle < x → (a : ℕ) → a < middle + 1 → number a < x
lesser_to number long x middle rise inside less a below =
    elim (cases_eq a middle) [
      | inl same ↦ subst (λ n. number n < x) (let back : middle ≡ a = omega arith in back) less
      | inr other ↦ let up = rise a middle (omega arith) inside in omega arith
    ]

-- from a place with a greater number on all are greater
pub greater_from : (number : ℕ → ℕ) (long x middle : ℕ) → Rise number long → x < number middle → (a : ℕ) → middle ≤ a → a < long → x < number a
greater_from number long x middle rise greater a above inside =
    elim (cases_eq a middle) [
      | inl same ↦ subst (λ n. x < number n) (let back : middle ≡ a = omega arith in back) greater
      | inr other ↦ let up = rise middle a (omega arith) inside in omega arith
    ]

-- ---- fates in order

-- the block of the fate at a place, where the list is kept in a vector of these items
pub fate_here : (fates items : List Fate) (k : ℕ) (f : Fate) (b : BlockId) → items ≡ fates → k < length fates → f ≡ get_or items k f → b ≡ block_of_fate f → b ≡ block_of_fate (fate_in fates k)
fate_here fates items k f b same less at is =
    is ∙ ap block_of_fate (at ∙ ap (λ xs. get_or xs k f) same ∙ same_default fates k f (Word (block_of 0 Datum) []) less)

module _ (law : UnknownAreListed) (l : Lattice) (fates : List Fate) (order : AreInOrder l fates) where
  -- their blocks are listed
  blocks_listed : AreListed l (map block_of_fate fates)
  blocks_listed = subst (AreListed l) (sym order.1) (law l order.0)

  block_at : (a : ℕ) → a < length fates → block_in (map block_of_fate fates) a ≡ block_of_fate (fate_in fates a)
  block_at a less = get_or-map block_of_fate fates a (Word (block_of 0 Datum) []) (block_of 0 Datum) less

  -- each is one of the lattice
  pub fate_inside : (a : ℕ) → a < length fates → HasBlock l (block_of_fate (fate_in fates a))
  fate_inside a less =
      subst (HasBlock l) (block_at a less)
      (All-get_or (HasBlock l) (map block_of_fate fates) a (block_of 0 Datum) (omega (arith, length-map fates block_of_fate)) blocks_listed.inside)

  -- and their numbers rise
  pub fates_rise : Rise (λ a. number_of l (block_of_fate (fate_in fates a))) (length fates)
  fates_rise a b before inside =
      let up = blocks_listed.rise a b before (omega (arith, length-map fates block_of_fate)) in
      let first : number_of l (block_in (map block_of_fate fates) a) ≡ number_of l (block_of_fate (fate_in fates a)) = ap (number_of l) (block_at a (omega arith)) in
      let second : number_of l (block_in (map block_of_fate fates) b) ≡ number_of l (block_of_fate (fate_in fates b)) = ap (number_of l) (block_at b inside) in
      omega arith
