-- Two lists of fates for the same known blocks are one.
use Rattle.std.proofs.Common.{◌≡◌, Bool, not, List, [], ◌∷◌, All, map, filter, sym, ◌∙◌, ap, subst, inl, inr, refl}
use Rattle.std.proofs.lemmas.Bool.{cases_Bool}
use Rattle.std.proofs.lemmas.List.Elements.{All-head, All-tail}
use Rattle.aea_lattice.specs.declared.blocks.BlockId.{BlockId}
use Rattle.aea_lattice.specs.declared.grid.Lattice.{Lattice}
use Rattle.aea_lattice.specs.Blocks.{HasBlock, blocks_of}
use Rattle.aea_lattice.specs.LeastWord.{IsWord}
use Rattle.aea_lattice.proofs.Odd.{Each}
use Rattle.aea_lattice.proofs.Once.{each-blocks_of}
use Rattle.aea_fates.specs.Sums.{IsSum}
use Rattle.aea_fates.specs.Laws.{ListsAreOne}
use Rattle.aea_gauss.specs.declared.fates.Fate.{Fate}
use Rattle.aea_gauss.specs.declared.fates.Fate.TheVariants.{Sum, Word}
use Rattle.aea_gauss.specs.Fates.{block_of_fate, IsFate, FatesAreOne}

module _ (one : ListsAreOne) (l : Lattice) (known : BlockId → Bool) where
  fate_one : (x y : Fate) → HasBlock l (block_of_fate x) → block_of_fate x ≡ block_of_fate y → IsFate l known x → IsFate l known y → x ≡ y
  fate_one (Sum b xs) (Sum c ys) has same hx hy =
      ap (λ d. Sum d xs) same ∙ ap (Sum c) ((one l known c (subst (HasBlock l) same has)).one_sum xs ys (subst (λ d. IsSum l known d xs) same hx) hy)
  fate_one (Sum b xs) (Word c ns) has same hx hy = absurd ((one l known b has).one_kind xs ns hx (subst (λ d. IsWord l known d ns) (sym same) hy))
  fate_one (Word b ns) (Sum c ys) has same hx hy = absurd ((one l known b has).one_kind ys ns (subst (λ d. IsSum l known d ys) (sym same) hy) hx)
  fate_one (Word b ns) (Word c ms) has same hx hy =
      ap (λ d. Word d ns) same ∙ ap (Word c) ((one l known c (subst (HasBlock l) same has)).one_word ns ms (subst (λ d. IsWord l known d ns) same hx) hy)

  each-filter : (p : BlockId → Bool) (bs : List BlockId) → Each (HasBlock l) bs → Each (HasBlock l) (filter p bs)
  each-filter p [] h = tt
  each-filter p (b ∷ bs) h =
      elim (cases_Bool (p b)) [
        | inl yes' ↦ rw yes' (h.0, each-filter p bs h.1)
        | inr no' ↦ rw no' (each-filter p bs h.1)
      ]

  head_same : (b c : BlockId) (bs cs : List BlockId) → ◌≡◌ {A = List BlockId} (b ∷ bs) (c ∷ cs) → (b ≡ c) × (bs ≡ cs)
  head_same b c bs cs h = (cc, cc)

  lists_one : (xs ys : List Fate) → map block_of_fate xs ≡ map block_of_fate ys → Each (HasBlock l) (map block_of_fate xs) → All (IsFate l known) xs → All (IsFate l known) ys → xs ≡ ys
  lists_one [] [] h inside hx hy = refl
  lists_one [] (y ∷ ys) h inside hx hy = absurd (cc)
  lists_one (x ∷ xs) [] h inside hx hy = absurd (cc)
  lists_one (x ∷ xs) (y ∷ ys) h inside hx hy =
      let same = head_same (block_of_fate x) (block_of_fate y) (map block_of_fate xs) (map block_of_fate ys) h in
      ap (λ z. z ∷ xs) (fate_one x y inside.0 same.0 (All-head (IsFate l known) x xs hx) (All-head (IsFate l known) y ys hy))
      ∙ ap (λ zs. y ∷ zs) (lists_one xs ys same.1 inside.1 (All-tail (IsFate l known) x xs hx) (All-tail (IsFate l known) y ys hy))

-- where each block of a lattice has at most one list, two lists of its fates for the same known blocks are one
pub fates-one : ListsAreOne → FatesAreOne
fates-one one l known fates others hf ho =
    lists_one one l known fates others (hf.blocks ∙ sym ho.blocks)
    (subst (Each (HasBlock l)) (sym hf.blocks) (each-filter one l known (λ b. not (known b)) (blocks_of l) (each-blocks_of l)))
    hf.each ho.each
