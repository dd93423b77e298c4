-- Fates of blocks in a list: where they are, and which blocks have listed nodes.
use Rattle.std.proofs.Common.{◌≡◌, ◌≢◌, ℕ, Bool, true, false, List, [], ◌∷◌, map, refl, sym, ◌∙◌, ap, subst, Some}
use Rattle.std.specs.Prelude.{All, slice_get, not, ◌||◌}
use Rattle.std.specs.List.{Contains}
use Rattle.std.proofs.lemmas.Bool.{false≢true, false_from_ne_true}
use Rattle.std.proofs.lemmas.Option.{slice_get_within, get_or_from_slice_get}
use Rattle.std.proofs.lemmas.List.Elements.{All-head, All-tail, All-contains}
use Rattle.aea_lattice.specs.declared.blocks.BlockId.{BlockId}
use Rattle.aea_lattice.specs.declared.grid.Lattice.{Lattice}
use Rattle.aea_lattice.specs.Blocks.{HasBlock, same_block}
use Rattle.aea_lattice.specs.Closure.{is_among}
use Rattle.aea_lattice.specs.Facts.{PassingAreAmong}
use Rattle.aea_lattice.proofs.Equations.{same_block-equal}
use Rattle.aea_fates.specs.Laws.{ListsAreOne}
use Rattle.aea_fates.specs.Sums.{IsSum}
use Rattle.aea_lattice.specs.LeastWord.{IsWord}
use Rattle.aea_view.specs.Marked.{Marked, is_marked}
use Rattle.aea_gauss.specs.declared.fates.Fate.{Fate}
use Rattle.aea_gauss.specs.declared.fates.Fate.TheVariants.{Sum, Word}
use Rattle.aea_gauss.specs.Fates.{block_of_fate, IsFate}
use Rattle.aea_degraded.specs.Summed.{is_word}
use Rattle.aea_degraded.specs.Found.{IsSumAt}
use Rattle.aea_degraded.specs.Planned.{AreFatesOf, IsGiven}

-- what is at a place of a list is in it
pub contains_at : {X : Type 0} (xs : List X) (at : ℕ) (x : X) → slice_get xs at ≡ Some x → Contains xs x
contains_at xs at x here = (at, slice_get_within xs at x here, get_or_from_slice_get xs at x x here)

-- the fate of a block that no listed nodes have is a sum
pub sum_there : (fates : List Fate) (b : BlockId) (at : ℕ) (fate : Fate) → slice_get fates at ≡ Some fate → block_of_fate fate ≡ b → IsGiven fates b → IsSumAt fates b at
sum_there fates b at (Sum d equations) here block given = record { fate = Sum d equations; here = here; block = block; sum = refl }
sum_there fates b at (Word d nodes) here block given =
    absurd (given nodes (subst (λ (x : BlockId). Contains fates (Word x nodes)) block (contains_at fates at (Word d nodes) here)))

none_mapped : (fates : List Fate) (b : BlockId) → All (λ (f : Fate). block_of_fate f ≢ b) fates → is_among (map block_of_fate fates) b ≡ false
none_mapped [] b none = refl
none_mapped (f ∷ fs) b none =
    let first : same_block b (block_of_fate f) ≡ false =
    false_from_ne_true (same_block b (block_of_fate f)) (λ is. All-head (λ (x : Fate). block_of_fate x ≢ b) f fs none (sym (same_block-equal b (block_of_fate f) is))) in
    ap (λ x. x || is_among (map block_of_fate fs) b) first ∙ none_mapped fs b (All-tail (λ (x : Fate). block_of_fate x ≢ b) f fs none)

-- a marked block has a fate
pub fate_there : PassingAreAmong → (l : Lattice) (damaged : Marked) (fates : List Fate) (b : BlockId) → AreFatesOf l damaged fates → HasBlock l b → is_marked damaged b ≡ true → All (λ (f : Fate). block_of_fate f ≢ b) fates → ⊥
fate_there passing l damaged fates b are has marked none =
    let among = (passing l (λ d. not (not (is_marked damaged d))) b).1 (has, ap (λ x. not (not x)) marked) in
    false≢true (sym (none_mapped fates b none) ∙ ap (λ (bs : List BlockId). is_among bs b) are.blocks ∙ among)

-- a block without a fate has no listed nodes
pub given_none : (fates : List Fate) (b : BlockId) → All (λ (f : Fate). block_of_fate f ≢ b) fates → IsGiven fates b
given_none fates b none nodes has = All-contains (λ (f : Fate). block_of_fate f ≢ b) fates (Word b nodes) none has refl

-- nor has one whose fate is a sum
pub given_sum : ListsAreOne → (l : Lattice) (test : BlockId → Bool) (fates : List Fate) (b : BlockId) (at : ℕ) (fate : Fate) → HasBlock l b → All (IsFate l test) fates → slice_get fates at ≡ Some fate → block_of_fate fate ≡ b
    → is_word fate ≡ false → IsGiven fates b
given_sum one l test fates b at (Sum d equations) has are here block sum nodes contains =
    let ours : IsSum l test d equations = All-contains (IsFate l test) fates (Sum d equations) are (contains_at fates at (Sum d equations) here) in
    let theirs : IsWord l test b nodes = All-contains (IsFate l test) fates (Word b nodes) are contains in
    (one l test b has).one_kind equations nodes (subst (λ (x : BlockId). IsSum l test x equations) block ours) theirs
given_sum one l test fates b at (Word d nodes) has are here block sum others contains = absurd (false≢true (sym sum))

-- the block of listed nodes is not given
pub lost_there : (fates : List Fate) (at : ℕ) (b : BlockId) (nodes : List ℕ) → slice_get fates at ≡ Some (Word b nodes) → IsGiven fates b → ⊥
lost_there fates at b nodes here given = given nodes (contains_at fates at (Word b nodes) here)

-- a fate that is listed nodes
pub word_of : (fate : Fate) → is_word fate ≡ true → (nodes : List ℕ) × (fate ≡ Word (block_of_fate fate) nodes)
word_of (Sum b equations) is = absurd (false≢true is)
word_of (Word b nodes) is = (nodes, refl)
