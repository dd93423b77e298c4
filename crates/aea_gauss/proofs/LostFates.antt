-- Fates of blocks that are lost.
use Rattle.std.proofs.Common.{◌≡◌, ℕ, ◌+◌, ◌<◌, ◌≤◌, inl, inr, arith, List, [], length, get_or, Bool, Option, None, Some, sym, ◌∙◌, ap, subst}
use Rattle.std.specs.Prelude.{slice_get, unwrap_or}
use Rattle.std.proofs.lemmas.Bool.{cases_lt}
use Rattle.std.proofs.lemmas.Option.{get_or_from_slice_get}
use Rattle.aea_lattice.specs.declared.blocks.BlockId.{BlockId}
use Rattle.aea_lattice.specs.declared.blocks.Class.TheVariants.{Datum}
use Rattle.aea_lattice.specs.declared.grid.Lattice.{Lattice}
use Rattle.aea_lattice.specs.Blocks.{block_of, number_of}
use Rattle.aea_lattice.specs.LeastWord.{IsWord}
use Rattle.aea_readings.specs.Small.{block_in, AreListed}
use Rattle.aea_sweep.specs.Losses.{AreLosses, IsLoss}
use Rattle.aea_gauss.specs.declared.fates.Fate.{Fate}
use Rattle.aea_gauss.specs.declared.fates.Fate.TheVariants.{Word}
use Rattle.aea_gauss.specs.Fates.{IsFate}
use Rattle.aea_gauss.specs.Parts.{StandsIn, fate_in}
use Rattle.aea_gauss.specs.Lost.{IsLost, AreLostRight}

-- the fate that stands for a block at first: its nodes, or none
abbrev pub first_fate : Lattice → List (Option (List ℕ)) → BlockId → Fate
first_fate l losses b = Word b (unwrap_or (get_or losses (number_of l b) None) [])

-- where it is that of each block, those of the lost blocks are right
pub lost_right : (l : Lattice) (known : BlockId → Bool) (blocks : List BlockId) (losses : List (Option (List ℕ))) (fates : List Fate) → AreListed l blocks → AreLosses l known losses
    → ((a : ℕ) → a < length blocks → fate_in fates a ≡ first_fate l losses (block_in blocks a)) → AreLostRight l known blocks losses fates
lost_right l known blocks losses fates listed are each a less lost =
    let b = block_in blocks a in
    let word : IsWord l known b lost.0 = subst (IsLoss l known b) lost.1 (are.each b (listed.inside a (block_of 0 Datum) less)) in
    subst (IsFate l known) (ap (λ (o : Option (List ℕ)). Word b (unwrap_or o [])) (sym lost.1) ∙ sym (each a less)) word

-- the next block has nodes too
pub lost_more : (l : Lattice) (losses : List (Option (List ℕ))) (blocks : List BlockId) (at number : ℕ) (nodes : List ℕ) → ((j : ℕ) → j < at → IsLost l losses (block_in blocks j))
    → number ≡ number_of l (block_in blocks at) → slice_get losses number ≡ Some (Some nodes) → (j : ℕ) → j < at + 1 → IsLost l losses (block_in blocks j)
lost_more l losses blocks at number nodes before is here j less = elim (cases_lt j at) [
  | inl earlier ↦ before j earlier
  | inr late ↦
      let same : j ≡ at = omega (arith, less, late) in
      subst (λ k. IsLost l losses (block_in blocks k)) (sym same)
      (nodes, ap (λ k. get_or losses k None) (sym is) ∙ get_or_from_slice_get losses number (Some nodes) None here)
]

-- all have
pub all_lost : (l : Lattice) (losses : List (Option (List ℕ))) (blocks : List BlockId) (at : ℕ) → ((j : ℕ) → j < at → IsLost l losses (block_in blocks j)) → length blocks ≤ at
    → (b : BlockId) → StandsIn blocks b → IsLost l losses b
all_lost l losses blocks at each many b stands =
    let less = stands.1 in
    subst (IsLost l losses) stands.2 (each stands.0 (omega (arith, less, many)))
