-- The block of a sum is the XOR of its summands, which are known where its equations are the listed ones; and so what is
-- computed of intact blocks is drawn from them.
use Rattle.std.proofs.Common.{◌≡◌, ℕ, Bool, true, not, List, map, replicate, sym, ◌∙◌, ap, subst, inl, inr}
use Rattle.std.specs.Prelude.{IsTrue, All, slice_get, Some, option_map}
use Rattle.std.proofs.lemmas.Option.{slice_get-map}
use Rattle.std.proofs.lemmas.List.Elements.{All-filter}
use Rattle.std.proofs.lemmas.Bool.{and_parts, false≢true, true≢false}
use Rattle.aea_lattice.specs.declared.blocks.BlockId.{BlockId}
use Rattle.aea_lattice.specs.declared.blocks.EqId.{EqId}
use Rattle.aea_lattice.specs.declared.grid.Lattice.{Lattice}
use Rattle.aea_lattice.specs.Blocks.{HasBlock, blocks_of, same_block}
use Rattle.aea_lattice.proofs.Equations.{same_block-refl}
use Rattle.aea_lattice.proofs.Among.{Each-All}
use Rattle.aea_lattice.proofs.Once.{each-blocks_of}
use Rattle.aea_disk.specs.Files.{Files}
use Rattle.aea_envelope.specs.Cells.{block_digest}
use Rattle.aea_gauss.specs.declared.fates.Fate.{Fate}
use Rattle.aea_gauss.specs.declared.fates.Fate.TheVariants.{Sum, Word}
use Rattle.aea_gauss.specs.Fates.{block_of_fate, IsFate, AreFates}
use Rattle.aea_ledger.specs.Values.{Opened}
use Rattle.aea_archive.specs.Blocks.{IsIntactBy}
use Rattle.aea_restore.specs.Plans.{is_left_over, Give}
use Rattle.aea_restore.specs.Drawn.{is_other, AreAllIntact, IsOtherDigest}
use Rattle.aea_restore.proofs.Planned.{sum_gives}
use Rattle.aea_restore.proofs.Parts.{others_sum, others_picked}
use Rattle.aea_restore.proofs.Items.{item_has}
use Rattle.aea_restore.proofs.Judging.{judged_homes, homes_never}
use Rattle.aea_degraded.specs.Summed.{AddUpTo, IsSumIn, is_summand, summands, sum_at, IsSummed, IsPayloadClash, SumsAreOfSummands, ListedAreSums, FatesAreSums}

-- what the equations leave over gives the block
left_gives : (l : Lattice) (b : BlockId) (es : List EqId) → AddUpTo l b es → Give l (is_left_over l es) b es
left_gives l b es sum = record {
  valid = sum.valid;
  contains = sum.contains;
  others = λ d has left other. left;
}

pub of_summands : SumsAreOfSummands
of_summands l (Sum b es) sum = (others_sum l (is_left_over l es) b es sum.block (left_gives l b es sum), others_picked l (is_left_over l es) b es sum.block (left_gives l b es sum))
of_summands l (Word b nodes) none = absurd none

-- what is left over but the block itself
other_left : (l : Lattice) (es : List EqId) (b d : BlockId) → is_other (is_left_over l es) b d ≡ true → IsTrue (is_left_over l es d) × ((d ≡ b) → ⊥)
other_left l es b d h =
    let parts = and_parts (is_left_over l es d) (not (same_block d b)) h in
    (parts.0, λ same. false≢true (ap not (sym (subst (λ x. same_block d x ≡ true) same (same_block-refl d))) ∙ parts.1))

pub listed_sums : ListedAreSums
listed_sums l known (Sum b es) has (is, sum) =
    let gives = sum_gives l known b es is in (
      record { block = has; valid = gives.valid; contains = gives.contains },
      λ d inside picked. let left = other_left l es b d picked in gives.others d inside left.0 left.1,
    )
listed_sums l known (Word b nodes) has (is, none) = absurd (true≢false none)

-- a fate of the lattice is of one of its blocks
fate_inside : (l : Lattice) (known : BlockId → Bool) (fates : List Fate) (k : ℕ) (fate : Fate) → AreFates l known fates → slice_get fates k ≡ Some fate → HasBlock l (block_of_fate fate)
fate_inside l known fates k fate are here =
    item_has (HasBlock l) (map block_of_fate fates) (block_of_fate fate) k (slice_get-map block_of_fate fates k ∙ ap (option_map block_of_fate) here)
    (subst (All (HasBlock l)) (sym are.blocks) (All-filter (λ b. not (known b)) (HasBlock l) (blocks_of l) (Each-All (HasBlock l) (blocks_of l) (each-blocks_of l))))

pub fate_sums : FatesAreSums
fate_sums l known fates k fate are here sum = listed_sums l known fate (fate_inside l known fates k fate are here) (item_has (IsFate l known) fates fate k here are.each, sum)

-- ---- where the summands are intact

summands_intact : (v : Opened) (c : Files) (fate : Fate) → IsSumIn v.lattice fate → AreAllIntact v (is_summand v.lattice fate) c → All (IsIntactBy v.shape v.digests c) (summands v.lattice fate)
summands_intact v c fate sum sound k d lt = let one = (of_summands v.lattice fate sum).1 k d lt in sound _ one.0 one.1

-- what is computed is the sum of what is at their homes
pub summed_at : (reveals : Type 0) (v : Opened) (c : Files) (fate : Fate) (payload : List ℕ) → reveals → IsSumIn v.lattice fate → AreAllIntact v (is_summand v.lattice fate) c → IsSummed reveals v c fate payload
    → payload ≡ sum_at v.lattice v.shape c fate
summed_at reveals v c fate payload revealed sum sound is = judged_homes reveals v c (replicate v.shape.block 0) payload (summands v.lattice fate) revealed (summands_intact v c fate sum sound) is

-- and a clash is one of that
pub clash_at : (reveals : Type 0) (v : Opened) (c : Files) (fate : Fate) (d : BlockId) (revealed computed : List ℕ) → reveals → IsSumIn v.lattice fate → AreAllIntact v (is_summand v.lattice fate) c → IsPayloadClash reveals v c fate d revealed computed
    → (d ≡ block_of_fate fate) × (computed ≡ block_digest (block_of_fate fate) (sum_at v.lattice v.shape c fate))
clash_at reveals v c fate d revealed computed reveal sum sound found = elim found [
  | inl read ↦ absurd (homes_never reveals v c (summands v.lattice fate) d revealed computed reveal (summands_intact v c fate sum sound) read)
  | inr own ↦ (own.0, own.1.computed_is ∙ ap (block_digest (block_of_fate fate)) (summed_at reveals v c fate own.1.payload reveal sum sound own.1.summed))
]

-- over any disk it is one of two digests that differ
pub clash_other : (reveals : Type 0) (v : Opened) (c : Files) (fate : Fate) (d : BlockId) (revealed computed : List ℕ) → IsPayloadClash reveals v c fate d revealed computed → IsOtherDigest v d revealed computed
clash_other reveals v c fate d revealed computed found = elim found [
  | inl read ↦ read.1.other
  | inr own ↦ subst (λ (a : BlockId). IsOtherDigest v a revealed computed) (sym own.0) own.1.other
]
