-- What is read or computed of the intact blocks is drawn from them.
use Rattle.std.proofs.Common.{◌≡◌, ℕ, zero, suc, ◌≤◌, Bool, List, [], ◌∷◌, length, get_or, Option, None, Some, refl, sym, ◌∙◌, ap, subst, arith}
use Rattle.std.specs.Prelude.{IsTrue, All, slice_get}
use Rattle.aea_lattice.specs.declared.blocks.BlockId.{BlockId}
use Rattle.aea_lattice.specs.declared.grid.Lattice.{Lattice}
use Rattle.aea_lattice.specs.Blocks.{HasBlock}
use Rattle.aea_disk.specs.Files.{Files}
use Rattle.aea_envelope.specs.Cells.{block_digest}
use Rattle.aea_gauss.specs.declared.fates.Fate.{Fate}
use Rattle.aea_gauss.specs.Fates.{block_of_fate, IsFate}
use Rattle.aea_ledger.specs.Values.{Opened}
use Rattle.aea_ledger.specs.Recorded.{IsLatticeOf}
use Rattle.aea_archive.specs.Blocks.{RevealsSurvivors}
use Rattle.aea_restore.specs.Drawn.{ArePicked, IsDrawn, AreAllIntact, IsOtherDigest, IsClash}
use Rattle.aea_restore.proofs.Drawing.{block_in_archive}
use Rattle.aea_restore.proofs.Items.{item_has}
use Rattle.aea_degraded.specs.Summed.{is_summand, summands, sum_at, IsOfEquations, IsListedSum}
use Rattle.aea_degraded.specs.Found.{IsSumAt}
use Rattle.aea_degraded.proofs.Summing.{listed_sums, of_summands}

-- ---- the fate at a place

-- no item is after the last
pub none_past : {X : Type 0} (xs : List X) (k : ℕ) (x : X) → slice_get xs k ≡ Some x → length xs ≤ k → ⊥
none_past [] k x here past = let none : None ≡ Some x = here in cc
none_past (y ∷ ys) zero x here past = omega (arith, past)
none_past (y ∷ ys) (suc k) x here past = none_past ys k x here (omega (arith, past))

-- two items at one place are one
pub some_item : {X : Type 0} → (r : Option X) (x y : X) → r ≡ Some x → r ≡ Some y → x ≡ y
some_item r x y one other = let e : Some x ≡ Some y = sym one ∙ other in cc

-- what is there is a sum of the block
pub record IsThere (l : Lattice) (b : BlockId) (fate : Fate) : Type 0 where
  pub block : block_of_fate fate ≡ b
  pub has : HasBlock l (block_of_fate fate)
  pub sum : IsOfEquations fate

pub there : (l : Lattice) (fates : List Fate) (b : BlockId) (at : ℕ) (fate : Fate) → HasBlock l b → IsSumAt fates b at → slice_get fates at ≡ Some fate → IsThere l b fate
there l fates b at fate has found here =
    let same : found.fate ≡ fate = some_item (slice_get fates at) found.fate fate found.here here in
    let block : block_of_fate fate ≡ b = ap block_of_fate (sym same) ∙ found.block in
    record { block = block; has = subst (HasBlock l) (sym block) has; sum = subst IsOfEquations same found.sum }

-- where the listed fates are those for some known blocks, it is the listed sum for these
pub listed_there : (l : Lattice) (known : BlockId → Bool) (fates : List Fate) (b : BlockId) (at : ℕ) (fate : Fate) → IsThere l b fate → All (IsFate l known) fates → slice_get fates at ≡ Some fate → IsListedSum l known fate
listed_there l known fates b at fate is all here = (item_has (IsFate l known) fates fate at here all, is.sum)

-- ---- drawn from the survivors

-- what is known is intact
pub known_intact : (v : Opened) (l : Lattice) (c : Files) (known test : BlockId → Bool) → l ≡ v.lattice → IsLatticeOf v.shape l.n l.fences l → RevealsSurvivors v.shape v.lattice.n v.digests c known
    → ((d : BlockId) → HasBlock v.lattice d → IsTrue (test d) → IsTrue (known d)) → AreAllIntact v test c
known_intact v l c known test same of_shape survivors so d has is = (survivors d (block_in_archive v l d same of_shape has)).0 (so d has is)

weaker : (l : Lattice) (p q : BlockId → Bool) → ((d : BlockId) → HasBlock l d → IsTrue (p d) → IsTrue (q d)) → (blocks : List BlockId) → ArePicked l p blocks → ArePicked l q blocks
weaker l p q so blocks are k d lt = let one = are k d lt in (one.0, so (get_or blocks k d) one.0 one.1)

-- the sum of a listed fate is drawn from the known blocks
pub sum_drawn : (v : Opened) (known : BlockId → Bool) (c : Files) (fate : Fate) → HasBlock v.lattice (block_of_fate fate) → IsListedSum v.lattice known fate
    → IsDrawn v known c (block_of_fate fate) (sum_at v.lattice v.shape c fate)
sum_drawn v known c fate has listed =
    let l = v.lattice in
    let is = listed_sums l known fate has listed in
    let of = of_summands l fate is.0 in
    record {
      blocks = summands l fate;
      survivors = weaker l (is_summand l fate) known is.1 (summands l fate) of.1;
      sum = of.0;
      payload_is = refl;
    }

-- another digest of the sum is a clash
pub sum_clash : (v : Opened) (known : BlockId → Bool) (c : Files) (fate : Fate) (d : BlockId) (revealed computed : List ℕ) → HasBlock v.lattice (block_of_fate fate) → IsListedSum v.lattice known fate
    → d ≡ block_of_fate fate → computed ≡ block_digest (block_of_fate fate) (sum_at v.lattice v.shape c fate) → IsOtherDigest v d revealed computed → IsClash v known c d revealed computed
sum_clash v known c fate d revealed computed has listed same is other = record {
  other = other;
  payload = sum_at v.lattice v.shape c fate;
  drawn = subst (λ b. IsDrawn v known c b (sum_at v.lattice v.shape c fate)) (sym same) (sum_drawn v known c fate has listed);
  computed_is = is ∙ ap (λ b. block_digest b (sum_at v.lattice v.shape c fate)) (sym same);
}
