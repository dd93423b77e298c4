-- What the fates that a search found say of data blocks: which are determined, and which is the first that is not.
use Rattle.std.proofs.Common.{◌≡◌, inl, inr, ℕ, suc, Bool, true, List, [], ◌∷◌, ◌++◌, map, refl, sym, ◌∙◌, ap, subst, arith, Some}
use Rattle.std.specs.Prelude.{All, slice_get, not}
use Rattle.std.specs.List.{Contains}
use Rattle.std.proofs.lemmas.Bool.{cases_Bool, false≢true, or_cases}
use Rattle.std.proofs.lemmas.List.Elements.{All-head, All-tail, All-contains}
use Rattle.aea_lattice.specs.declared.blocks.BlockId.{BlockId}
use Rattle.aea_lattice.specs.declared.grid.Lattice.{Lattice}
use Rattle.aea_lattice.specs.Blocks.{HasBlock, same_block}
use Rattle.aea_lattice.specs.Closure.{is_among}
use Rattle.aea_lattice.specs.Data.{Determines}
use Rattle.aea_lattice.specs.Facts.{PassingAreAmong}
use Rattle.aea_lattice.specs.LeastWord.{IsWord}
use Rattle.aea_lattice.proofs.Equations.{same_block-equal}
use Rattle.aea_fates.specs.Laws.{SumsAreDetermined, WordsAreOpen}
use Rattle.aea_fates.specs.Sums.{IsSum}
use Rattle.aea_view.specs.Marked.{Marked, is_marked}
use Rattle.aea_disk.specs.Files.{Files}
use Rattle.aea_ledger.specs.Values.{Opened}
use Rattle.aea_archive.specs.Blocks.{RevealsSurvivors}
use Rattle.aea_archive.specs.Objects.{IsOneOf, IsFirstWithout}
use Rattle.aea_gauss.specs.declared.fates.Fate.{Fate}
use Rattle.aea_gauss.specs.declared.fates.Fate.TheVariants.{Sum, Word}
use Rattle.aea_gauss.specs.Fates.{block_of_fate, IsFate}
use Rattle.aea_degraded.specs.Fetched.{IsFirstOpen}
use Rattle.aea_degraded.specs.declared.fault.FetchFault.TheVariants.{Undetermined, Clash, DiskFault}
use Rattle.aea_degraded.specs.declared.fault.PayloadFault.{PayloadFault}
use Rattle.aea_degraded.specs.declared.fault.PayloadFault.TheVariants as payload
use Rattle.aea_degraded.specs.Sent.{fetch_fault}
use Rattle.aea_degraded.specs.Planned.{AreFatesOf, IsGiven, IsRightPlan, IsFirstFault}
use Rattle.aea_degraded.proofs.FatesAt.{contains_at}
use Rattle.aea_degraded.proofs.Looked.{all_both, front_all}

-- a fate in a list whose blocks have this one
record HasFateOf (fates : List Fate) (b : BlockId) : Type 0 where
  fate : Fate
  here : Contains fates fate
  block : block_of_fate fate ≡ b

later_fate : (f : Fate) (fs : List Fate) (b : BlockId) → HasFateOf fs b → HasFateOf (f ∷ fs) b
later_fate f fs b has = record { fate = has.fate; here = (suc has.here.0, omega (arith, has.here.1), has.here.2); block = has.block }

mapped_fate : (fates : List Fate) (b : BlockId) → is_among (map block_of_fate fates) b ≡ true → HasFateOf fates b
mapped_fate [] b among = absurd (false≢true among)
mapped_fate (f ∷ fs) b among = elim (or_cases (same_block b (block_of_fate f)) (is_among (map block_of_fate fs) b) among) [
  | inl here ↦ record { fate = f; here = (0, omega arith, refl); block = sym (same_block-equal b (block_of_fate f) here) }
  | inr later ↦ later_fate f fs b (mapped_fate fs b later)
]

-- a known block is determined
known_determined : (l : Lattice) (known : BlockId → Bool) (b : BlockId) → HasBlock l b → known b ≡ true → Determines l known b
known_determined l known b has is = λ w xs ys is_x is_y agree. agree b has is

-- one with a sum as well
sum_determined : SumsAreDetermined → (l : Lattice) (known : BlockId → Bool) (fates : List Fate) (b : BlockId) (fate : Fate) → HasBlock l b → All (IsFate l known) fates → Contains fates fate → block_of_fate fate ≡ b → IsGiven fates b → Determines l known b
sum_determined sums l known fates b (Sum d equations) has right here block given =
    let sum : IsSum l known d equations = All-contains (IsFate l known) fates (Sum d equations) right here in
    sums l known b equations has (subst (λ (x : BlockId). IsSum l known x equations) block sum)
sum_determined sums l known fates b (Word d nodes) has right here block given = absurd (given nodes (subst (λ (x : BlockId). Contains fates (Word x nodes)) block here))

-- so each block that no listed nodes have
pub given_determined : SumsAreDetermined → PassingAreAmong → (l : Lattice) (known : BlockId → Bool) (damaged : Marked) (fates : List Fate) → AreFatesOf l damaged fates → All (IsFate l known) fates
    → (b : BlockId) → HasBlock l b → known b ≡ not (is_marked damaged b) → IsGiven fates b → Determines l known b
given_determined sums passing l known damaged fates are right b has marked given = elim (cases_Bool (is_marked damaged b)) [
  | inl set ↦
      let among = ap (λ (bs : List BlockId). is_among bs b) are.blocks ∙ (passing l (λ d. not (not (is_marked damaged d))) b).1 (has, ap (λ x. not (not x)) set) in
      let fate = mapped_fate fates b among in
      sum_determined sums l known fates b fate.fate has right fate.here fate.block given
  | inr clear ↦ known_determined l known b has (marked ∙ ap not clear)
]

-- a block of the lattice that is marked where it is not known
abbrev pub IsMarkedIn : Lattice → (BlockId → Bool) → Marked → BlockId → Type 0
IsMarkedIn l known damaged b = HasBlock l b × (known b ≡ not (is_marked damaged b))

pub marked_in : (l : Lattice) (known : BlockId → Bool) (damaged : Marked) (blocks : List BlockId) → All (HasBlock l) blocks → All (λ b. known b ≡ not (is_marked damaged b)) blocks → All (IsMarkedIn l known damaged) blocks
marked_in l known damaged blocks inside marked = all_both (HasBlock l) (λ b. known b ≡ not (is_marked damaged b)) (IsMarkedIn l known damaged) (λ b has is. (has, is)) blocks inside marked

-- all of them
pub all_determined : SumsAreDetermined → PassingAreAmong → (l : Lattice) (known : BlockId → Bool) (damaged : Marked) (fates : List Fate) → AreFatesOf l damaged fates → All (IsFate l known) fates
    → (blocks : List BlockId) → All (IsMarkedIn l known damaged) blocks → All (IsGiven fates) blocks → All (Determines l known) blocks
all_determined sums passing l known damaged fates are right blocks marked given =
    all_both (IsMarkedIn l known damaged) (IsGiven fates) (Determines l known) (λ b is gives. given_determined sums passing l known damaged fates are right b is.0 is.1 gives) blocks marked given

-- the first one of listed nodes is the first that is not determined
pub first_open : SumsAreDetermined → WordsAreOpen → PassingAreAmong → (l : Lattice) (known : BlockId → Bool) (damaged : Marked) (fates : List Fate) → AreFatesOf l damaged fates → All (IsFate l known) fates
    → (blocks : List BlockId) → All (IsMarkedIn l known damaged) blocks → (at : ℕ) (b : BlockId) (nodes : List ℕ) → slice_get fates at ≡ Some (Word b nodes) → IsFirstWithout (IsGiven fates) blocks b → IsFirstOpen l known blocks b nodes
first_open sums open' passing l known damaged fates are right blocks marked at b nodes here first =
    let word : IsWord l known b nodes = All-contains (IsFate l known) fates (Word b nodes) right (contains_at fates at (Word b nodes) here) in
    let split = subst (All (IsMarkedIn l known damaged)) first.are marked in
    let has : HasBlock l b = (one_at first.before first.after b split).0 in
    record {
      first = record {
        before = first.before;
        after = first.after;
        are = first.are;
        good_before = all_determined sums passing l known damaged fates are right first.before (front_all (IsMarkedIn l known damaged) first.before (b ∷ first.after) split) first.good_before;
        bad = λ determined. open' l known b nodes has word determined;
      };
      word = word;
    }
  where
    one_at : (before after : List BlockId) (b : BlockId) → All (IsMarkedIn l known damaged) (before ++ b ∷ after) → IsMarkedIn l known damaged b
    one_at [] after b all = All-head (IsMarkedIn l known damaged) b after all
    one_at (x ∷ before) after b all = one_at before after b (All-tail (IsMarkedIn l known damaged) x (before ++ b ∷ after) all)

-- the first is one of them
pub first_among : (good : BlockId → Type 0) (blocks : List BlockId) (b : BlockId) → IsFirstWithout good blocks b → IsOneOf blocks b
first_among good blocks b first = record { before = first.before; after = first.after; are = first.are }

-- What a refusal says: the block is one of these, the nodes are listed for it for some known blocks, and where the files are known
-- it is the first that is not determined.
abbrev pub IsUndetermined : Type 0 → Opened → Files → List BlockId → BlockId → List ℕ → Type 0
IsUndetermined reveals v c blocks b nodes =
    IsOneOf blocks b × ((test : BlockId → Bool) × IsWord v.lattice test b nodes)
    × (reveals → (known : BlockId → Bool) → RevealsSurvivors v.shape v.lattice.n v.digests c known → IsFirstOpen v.lattice known blocks b nodes)

pub undetermined_at : SumsAreDetermined → WordsAreOpen → PassingAreAmong → (reveals : Type 0) (v : Opened) (c : Files) (damaged : Marked) (fates : List Fate) (blocks : List BlockId) → AreFatesOf v.lattice damaged fates → All (HasBlock v.lattice) blocks
    → (reveals → (known : BlockId → Bool) → RevealsSurvivors v.shape v.lattice.n v.digests c known → IsRightPlan v c damaged fates blocks known)
    → (at : ℕ) (b : BlockId) (nodes : List ℕ) → slice_get fates at ≡ Some (Word b nodes) → IsFirstWithout (IsGiven fates) blocks b → IsUndetermined reveals v c blocks b nodes
undetermined_at sums open' passing reveals v c damaged fates blocks are inside right at b nodes here first = (
  first_among (IsGiven fates) blocks b first,
  ((λ d. not (is_marked damaged d)), All-contains (IsFate v.lattice (λ d. not (is_marked damaged d))) fates (Word b nodes) are.each (contains_at fates at (Word b nodes) here)),
  λ revealed known survivors.
      let plan = right revealed known survivors in
      first_open sums open' passing v.lattice known damaged fates are plan.right blocks (marked_in v.lattice known damaged blocks inside plan.marked) at b nodes here first,
)

-- all blocks are determined where none has listed nodes
pub determined_by : SumsAreDetermined → PassingAreAmong → (v : Opened) (c : Files) (damaged : Marked) (fates : List Fate) (blocks : List BlockId) (known : BlockId → Bool) → AreFatesOf v.lattice damaged fates → All (HasBlock v.lattice) blocks
    → IsRightPlan v c damaged fates blocks known → All (IsGiven fates) blocks → All (Determines v.lattice known) blocks
determined_by sums passing v c damaged fates blocks known are inside plan given =
    all_determined sums passing v.lattice known damaged fates are plan.right blocks (marked_in v.lattice known damaged blocks inside plan.marked) given

-- a fault of a payload is no refusal, and is one of the first pass
pub never_open : (f : PayloadFault) (b : BlockId) (nodes : List ℕ) → fetch_fault f ≡ Undetermined b nodes → ⊥
never_open (payload.Clash d revealed computed) b nodes is = let h : Clash d revealed computed ≡ Undetermined b nodes = is in cc
never_open payload.DiskFault b nodes is = let h : DiskFault ≡ Undetermined b nodes = is in cc

pub first_fault : (f : PayloadFault) → IsFirstFault (fetch_fault f)
first_fault (payload.Clash d revealed computed) = inr (inl (d, revealed, computed, refl))
first_fault payload.DiskFault = inr (inr (inl refl))
