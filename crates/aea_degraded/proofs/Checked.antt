-- What was found out before the second pass, of one block: it has one fate, and was judged where that was computed once.
use Rattle.std.proofs.Common.{◌≡◌, ℕ, Bool, true, not, List, Some, Ok, Err, sym, ◌∙◌, ap, subst}
use Rattle.std.specs.Prelude.{All, Contains, slice_get, Result, OnOk}
use Rattle.std.proofs.lemmas.Option.{slice_get_within, get_or_from_slice_get}
use Rattle.std.proofs.lemmas.List.Elements.{All-contains}
use Rattle.aea_lattice.specs.declared.blocks.BlockId.{BlockId}
use Rattle.aea_lattice.specs.declared.grid.Lattice.{Lattice}
use Rattle.aea_lattice.specs.Blocks.{HasBlock}
use Rattle.aea_lattice.specs.LeastWord.{IsWord}
use Rattle.aea_view.specs.Marked.{Marked, is_marked}
use Rattle.aea_disk.specs.Files.{Files}
use Rattle.aea_envelope.specs.Cells.{block_digest}
use Rattle.aea_fates.specs.Sums.{IsSum}
use Rattle.aea_fates.specs.Laws.{ListsAreOne}
use Rattle.aea_gauss.specs.declared.fates.Fate.{Fate}
use Rattle.aea_gauss.specs.declared.fates.Fate.TheVariants.{Sum, Word}
use Rattle.aea_gauss.specs.Fates.{block_of_fate, IsFate}
use Rattle.aea_ledger.specs.Values.{Opened}
use Rattle.aea_archive.specs.Blocks.{recorded_in, RevealsSurvivors}
use Rattle.aea_archive.specs.Objects.{IsOneOf}
use Rattle.aea_fetch.proofs.Firsts.{all_at}
use Rattle.aea_restore.proofs.Items.{item_has}
use Rattle.aea_degraded.specs.Summed.{sum_at}
use Rattle.aea_degraded.specs.Found.{IsSumAt, IsFoundBy}
use Rattle.aea_degraded.specs.Planned.{AreFatesOf, IsRightPlan, IsChecked, IsPlanned}

-- what all have, one of them has
pub has_one : (good : BlockId → Type 0) (blocks : List BlockId) (b : BlockId) → IsOneOf blocks b → All good blocks → good b
has_one good blocks b one all = all_at good one.before one.after b (subst (All good) one.are all)

-- what is at a place is contained
pub contained : {X : Type 0} (xs : List X) (k : ℕ) (x : X) → slice_get xs k ≡ Some x → Contains xs x
contained xs k x here = (k, slice_get_within xs k x here, get_or_from_slice_get xs k x x here)

-- two facts of what is Ok
pub on_ok_two : {T E P Q R : Type 0} (r : Result T E) → (P → Q → R) → OnOk r P → OnOk r Q → OnOk r R
on_ok_two (Ok v) so one two = so one two
on_ok_two (Err e) so one two = tt

pub on_ok_three : {T E P Q S R : Type 0} (r : Result T E) → (P → Q → S → R) → OnOk r P → OnOk r Q → OnOk r S → OnOk r R
on_ok_three (Ok v) so one two three = so one two three
on_ok_three (Err e) so one two three = tt

-- ---- a right plan, of one block

pub right_one : (v : Opened) (c : Files) (damaged : Marked) (fates : List Fate) (blocks : List BlockId) (b : BlockId) (known : BlockId → Bool) → IsOneOf blocks b → IsRightPlan v c damaged fates blocks known → IsFoundBy v c damaged fates b known
right_one v c damaged fates blocks b known one plan = record {
  survivors = plan.survivors;
  right = plan.right;
  marked = has_one (λ d. known d ≡ not (is_marked damaged d)) blocks b one plan.marked;
}

-- ---- the fate of a block

-- a block has one fate
pub one_fate : ListsAreOne → (l : Lattice) (known : BlockId → Bool) (b : BlockId) (f g : Fate) → HasBlock l b → block_of_fate f ≡ b → block_of_fate g ≡ b → IsFate l known f → IsFate l known g → f ≡ g
one_fate law l known b (Sum x xs) (Sum y ys) has at to is other =
    let one = (law l known b has).one_sum xs ys (subst (λ d. IsSum l known d xs) at is) (subst (λ d. IsSum l known d ys) to other) in
    let same : x ≡ y = at ∙ sym to in
    cc
one_fate law l known b (Sum x xs) (Word y ys) has at to is other = absurd ((law l known b has).one_kind xs ys (subst (λ d. IsSum l known d xs) at is) (subst (λ d. IsWord l known d ys) to other))
one_fate law l known b (Word x xs) (Sum y ys) has at to is other = absurd ((law l known b has).one_kind ys xs (subst (λ d. IsSum l known d ys) to other) (subst (λ d. IsWord l known d xs) at is))
one_fate law l known b (Word x xs) (Word y ys) has at to is other =
    let one = (law l known b has).one_word xs ys (subst (λ d. IsWord l known d xs) at is) (subst (λ d. IsWord l known d ys) to other) in
    let same : x ≡ y = at ∙ sym to in
    cc

-- where the sum at the place of its fate was computed, and has the recorded digest, the block is checked
pub checked_one : ListsAreOne → (v : Opened) (c : Files) (damaged : Marked) (fates : List Fate) (b : BlockId) (at : ℕ) (payload : List ℕ) → HasBlock v.lattice b → AreFatesOf v.lattice damaged fates
    → (is_marked damaged b ≡ true → IsSumAt fates b at)
    → (is_marked damaged b ≡ true → (fate : Fate) → slice_get fates at ≡ Some fate → payload ≡ sum_at v.lattice v.shape c fate)
    → block_digest b payload ≡ recorded_in v.shape v.digests b → IsChecked v c damaged fates b
checked_one law v c damaged fates b at payload has are found is digest set fate contains block =
    let l = v.lattice in
    let open' : BlockId → Bool = λ d. not (is_marked damaged d) in
    let here = found set in
    let same : here.fate ≡ fate = one_fate law l open' b here.fate fate has here.block block (item_has (IsFate l open') fates here.fate at here.here are.each) (All-contains (IsFate l open') fates fate are.each contains) in
    ap (block_digest b) (sym (is set fate (here.here ∙ ap Some same))) ∙ digest

-- what is checked or found is so where the files read the same
pub checked_at : (v : Opened) (c d : Files) (damaged : Marked) (fates : List Fate) (b : BlockId) → c ≡ d → IsChecked v c damaged fates b → IsChecked v d damaged fates b
checked_at v c d damaged fates b same checked = subst (λ (f : Files). IsChecked v f damaged fates b) same checked

pub found_at : (v : Opened) (c d : Files) (damaged : Marked) (fates : List Fate) (b : BlockId) (known : BlockId → Bool) → c ≡ d → IsFoundBy v c damaged fates b known → IsFoundBy v d damaged fates b known
found_at v c d damaged fates b known same found = subst (λ (f : Files). IsFoundBy v f damaged fates b known) same found

-- what may be asked for may be so where the files read the same
pub planned_at : (reveals : Type 0) (v : Opened) (c d : Files) (damaged : Marked) (fates : List Fate) (b : BlockId) → (reveals → d ≡ c) → IsPlanned reveals v c damaged fates b → IsPlanned reveals v d damaged fates b
planned_at reveals v c d damaged fates b same is = record {
  lattice = is.lattice;
  are = is.are;
  given = is.given;
  right = λ revealed known survivors.
      found_at v c d damaged fates b known (sym (same revealed)) (is.right revealed known (subst (λ (f : Files). RevealsSurvivors v.shape v.lattice.n v.digests f known) (same revealed) survivors));
  checked = λ revealed. checked_at v c d damaged fates b (sym (same revealed)) (is.checked revealed);
}

-- and so of all of some blocks, by marks that are the same
pub planned_again : (reveals : Type 0) (v : Opened) (c d : Files) (m n : Marked) (fates : List Fate) (bs : List BlockId) → n ≡ m → (reveals → d ≡ c) → All (IsPlanned reveals v c m fates) bs → All (IsPlanned reveals v d n fates) bs
planned_again reveals v c d m n fates bs marks same all = subst (λ (k : Marked). All (IsPlanned reveals v d k fates) bs) (sym marks) (λ k b below. planned_at reveals v c d m fates _ same (all k b below))

-- what is the case for a right plan of all blocks
abbrev pub UnderPlan : Opened → Files → Marked → List Fate → List BlockId → BlockId → Type 0
UnderPlan v c damaged fates all b = (known : BlockId → Bool) → IsRightPlan v c damaged fates all known → IsChecked v c damaged fates b
