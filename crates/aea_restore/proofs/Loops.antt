-- Blocks that are restored one after the other: which are marked, and how what was under way goes on.
use Rattle.std.proofs.Common.{◌≡◌, inl, inr, ℕ, zero, suc, ◌+◌, List, [], ◌∷◌, ◌++◌, take, Bool, true, false, Some, refl, sym, ◌∙◌, ap, subst}
use Rattle.std.specs.Prelude.{◌||◌, IsTrue, slice_get}
use Rattle.std.specs.List.{flat_map}
use Rattle.std.proofs.lemmas.Bool.{or_cases, or_left, or_right, false≢true}
use Rattle.std.proofs.lemmas.List.{append-nil}
use Rattle.std.proofs.lemmas.Grind.{flat_map-append}
use Rattle.std.proofs.lemmas.List.Concat.{flat_map_single}
use Rattle.aea_lattice.specs.declared.blocks.BlockId.{BlockId}
use Rattle.aea_lattice.specs.declared.grid.Lattice.{Lattice}
use Rattle.aea_lattice.specs.Blocks.{HasBlock, same_block}
use Rattle.aea_lattice.specs.Closure.{is_among}
use Rattle.aea_lattice.proofs.Derivations.{among-append_right}
use Rattle.aea_lattice.proofs.Equations.{same_block-refl}
use Rattle.aea_peel.specs.declared.plan.Step.{Step}
use Rattle.aea_peel.specs.Plans.{blocks_given, is_had}
use Rattle.aea_disk.specs.Files.{Files}
use Rattle.aea_view.specs.Marked.{Marked, is_marked}
use Rattle.aea_ledger.specs.Values.{Opened}
use Rattle.aea_restore.specs.Repairs.{MarksSome}
use Rattle.aea_restore.specs.UnderWay.{IsUnderWay, GoesOn, IsTornAfter, StaysDrawn, AddsBlock}
use Rattle.aea_restore.proofs.Items.{take_next, take_more}

-- ---- marks

pub or_assoc : (a b c : Bool) → ((a || b) || c) ≡ (a || (b || c))
or_assoc true b c = refl
or_assoc false b c = refl

or_none : (a : Bool) → (a || false) ≡ a
or_none true = refl
or_none false = refl

pub among-both : (xs ys : List BlockId) (d : BlockId) → is_among (xs ++ ys) d ≡ (is_among xs d || is_among ys d)
among-both [] ys d = refl
among-both (x ∷ xs) ys d = ap (λ b. same_block d x || b) (among-both xs ys d) ∙ sym (or_assoc (same_block d x) (is_among xs d) (is_among ys d))

-- a block that is added is one of a list of it alone
pub adds_one : (l : Lattice) (b : BlockId) (before after : BlockId → Bool) → AddsBlock l b before after → (d : BlockId) → HasBlock l d → after d ≡ (before d || is_among (b ∷ []) d)
adds_one l b before after adds d has = adds d has ∙ ap (λ x. before d || x) (sym (or_none (same_block d b)))

-- Marks that have the known blocks and those that the first items give, and the next item's: so they are those of one item
-- more.
pub marks_next : {X : Type 0} → (give : X → List BlockId) (l : Lattice) (known before after : BlockId → Bool) (xs : List X) (x : X) (k : ℕ) → slice_get xs k ≡ Some x
    → ((d : BlockId) → HasBlock l d → before d ≡ (known d || is_among (flat_map give (take k xs)) d))
    → ((d : BlockId) → HasBlock l d → after d ≡ (before d || is_among (give x) d))
    → (d : BlockId) → HasBlock l d → after d ≡ (known d || is_among (flat_map give (take (k + 1) xs)) d)
marks_next give l known before after xs x k is so_far next d has =
    let gives = flat_map give (take k xs) in
    next d has ∙ ap (λ b. b || is_among (give x) d) (so_far d has)
    ∙ or_assoc (known d) (is_among (flat_map give (take k xs)) d) (is_among (give x) d)
    ∙ ap (λ b. known d || b) (sym (among-both (flat_map give (take k xs)) (give x) d))
    ∙ ap (λ (bs : List BlockId). known d || is_among bs d)
    (ap (λ (ys : List BlockId). flat_map give (take k xs) ++ ys) (sym (append-nil (give x))) ∙ sym (flat_map-append give (take k xs) (x ∷ [])) ∙ ap (flat_map give) (sym (take_more xs x k is)))

-- at first there are the known ones alone
pub none_given : {X : Type 0} → (give : X → List BlockId) (known : BlockId → Bool) (xs : List X) (d : BlockId) → known d ≡ (known d || is_among (flat_map give (take 0 xs)) d)
none_given give known [] d = sym (or_none (known d))
none_given give known (x ∷ xs) d = sym (or_none (known d))

-- what the first items give, all give
pub front_given : {X : Type 0} → (give : X → List BlockId) (xs : List X) (k : ℕ) (d : BlockId) → IsTrue (is_among (flat_map give (take k xs)) d) → IsTrue (is_among (flat_map give xs) d)
front_given give [] zero d is = is
front_given give [] (suc k) d is = is
front_given give (x ∷ xs) zero d is = absurd (false≢true is)
front_given give (x ∷ xs) (suc k) d is =
    among-both (give x) (flat_map give xs) d
    ∙ (elim (or_cases (is_among (give x) d) (is_among (flat_map give (take k xs)) d) (sym (among-both (give x) (flat_map give (take k xs)) d) ∙ is)) [
      | inl here ↦ or_left (is_among (give x) d) (is_among (flat_map give xs) d) here
      | inr there ↦ or_right (is_among (give x) d) (is_among (flat_map give xs) d) (front_given give xs k d there)
    ])

-- what an item gives, all give
pub item_given : {X : Type 0} → (give : X → List BlockId) (xs : List X) (x : X) (k : ℕ) (d : BlockId) → slice_get xs k ≡ Some x → IsTrue (is_among (give x) d) → IsTrue (is_among (flat_map give xs) d)
item_given {X = X} give xs x k d is here =
    front_given give xs (suc k) d
    (ap (λ (ys : List X). is_among (flat_map give ys) d) (take_next xs x k is)
    ∙ ap (λ (bs : List BlockId). is_among bs d) (flat_map-append give (take k xs) (x ∷ []))
    ∙ among-append_right (flat_map give (take k xs)) (flat_map give (x ∷ [])) d (ap (λ (bs : List BlockId). is_among bs d) (append-nil (give x)) ∙ here))

-- marks of the known blocks and some that are given
pub marks_some : (l : Lattice) (given : BlockId → Bool) (old new : Marked) → ((d : BlockId) → HasBlock l d → IsTrue (is_marked old d) → IsTrue (is_marked new d))
    → ((d : BlockId) → HasBlock l d → IsTrue (is_marked new d) → IsTrue (is_marked old d || given d)) → MarksSome l (λ d. IsTrue (given d)) old new
marks_some l given old new stay more = record {
  stay = stay;
  more = λ d has is. or_cases (is_marked old d) (given d) (more d has is);
}

-- Marks of the known blocks and of what the first items give have them, and some that all items give.
pub items_some : {X : Type 0} → (give : X → List BlockId) (l : Lattice) (xs : List X) (k : ℕ) (old new : Marked) → ((d : BlockId) → HasBlock l d → is_marked new d ≡ (is_marked old d || is_among (flat_map give (take k xs)) d)) → MarksSome l (λ d. IsTrue (is_among (flat_map give xs) d)) old new
items_some give l xs k old new done =
    marks_some l (is_among (flat_map give xs)) old new
    (λ d has is. done d has ∙ or_left (is_marked old d) (is_among (flat_map give (take k xs)) d) is)
    (λ d has is.
    elim (or_cases (is_marked old d) (is_among (flat_map give (take k xs)) d) (sym (done d has) ∙ is)) [
      | inl before ↦ or_left (is_marked old d) (is_among (flat_map give xs) d) before
      | inr given ↦ or_right (is_marked old d) (is_among (flat_map give xs) d) (front_given give xs k d given)
    ])

-- more that is given
pub some_more : (l : Lattice) (few many : BlockId → Type 0) (old new : Marked) → ((d : BlockId) → few d → many d) → MarksSome l few old new → MarksSome l many old new
some_more l few many old new so some = record {
  stay = some.stay;
  more = λ d has is. elim (some.more d has is) [ inl before ↦ inl before | inr given ↦ inr (so d given) ];
}

-- marks that become more in two stretches
pub some_both : (l : Lattice) (first second all : BlockId → Type 0) (old mid new : Marked) → ((d : BlockId) → first d → all d) → ((d : BlockId) → second d → all d) → MarksSome l first old mid → MarksSome l second mid new → MarksSome l all old new
some_both l first second all old mid new so also early late = record {
  stay = λ d has is. late.stay d has (early.stay d has is);
  more = λ d has is.
      elim (late.more d has is) [
        | inl before ↦ elim (early.more d has before) [ inl was ↦ inl was | inr given ↦ inr (so d given) ]
        | inr given ↦ inr (also d given)
      ];
}

-- ---- what was under way

-- what goes on in two stretches goes on
pub goes_both : (v : Opened) (first second third : BlockId → Bool) (old mid new : Files) → GoesOn v first second old mid → GoesOn v second third mid new → GoesOn v first third old new
goes_both v first second third old mid new early late known start way = late known start (early known start way)

-- calls that leave the files and the marks
pub goes_same : (v : Opened) (ready : BlockId → Bool) (old new : Files) → new ≡ old → GoesOn v ready ready old new
goes_same v ready old new same known start way = subst (IsUnderWay v known ready start) (sym same) way

-- what goes on and then is torn is torn
pub torn_both : (v : Opened) (mends more : BlockId → Type 0) (first second third : BlockId → Bool) (old mid new : Files) → ((d : BlockId) → mends d → more d) → GoesOn v first second old mid → IsTornAfter v mends second third mid new → IsTornAfter v more first third old new
torn_both v mends more first second third old mid new so early late known start way =
    let is = late known start (early known start way) in (is.0, so is.0 is.1, is.2)

-- more that may be torn
pub torn_more : (v : Opened) (mends more : BlockId → Type 0) (before after : BlockId → Bool) (old new : Files) → ((d : BlockId) → mends d → more d) → IsTornAfter v mends before after old new → IsTornAfter v more before after old new
torn_more v mends more before after old new so late known start way = let is = late known start way in (is.0, so is.0 is.1, is.2)

-- payloads that stay drawn in two stretches stay so
pub stays_both : (v : Opened) (first second third : BlockId → Bool) (old mid new : Files) → StaysDrawn v first second old mid → StaysDrawn v second third mid new → StaysDrawn v first third old new
stays_both v first second third old mid new early late known start all = late known start (early known start all)

-- ---- steps

-- the block of a step, as a list
abbrev give_step : Step → List BlockId
give_step s = s.block ∷ []

had_listed : (known : BlockId → Bool) (steps : List Step) (d : BlockId) → is_had known steps d ≡ (known d || is_among (flat_map give_step steps) d)
had_listed known steps d = ap (λ (bs : List BlockId). known d || is_among bs d) (sym (flat_map_single (λ (s : Step). s.block) steps))

given_listed : (steps : List Step) (d : BlockId) → is_among (flat_map give_step steps) d ≡ is_among (blocks_given steps) d
given_listed steps d = ap (λ (bs : List BlockId). is_among bs d) (flat_map_single (λ (s : Step). s.block) steps)

-- before the first step
pub steps_first : (known : BlockId → Bool) (steps : List Step) (d : BlockId) → known d ≡ is_had known (take 0 steps) d
steps_first known steps d = none_given give_step known steps d ∙ sym (had_listed known (take 0 steps) d)

-- one step more
pub steps_next : (l : Lattice) (known before after : BlockId → Bool) (steps : List Step) (s : Step) (k : ℕ) → slice_get steps k ≡ Some s
    → ((d : BlockId) → HasBlock l d → before d ≡ is_had known (take k steps) d) → AddsBlock l s.block before after
    → (d : BlockId) → HasBlock l d → after d ≡ is_had known (take (k + 1) steps) d
steps_next l known before after steps s k is so_far adds d has =
    marks_next give_step l known before after steps s k is (λ e e_has. so_far e e_has ∙ had_listed known (take k steps) e) (adds_one l s.block before after adds) d has
    ∙ sym (had_listed known (take (k + 1) steps) d)

-- what the first steps give, all give
pub steps_front : (known : BlockId → Bool) (steps : List Step) (k : ℕ) (d : BlockId) → IsTrue (is_had known (take k steps) d) → IsTrue (known d || is_among (blocks_given steps) d)
steps_front known steps k d is =
    elim (or_cases (known d) (is_among (flat_map give_step (take k steps)) d) (sym (had_listed known (take k steps) d) ∙ is)) [
      | inl known_d ↦ or_left (known d) (is_among (blocks_given steps) d) known_d
      | inr given ↦ or_right (known d) (is_among (blocks_given steps) d) (sym (given_listed steps d) ∙ front_given give_step steps k d given)
    ]

-- a step's block is given
pub step_given : (steps : List Step) (s : Step) (k : ℕ) → slice_get steps k ≡ Some s → IsTrue (is_among (blocks_given steps) s.block)
step_given steps s k is =
    sym (given_listed steps s.block) ∙ item_given give_step steps s k s.block is (or_left (same_block s.block s.block) false (same_block-refl s.block))

-- Marks of what is had after the first steps are those of the known blocks and some that are given.
pub steps_some : (l : Lattice) (steps : List Step) (k : ℕ) (old new : Marked) → ((d : BlockId) → HasBlock l d → is_marked new d ≡ is_had (is_marked old) (take k steps) d) → MarksSome l (λ d. IsTrue (is_among (blocks_given steps) d)) old new
steps_some l steps k old new done =
    marks_some l (is_among (blocks_given steps)) old new
    (λ d has is. done d has ∙ or_left (is_marked old d) (is_among (blocks_given (take k steps)) d) is)
    (λ d has is. steps_front (is_marked old) steps k d (sym (done d has) ∙ is))
