-- Marked blocks in number order, and marks of the outputs of equations.
use Rattle.std.proofs.Common.{◌≡◌, ℕ, zero, suc, ◌+◌, ◌-◌, ◌<◌, ◌≤◌, inl, inr, Bool, true, false, not, ◌&&◌, ◌||◌, cond, List, Some, [], ◌∷◌, ◌++◌, take, map, filter, length, get_or, refl, sym, ◌∙◌, ap, subst, arith}
use Rattle.std.specs.Prelude.{nat_lt, slice_get, replicate}
use Rattle.std.specs.List.{list_any}
use Rattle.std.proofs.lemmas.Bool.{cases_Bool, or_right, and_from, and_parts, lt-ltb, ltb-true, false≢true}
use Rattle.std.proofs.lemmas.List.{append-nil, take_all, map-append, length-map, get_or-map}
use Rattle.std.proofs.lemmas.List.Elements.{filter_more, filter-append}
use Rattle.std.proofs.lemmas.List.Folds.{list_any_more}
use Rattle.aea_lattice.specs.declared.blocks.Class.{Class}
use Rattle.aea_lattice.specs.declared.blocks.Class.TheVariants.{Datum}
use Rattle.aea_lattice.specs.declared.blocks.BlockId.{BlockId}
use Rattle.aea_lattice.specs.declared.blocks.EqId.{EqId}
use Rattle.aea_lattice.specs.declared.grid.Lattice.{Lattice}
use Rattle.aea_lattice.specs.Blocks.{HasParity, HasBlock, block_of, same_block, class_number, classes, number_of, blocks_count, blocks_to, blocks_of, block_at}
use Rattle.aea_lattice.specs.Equations.{HasEquation, equation_of, equation_blocks, equations_to, is_in_equation}
use Rattle.aea_lattice.proofs.Equations.{number_below, same_block-equal, same_block-refl, member_inside}
use Rattle.aea_lattice.proofs.Numbers.{length-blocks_of}
use Rattle.aea_lattice.proofs.BlockAt.{number-block_at}
use Rattle.aea_lattice.proofs.Odd.{same_test, Each, Each-more, filter_each}
use Rattle.aea_lattice.proofs.Once.{each-blocks_of, each-classes}
use Rattle.aea_lattice.proofs.Among.{passing-among}
use Rattle.aea_view.specs.Marked.{Marked, IsWhole, AreClear, IsNextMarked, is_marked}
use Rattle.aea_view.proofs.Marking.{Sets, mark_here, mark_other}
use Rattle.aea_fates.specs.Live.{is_live, live_equations}
use Rattle.aea_fates.proofs.Parts.{any_some}
use Rattle.aea_fates.proofs.Listing.{any_has}
use Rattle.aea_readings.specs.Small.{block_in, unknown_blocks}
use Rattle.aea_gauss.specs.Outputs.{equation_at, is_output_with, AddsMarks, AreOutputs}
use Rattle.aea_gauss.proofs.Filling.{blocks_more}

not-not : (b : Bool) → not (not b) ≡ b
not-not true = refl
not-not false = refl

-- ---- marked blocks in number order

module _ (l : Lattice) (m : Marked) (same : m.lattice ≡ l) where
  at_number : (k : ℕ) → k < blocks_count l → is_marked m (block_at l k) ≡ get_or m.marks k false
  at_number k less = ap (λ (x : Lattice). get_or m.marks (number_of x (block_at l k)) false) same ∙ ap (λ n. get_or m.marks n false) (number-block_at l k less)

  -- blocks that are not marked add nothing
  clear_add : (from d : ℕ) → from + d ≤ blocks_count l → AreClear m from (from + d) → filter (is_marked m) (take (from + d) (blocks_of l)) ≡ filter (is_marked m) (take from (blocks_of l))
  clear_add from zero most clear = ap (λ n. filter (is_marked m) (take n (blocks_of l))) (omega arith)
  clear_add from (suc d) most clear =
      let next : from + suc d ≡ from + d + 1 = omega arith in
      let none : is_marked m (block_at l (from + d)) ≡ false = at_number (from + d) (omega arith) ∙ clear (from + d) (omega arith) (omega arith) in
      ap (λ n. filter (is_marked m) (take n (blocks_of l))) next
      ∙ filter_more (is_marked m) (blocks_of l) (from + d) (block_of 0 Datum) (omega (arith, length-blocks_of l))
      ∙ ap (λ b. filter (is_marked m) (take (from + d) (blocks_of l)) ++ cond b (block_at l (from + d) ∷ []) []) none
      ∙ append-nil (filter (is_marked m) (take (from + d) (blocks_of l)))
      ∙ clear_add from d (omega arith) (λ k low high. clear k low (omega arith))

  clear_between : (from end : ℕ) → from ≤ end → end ≤ blocks_count l → AreClear m from end → filter (is_marked m) (take end (blocks_of l)) ≡ filter (is_marked m) (take from (blocks_of l))
  clear_between from end low high clear =
      let d = end - from in
      let is : end ≡ from + d = omega arith in
      ap (λ n. filter (is_marked m) (take n (blocks_of l))) is ∙ clear_add from d (omega arith) (λ k after before. clear k after (omega arith))

  -- the next marked block is the next of the list
  pub marked_more : (from k : ℕ) (b : BlockId) → IsNextMarked m from k → slice_get (blocks_of l) k ≡ Some b → number_of l b ≡ k
      → filter (is_marked m) (take (k + 1) (blocks_of l)) ≡ filter (is_marked m) (take from (blocks_of l)) ++ b ∷ []
  marked_more from k b next here number =
      let below : k < blocks_count l = subst (λ (x : Lattice). k < blocks_count x) same next.inside in
      let marked : is_marked m b ≡ true = ap (λ (x : Lattice). get_or m.marks (number_of x b) false) same ∙ ap (λ n. get_or m.marks n false) number ∙ next.marked in
      blocks_more (is_marked m) (blocks_of l) k b (omega (arith, length-blocks_of l)) here
      ∙ ap (λ x. filter (is_marked m) (take k (blocks_of l)) ++ cond x (b ∷ []) []) marked
      ∙ ap (λ bs. bs ++ b ∷ []) (clear_between from k next.later (omega arith) next.clear)

  -- where none is left, the list has all
  pub marked_all : (from : ℕ) (blocks : List BlockId) → from ≤ blocks_count l → AreClear m from (blocks_count m.lattice) → blocks ≡ filter (is_marked m) (take from (blocks_of l))
      → blocks ≡ unknown_blocks l (λ b. not (is_marked m b))
  marked_all from blocks low clear are =
      are
      ∙ sym (clear_between from (blocks_count l) low (omega arith) (subst (λ (x : Lattice). AreClear m from (blocks_count x)) same clear))
      ∙ ap (filter (is_marked m)) (take_all (blocks_count l) (blocks_of l) (omega (arith, length-blocks_of l)))
      ∙ ap (λ p. filter p (blocks_of l)) (same_test (is_marked m) (λ b. not (not (is_marked m b))) (λ b. sym (not-not (is_marked m b))))

-- ---- one output more is marked

pub one_added : (old new : Marked) (b : BlockId) → Sets old new b true → AddsMarks old new (λ d. same_block d b)
one_added old new b sets = record {
  lattice = sets.same;
  whole = sets.whole;
  marks = λ d has. elim (cases_Bool (same_block d b)) [
    | inl is ↦
        ap (is_marked new) (same_block-equal d b is) ∙ mark_here old new b true sets ∙ sym (or_right (is_marked old d) (same_block d b) is)
    | inr other ↦
        mark_other old new b true sets d has (λ e. false≢true (sym other ∙ ap (λ x. same_block x b) e ∙ same_block-refl b))
        ∙ sym (ap (λ x. is_marked old d || x) other ∙ or-false (is_marked old d))
  ];
}
  where
    or-false : (x : Bool) → (x || false) ≡ x
    or-false true = refl
    or-false false = refl

iff-equal : (x y : Bool) → (x ≡ true → y ≡ true) → (y ≡ true → x ≡ true) → x ≡ y
iff-equal true y to back = sym (to refl)
iff-equal false true to back = absurd (false≢true (back refl))
iff-equal false false to back = refl

-- ---- outputs of the equations of a list of blocks

all_false : (n k : ℕ) → get_or (replicate n false) k false ≡ false
all_false zero k = refl
all_false (suc n) zero = refl
all_false (suc n) (suc k) = all_false n k

pub outputs_none : (l : Lattice) (m : Marked) → m.lattice ≡ l → m.marks ≡ replicate (blocks_count l) false → IsWhole m → AreOutputs l [] m
outputs_none l m same clear whole = record {
  lattice = same;
  whole = whole;
  marks = λ d has. ap (λ xs. get_or xs (number_of m.lattice d) false) clear ∙ all_false (blocks_count l) (number_of m.lattice d);
}

-- those of one block more
pub outputs_more : (l : Lattice) (blocks : List BlockId) (k : ℕ) (old new : Marked) → k < length blocks → AreOutputs l (take k blocks) old → AddsMarks old new (is_output_with old.lattice (block_in blocks k))
    → AreOutputs l (take (k + 1) blocks) new
outputs_more l blocks k old new less are adds = record {
  lattice = adds.lattice ∙ are.lattice;
  whole = adds.whole;
  marks = λ d has.
      adds.marks d (subst (λ (x : Lattice). HasBlock x d) (sym are.lattice) has)
      ∙ ap (λ (x : Lattice). is_marked old d || is_output_with x (block_in blocks k) d) are.lattice
      ∙ ap (λ x. x || is_output_with l (block_in blocks k) d) (are.marks d has)
      ∙ sym (list_any_more (λ b. is_output_with l b d) blocks k (block_of 0 Datum) less);
}

-- what is marked then: the outputs of the equations that have an unknown block
module _ (l : Lattice) (known : BlockId → Bool) (blocks : List BlockId) (are : blocks ≡ unknown_blocks l known) (d : BlockId) (has : HasBlock l d) where
  abbrev low : Bool
  low = nat_lt 0 (class_number d.class)

  has_unknown : list_any (λ b. is_output_with l b d) blocks ≡ true → (low && is_live l known (equation_at d)) ≡ true
  has_unknown h =
      let e = equation_at d in
      let some = any_some (λ b. is_output_with l b d) blocks h in
      let parts = and_parts low (is_in_equation l e some.item) some.passes in
      let open' : not (known some.item) ≡ true = ((passing-among l (λ b. not (known b)) some.item).0 (subst (λ bs. list_any (same_block some.item) bs ≡ true) are some.stands)).1 in
      and_from low (is_live l known e) parts.0 (any_has (λ b. not (known b)) some.item (equation_blocks l e) parts.1 open')

  is_of_unknown : (low && is_live l known (equation_at d)) ≡ true → list_any (λ b. is_output_with l b d) blocks ≡ true
  is_of_unknown h =
      let e = equation_at d in
      let parts = and_parts low (is_live l known e) h in
      let some = any_some (λ b. not (known b)) (equation_blocks l e) parts.1 in
      let above : 0 < class_number d.class = ltb-true 0 (class_number d.class) parts.0 in
      let equation : HasEquation l e = record {
        node = record { first = has.first; last = has.last };
        class = record { parity = omega arith; used = has.used };
      } in
      let inside : HasBlock l some.item = member_inside l e some.item equation some.stands in
      any_has (λ b. is_output_with l b d) some.item blocks
      (subst (λ bs. list_any (same_block some.item) bs ≡ true) (sym are) ((passing-among l (λ b. not (known b)) some.item).1 (inside, some.passes)))
      (and_from low (is_in_equation l e some.item) parts.0 some.stands)

  output_live : list_any (λ b. is_output_with l b d) blocks ≡ (low && is_live l known (equation_at d))
  output_live = iff-equal (list_any (λ b. is_output_with l b d) blocks) (low && is_live l known (equation_at d)) has_unknown is_of_unknown

-- the equations of parities that pass, in number order, are those that pass, in equation order
module _ (l : Lattice) (live : EqId → Bool) where
  abbrev passes : BlockId → Bool
  passes d = nat_lt 0 (class_number d.class) && live (equation_at d)

  row : (i : ℕ) (cs : List Class) → Each (HasParity l) cs → map equation_at (filter passes (map (block_of i) cs)) ≡ filter live (map (equation_of i) cs)
  row i [] each = refl
  row i (c ∷ cs) each =
      let rest = row i cs each.1 in
      let parity : nat_lt 0 (class_number c) ≡ true = lt-ltb 0 (class_number c) (let p = each.0.parity in omega arith) in
      let same : passes (block_of i c) ≡ live (equation_of i c) = ap (λ x. x && live (equation_of i c)) parity in
      elim (cases_Bool (live (equation_of i c))) [
        | inl yes' ↦ rw (same, yes') (ap (λ es. equation_of i c ∷ es) rest)
        | inr no' ↦ rw (same, no') rest
      ]

  rows_to : (i : ℕ) → map equation_at (filter passes (blocks_to l i)) ≡ filter live (equations_to l i)
  rows_to zero = refl
  rows_to (suc i) =
      ap (map equation_at) (filter-append passes (blocks_to l i) (map (block_of (suc i)) (Datum ∷ classes l)))
      ∙ map-append equation_at (filter passes (blocks_to l i)) (filter passes (map (block_of (suc i)) (Datum ∷ classes l)))
      ∙ ap (λ es. es ++ map equation_at (filter passes (map (block_of (suc i)) (classes l)))) (rows_to i)
      ∙ ap (λ es. filter live (equations_to l i) ++ es) (row (suc i) (classes l) (each-classes l))
      ∙ sym (filter-append live (equations_to l i) (map (equation_of (suc i)) (classes l)))

-- The equations whose outputs are marked are those that have an unknown block.
pub outputs_live : (l : Lattice) (known : BlockId → Bool) (blocks outputs : List BlockId) (equations : List EqId) (m : Marked) → AreOutputs l blocks m → outputs ≡ unknown_blocks l (λ b. not (is_marked m b))
    → equations ≡ map equation_at outputs → blocks ≡ unknown_blocks l known → equations ≡ live_equations l known
outputs_live l known blocks outputs equations m marks outputs_are equations_are are =
    let test : BlockId → Bool = λ d. nat_lt 0 (class_number d.class) && is_live l known (equation_at d) in
    equations_are
    ∙ ap (map equation_at)
    (outputs_are
    ∙ filter_each (λ b. not (not (is_marked m b))) test (blocks_of l)
    (Each-more (HasBlock l) (λ d. not (not (is_marked m d)) ≡ test d) (blocks_of l)
    (λ d has. not-not (is_marked m d) ∙ marks.marks d has ∙ output_live l known blocks are d has) (each-blocks_of l)))
    ∙ rows_to l (is_live l known) l.n

-- ---- turned marks

-- turned marks have those that are not marked
pub flipped_marks : (l : Lattice) (m flipped : Marked) → m.lattice ≡ l → flipped.lattice ≡ m.lattice → flipped.marks ≡ map not m.marks → IsWhole flipped
    → (b : BlockId) → HasBlock l b → is_marked flipped b ≡ not (is_marked m b)
flipped_marks l m flipped same flipped_same marks whole b has =
    let k = number_of l b in
    let long : length m.marks ≡ blocks_count l = sym (length-map m.marks not) ∙ ap length (sym marks) ∙ whole ∙ ap blocks_count (flipped_same ∙ same) in
    let below : k < length m.marks = subst (λ n. k < n) (sym long) (number_below l b has) in
    ap (λ (x : Lattice). get_or flipped.marks (number_of x b) false) (flipped_same ∙ same)
    ∙ ap (λ xs. get_or xs k false) marks
    ∙ get_or-map not m.marks k false false below
    ∙ ap (λ (x : Lattice). not (get_or m.marks (number_of x b) false)) (sym same)
