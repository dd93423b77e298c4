-- One step of the walk along the damaged blocks.
use Rattle.std.proofs.Common.{◌≡◌, ℕ, ◌+◌, ◌-◌, ◌<◌, ◌≤◌, List, [], ◌∷◌, map, get_or, drop, true, false, Some, sym, ◌∙◌, ap, subst, arith}
use Rattle.std.specs.Prelude.{slice_get, filter}
use Rattle.std.proofs.lemmas.List.{drop_all}
use Rattle.aea_lattice.specs.declared.blocks.BlockId.{BlockId}
use Rattle.aea_lattice.specs.declared.grid.Lattice.{Lattice}
use Rattle.aea_lattice.specs.Blocks.{number_of, blocks_count, blocks_of}
use Rattle.aea_lattice.proofs.Numbers.{length-blocks_of}
use Rattle.aea_view.specs.Marked.{Marked, is_marked, AreClear, IsNextMarked}
use Rattle.aea_plan.specs.declared.verdicts.Verdicts.{Verdicts}
use Rattle.aea_plan.specs.Verdicts.{line_of, lines_after}
use Rattle.aea_plan.proofs.Lists.{drop-at, filter-passes, skip}
use Rattle.aea_plan.proofs.Numbered.{is-at}

-- the blocks of a plan's lattice from a number on
abbrev blocks_from : Verdicts → ℕ → List BlockId
blocks_from v from = drop from (blocks_of v.damaged.lattice)

-- a block whose mark is clear is not damaged
undamaged : (m : Marked) (from end j : ℕ) (x : BlockId) → AreClear m from end → from ≤ j → j < end → end ≤ blocks_count m.lattice
    → slice_get (blocks_of m.lattice) j ≡ Some x → is_marked m x ≡ false
undamaged m from end j x clear after below within here =
    ap (λ k. get_or m.marks k false) (is-at m.lattice j x (omega arith) here).number ∙ clear j after below

-- blocks that are not damaged are passed over
skip_damaged : (v : Verdicts) (from end : ℕ) → AreClear v.damaged from end → from ≤ end → end ≤ blocks_count v.damaged.lattice
    → filter (is_marked v.damaged) (blocks_from v end) ≡ filter (is_marked v.damaged) (blocks_from v from)
skip_damaged v from end clear up within =
    let e : from + (end - from) ≡ end = omega arith in
    let long = length-blocks_of v.damaged.lattice in
    sym (ap (λ n. filter (is_marked v.damaged) (blocks_from v n)) e)
    ∙ skip (is_marked v.damaged) (blocks_of v.damaged.lattice) from (end - from) (omega arith)
    (λ j x after below here. undamaged v.damaged from end j x clear after (omega arith) within here)

-- no damaged block comes
pub no-more : (v : Verdicts) (from : ℕ) → from ≤ blocks_count v.damaged.lattice → AreClear v.damaged from (blocks_count v.damaged.lattice) → lines_after v from ≡ []
no-more v from inside clear =
    let l = v.damaged.lattice in
    let long = length-blocks_of l in
    let none : blocks_from v (blocks_count l) ≡ [] = drop_all (blocks_count l) (blocks_of l) (omega arith) in
    ap (map (line_of v)) (sym (skip_damaged v from (blocks_count l) clear inside (omega arith)) ∙ ap (filter (is_marked v.damaged)) none)

-- the next damaged block, at number k
pub record Comes (v : Verdicts) (from k : ℕ) (b : BlockId) : Type 0 where
  pub next : IsNextMarked v.damaged from k
  pub here : slice_get (blocks_of v.damaged.lattice) k ≡ Some b
  pub number : number_of v.damaged.lattice b ≡ k

-- the same by a lattice that is that of the marks
pub comes-next : (v : Verdicts) (from k : ℕ) (b : BlockId) (l : Lattice) → l ≡ v.damaged.lattice → IsNextMarked v.damaged from k
    → slice_get (blocks_of l) k ≡ Some b → number_of l b ≡ k → Comes v from k b
comes-next v from k b l same next here number = record {
  next = next;
  here = subst (λ (m : Lattice). slice_get (blocks_of m) k ≡ Some b) same here;
  number = subst (λ (m : Lattice). number_of m b ≡ k) same number;
}

is_damaged : (v : Verdicts) (from k : ℕ) (b : BlockId) → Comes v from k b → is_marked v.damaged b ≡ true
is_damaged v from k b comes = ap (λ j. get_or v.damaged.marks j false) comes.number ∙ comes.next.marked

damaged_here : (v : Verdicts) (from k : ℕ) (b : BlockId) → Comes v from k b
    → filter (is_marked v.damaged) (blocks_from v from) ≡ b ∷ filter (is_marked v.damaged) (blocks_from v (k + 1))
damaged_here v from k b comes =
    let below = comes.next.inside in
    sym (skip_damaged v from k comes.next.clear comes.next.later (omega arith))
    ∙ ap (filter (is_marked v.damaged)) (drop-at (blocks_of v.damaged.lattice) k b comes.here)
    ∙ filter-passes (is_marked v.damaged) b (blocks_from v (k + 1)) (is_damaged v from k b comes)

-- its line, and those after it
pub lines-here : (v : Verdicts) (from k : ℕ) (b : BlockId) → Comes v from k b → lines_after v from ≡ line_of v b ∷ lines_after v (k + 1)
lines-here v from k b comes = ap (map (line_of v)) (damaged_here v from k b comes)
