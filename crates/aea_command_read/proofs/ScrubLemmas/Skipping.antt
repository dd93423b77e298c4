-- Blocks that are passed over: those from one number to another, where none of them is marked.
use Rattle.std.proofs.Common.{◌≡◌, ℕ, zero, suc, ◌+◌, ◌-◌, ◌<◌, ◌≤◌, List, take, length, get_or, Some, None, Option, Bool, true, false, refl, sym, ◌∙◌, ap, subst, arith}
use Rattle.std.specs.Prelude.{slice_get, filter}
use Rattle.std.proofs.lemmas.List.{append-nil, take_all}
use Rattle.aea_lattice.specs.declared.blocks.BlockId.{BlockId}
use Rattle.aea_lattice.specs.declared.grid.Lattice.{Lattice}
use Rattle.aea_lattice.specs.Blocks.{HasBlock, number_of, blocks_count, blocks_of}
use Rattle.aea_lattice.proofs.Numbers.{length-blocks_of}
use Rattle.aea_view.specs.Marked.{Marked, AreClear, IsNextMarked}
use Rattle.aea_plan.proofs.Numbered.{is-at}
use Rattle.aea_command.specs.Marks.{AreMarks}
use Rattle.aea_command_read.proofs.ScrubLemmas.BlockLines.{filter-more, take-more, within_some}

-- a block whose mark is not set does not pass the test of the marks
unlisted : (l : Lattice) (m : Marked) (test : BlockId → Bool) (from end j : ℕ) (x : BlockId) → AreMarks l m.marks test → AreClear m from end
    → from ≤ j → j < end → j < blocks_count l → slice_get (blocks_of l) j ≡ Some x → test x ≡ false
unlisted l m test from end j x are clear after below less here =
    let at = is-at l j x less here in
    sym (are x at.block) ∙ ap (λ k. get_or m.marks k false) at.number ∙ clear j after below

step_over : (test : BlockId → Bool) (blocks : List BlockId) (k : ℕ) (r : Option BlockId) → slice_get blocks k ≡ r → k < length blocks
    → ((x : BlockId) → slice_get blocks k ≡ Some x → test x ≡ false) → filter test (take (k + 1) blocks) ≡ filter test (take k blocks)
step_over test blocks k None here less fails = absurd (within_some blocks k less here)
step_over test blocks k (Some x) here less fails =
    ap (filter test) (take-more blocks k x here)
    ∙ filter-more test (take k blocks) x false (fails x here)
    ∙ append-nil (filter test (take k blocks))

pass_over : (test : BlockId → Bool) (blocks : List BlockId) (from d : ℕ) → from + d ≤ length blocks
    → ((j : ℕ) (x : BlockId) → from ≤ j → j < from + d → slice_get blocks j ≡ Some x → test x ≡ false)
    → filter test (take (from + d) blocks) ≡ filter test (take from blocks)
pass_over test blocks from zero room fail = let e : from + 0 ≡ from = omega arith in ap (λ n. filter test (take n blocks)) e
pass_over test blocks from (suc d) room fail =
    let e : from + suc d ≡ (from + d) + 1 = omega arith in
    ap (λ n. filter test (take n blocks)) e
    ∙ step_over test blocks (from + d) (slice_get blocks (from + d)) refl (omega arith) (λ x here. fail (from + d) x (omega arith) (omega arith) here)
    ∙ pass_over test blocks from d (omega arith) (λ j x after below here. fail j x after (omega arith) here)

-- the blocks that pass the test of the marks, up to the next marked one
pub passing-skip : (l : Lattice) (m : Marked) (test : BlockId → Bool) (from k : ℕ) → AreMarks l m.marks test → AreClear m from k
    → from ≤ k → k ≤ blocks_count l → filter test (take k (blocks_of l)) ≡ filter test (take from (blocks_of l))
passing-skip l m test from k are clear up within =
    let e : from + (k - from) ≡ k = omega arith in
    let long = length-blocks_of l in
    sym (ap (λ n. filter test (take n (blocks_of l))) e)
    ∙ pass_over test (blocks_of l) from (k - from) (omega arith)
    (λ j x after below here. unlisted l m test from k j x are clear after (omega arith) (omega arith) here)

-- the next marked block passes the test of the marks
pub is_next : (l : Lattice) (m : Marked) (test : BlockId → Bool) (from k : ℕ) (b : BlockId) → AreMarks l m.marks test → IsNextMarked m from k → HasBlock l b → number_of l b ≡ k → test b ≡ true
is_next l m test from k b are next inside number = sym (are b inside) ∙ ap (λ i. get_or m.marks i false) number ∙ next.marked

-- the blocks up to it that pass
pub up_to : (l : Lattice) (m : Marked) (test : BlockId → Bool) (from k : ℕ) → m.lattice ≡ l → AreMarks l m.marks test → IsNextMarked m from k
    → filter test (take k (blocks_of l)) ≡ filter test (take from (blocks_of l))
up_to l m test from k same are next =
    let count = ap blocks_count same in
    let below = next.inside in
    passing-skip l m test from k are next.clear next.later (omega arith)

-- all that pass, where no more is marked
pub all_of : (l : Lattice) (m : Marked) (test : BlockId → Bool) (from : ℕ) → m.lattice ≡ l → AreMarks l m.marks test → AreClear m from (blocks_count m.lattice) → from ≤ blocks_count l
    → filter test (take from (blocks_of l)) ≡ filter test (blocks_of l)
all_of l m test from same are clear within =
    let long = length-blocks_of l in
    let whole : take (blocks_count l) (blocks_of l) ≡ blocks_of l = take_all (blocks_count l) (blocks_of l) (omega arith) in
    let none : AreClear m from (blocks_count l) = subst (λ (x : Lattice). AreClear m from (blocks_count x)) same clear in
    sym (passing-skip l m test from (blocks_count l) are none within (omega arith)) ∙ ap (filter test) whole
