-- Marks of blocks that are looked at in number order.
use Rattle.std.proofs.Common.{◌≡◌, ℕ, ◌+◌, ◌<◌, ◌≤◌, inl, inr, Bool, false, length, get_or, set, arith, sym, ◌∙◌, ap, subst}
use Rattle.std.specs.Prelude.{◌↔◌, IsTrue}
use Rattle.std.proofs.lemmas.List.{get_or-set_other, get_or-set_same}
use Rattle.std.proofs.lemmas.Bool.{cases_lt}
use Rattle.aea_lattice.specs.declared.blocks.BlockId.{BlockId}
use Rattle.aea_lattice.specs.declared.grid.Lattice.{Lattice}
use Rattle.aea_lattice.specs.Blocks.{HasBlock, number_of, blocks_count}
use Rattle.aea_lattice.proofs.Equations.{number_equal, number_below}
use Rattle.aea_view.specs.Marked.{Marked, is_marked}
use Rattle.aea_disk.specs.Files.{Files}
use Rattle.aea_ledger.specs.Values.{Opened}
use Rattle.aea_ledger.specs.Recorded.{IsLatticeOf}
use Rattle.aea_archive.specs.Blocks.{IsIntactBy, RevealsSurvivors}
use Rattle.aea_scrub.specs.Scans.{AreIntact, AreIntactTo}

-- no block was looked at yet
pub marked_none : (v : Opened) (c : Files) (m : Marked) → AreIntactTo v c m 0
marked_none v c m b has below = absurd (omega (arith, below))

-- one block more was looked at, and its mark set
pub marked_next : (v : Opened) (c : Files) (m n : Marked) (a : BlockId) (x : Bool) (k : ℕ)
    → m.lattice ≡ v.lattice → n.lattice ≡ m.lattice → length m.marks ≡ blocks_count m.lattice
    → HasBlock v.lattice a → number_of v.lattice a ≡ k
    → n.marks ≡ set m.marks (number_of m.lattice a) x
    → IsTrue x ↔ IsIntactBy v.shape v.digests c a
    → AreIntactTo v c m k → AreIntactTo v c n (k + 1)
marked_next v c m n a x k lattice same whole has_a at marks here before b has below =
    let inside : k < length m.marks = omega (arith, number_below v.lattice a has_a, at, whole ∙ ap blocks_count lattice) in
    let to : n.marks ≡ set m.marks k x = marks ∙ ap (λ (l : Lattice). set m.marks (number_of l a) x) lattice ∙ ap (λ i. set m.marks i x) at in
    let e : is_marked n b ≡ get_or (set m.marks k x) (number_of v.lattice b) false =
    ap (λ ms. get_or ms (number_of n.lattice b) false) to
    ∙ ap (λ (l : Lattice). get_or (set m.marks k x) (number_of l b) false) (same ∙ lattice) in
    elim (cases_lt (number_of v.lattice b) k) [
      | inl lt ↦
          let old : IsTrue (get_or m.marks (number_of v.lattice b) false) ↔ IsIntactBy v.shape v.digests c b =
          subst (λ (l : Lattice). IsTrue (get_or m.marks (number_of l b) false) ↔ IsIntactBy v.shape v.digests c b) lattice (before b has lt) in
          subst (λ (y : Bool). IsTrue y ↔ IsIntactBy v.shape v.digests c b)
          (sym (e ∙ get_or-set_other m.marks k (number_of v.lattice b) x false (λ is. absurd (omega (arith, is, lt))))) old
      | inr le ↦
          let is : number_of v.lattice b ≡ k = omega (arith, le, below) in
          let one : b ≡ a = number_equal v.lattice b a has has_a (is ∙ sym at) in
          subst (λ (y : Bool). IsTrue y ↔ IsIntactBy v.shape v.digests c b)
          (sym (e ∙ ap (λ i. get_or (set m.marks k x) i false) is ∙ get_or-set_same m.marks k x false inside))
          (subst (λ (d : BlockId). IsTrue x ↔ IsIntactBy v.shape v.digests c d) (sym one) here)
    ]

-- all blocks were looked at
pub marked_all : (v : Opened) (c : Files) (m : Marked) (k : ℕ) → blocks_count v.lattice ≤ k → AreIntactTo v c m k → AreIntact v c m
marked_all v c m k end to b has = to b has (omega (arith, number_below v.lattice b has, end))

-- marks of the intact blocks distinguish the survivors
pub marks_reveal : (v : Opened) (l : Lattice) (c : Files) (m : Marked) → l ≡ v.lattice → IsLatticeOf v.shape l.n l.fences l
    → AreIntact v c m → RevealsSurvivors v.shape v.lattice.n v.digests c (is_marked m)
marks_reveal v l c m same of_shape are b block =
    are b (record { first = omega (arith, block.after); last = block.most; used = omega (arith, block.used, of_shape.alpha, ap (λ (x : Lattice). x.alpha) same) })
