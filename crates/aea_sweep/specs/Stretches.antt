-- The stretches of strands that the codeword of some nodes has, while the nodes are passed in rising order.
use Rattle.std.specs.Prelude.{◌≡◌, ◌≢◌, ◌⊎◌, ℕ, ◌≤◌, Bool, true, false, List, length, get_or}
use Rattle.aea_lattice.specs.declared.blocks.Class.{Class}
use Rattle.aea_lattice.specs.declared.blocks.BlockId.{BlockId}
use Rattle.aea_lattice.specs.declared.grid.Lattice.{Lattice}
use Rattle.aea_lattice.specs.Blocks.{HasNode, HasBlock, block_of, class_number}
use Rattle.aea_lattice.specs.Strands.{strand_of}
use Rattle.aea_lattice.specs.Equations.{codeword_at, is_in_codeword}
use Rattle.aea_sweep.specs.Labels.{is_along, label_of}

-- Node a is one of the nodes, and their codeword has each parity of its strand from there on, up to the next fence.
pub record IsOpenFrom (l : Lattice) (c : Class) (taken : ℕ → Bool) (strand a : ℕ) : Type 0 where
  pub node : HasNode l a
  pub strand_is : strand_of l c a ≡ strand
  pub taken_at : taken a ≡ true
  pub has : (x : ℕ) → x ≤ l.n → is_along l c a x ≡ true → codeword_at l taken x c ≡ true

-- What is in the codeword of the nodes that were passed has a label, or is in a stretch that is open; only what is in the
-- codeword of all nodes has got one.
pub record AreEnding (l : Lattice) (c : Class) (taken nodes : ℕ → Bool) (label : ℕ) (labels new opens : List ℕ) : Type 0 where
  pub some : (s : ℕ) → get_or opens s 0 ≢ 0 → IsOpenFrom l c taken s (get_or opens s 0)
  pub covered : (x : ℕ) → HasNode l x → codeword_at l taken x c ≡ true
      → (label_of l new (block_of x c) ≢ 0) ⊎ ((get_or opens (strand_of l c x) 0 ≢ 0) × (is_along l c (get_or opens (strand_of l c x) 0) x ≡ true))
  pub only : (b : BlockId) → HasBlock l b
      → (label_of l new b ≡ label_of l labels b)
      ⊎ ((label_of l labels b ≡ 0) × (label_of l new b ≡ label) × (class_number b.class ≡ class_number c) × (is_in_codeword l nodes b ≡ true))

-- and after the nodes that were passed the codeword has no parity of a strand whose stretch is not open
pub record AreStretches (l : Lattice) (c : Class) (taken nodes : ℕ → Bool) (label : ℕ) (labels new opens : List ℕ) : Type 0 where
  pub ending : AreEnding l c taken nodes label labels new opens
  pub none : (x : ℕ) → HasNode l x → ((n : ℕ) → taken n ≡ true → n ≤ x)
      → (get_or opens (strand_of l c x) 0 ≡ 0) ⊎ (is_along l c (get_or opens (strand_of l c x) 0) x ≡ false) → codeword_at l taken x c ≡ false

-- The open stretches begin at nodes of the lattice, and there is space for each strand.
pub record AreOpens (l : Lattice) (opens : List ℕ) : Type 0 where
  pub long : length opens ≡ 64
  pub inside : (s : ℕ) → get_or opens s 0 ≤ l.n
