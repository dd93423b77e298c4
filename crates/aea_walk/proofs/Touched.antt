-- The least intact block in a codeword, node by node.
use Rattle.std.proofs.Common.{◌≡◌, ℕ, ◌+◌, ◌-◌, ◌<◌, ◌≤◌, ◌⊎◌, inl, inr, List, Bool, false, Some, None, sym, ◌∙◌, ap, arith}
use Rattle.std.specs.Prelude.{nat_le}
use Rattle.std.proofs.lemmas.Bool.{and_parts, and_cases, leb-true, le-leb, false≢true}
use Rattle.aea_lattice.specs.declared.blocks.Class.{Class}
use Rattle.aea_lattice.specs.declared.blocks.BlockId.{BlockId}
use Rattle.aea_lattice.specs.declared.grid.Lattice.{Lattice}
use Rattle.aea_lattice.specs.Blocks.{HasBlock, block_of, class_number, number_of}
use Rattle.aea_lattice.proofs.Residues.{lexicographic}
use Rattle.aea_walk.specs.Codewords.{is_touched, touched}
use Rattle.aea_walk.specs.Stretches.{is_touched_at, IsFirstTouched}
use Rattle.aea_walk.proofs.Found.{find_first, find_nothing}

-- blocks are in the order of their nodes, and then of their classes
earlier : (l : Lattice) (d b : BlockId) → HasBlock l d → HasBlock l b → number_of l d < number_of l b
    → (d.node < b.node) ⊎ ((d.node ≡ b.node) × (class_number d.class < class_number b.class))
earlier l d b has_d has_b lt =
    let first : 1 ≤ d.node = has_d.first in
    let second : 1 ≤ b.node = has_b.first in
    elim (lexicographic (1 + l.alpha) (d.node - 1) (class_number d.class) (b.node - 1) (class_number b.class)
    (let used = has_d.used in omega arith) (let used = has_b.used in omega arith) lt) [
      | inl less ↦ inl (omega arith)
      | inr same ↦ (let node = same.0 in inr (omega arith, same.1))
    ]

-- a block of a node whose blocks are not touched
pub untouched-block : (l : Lattice) (intact : BlockId → Bool) (nodes : List ℕ) (i : ℕ) (d : BlockId) → HasBlock l d → d.node ≡ i
    → is_touched_at l intact nodes i d.class ≡ false → is_touched l intact nodes d ≡ false
untouched-block l intact nodes i d has same none =
    let here : is_touched_at l intact nodes d.node d.class ≡ false = ap (λ j. is_touched_at l intact nodes j d.class) same ∙ none in
    elim (and_cases (nat_le (class_number d.class) l.alpha) (is_touched l intact nodes d) here) [
      | inl beyond ↦ absurd (false≢true (sym beyond ∙ le-leb (class_number d.class) l.alpha has.used))
      | inr untouched ↦ untouched
    ]

-- the first touched block of a node is the least of all, where those of earlier nodes are not touched
pub first-touched : (l : Lattice) (intact : BlockId → Bool) (nodes : List ℕ) (i : ℕ) (c : Class) → IsFirstTouched l intact nodes i c → 1 ≤ i → i ≤ l.n
    → ((d : BlockId) → HasBlock l d → d.node < i → is_touched l intact nodes d ≡ false) → touched l intact nodes ≡ Some (block_of i c)
first-touched l intact nodes i c first low high before =
    let parts = and_parts (nat_le (class_number c) l.alpha) (is_touched l intact nodes (block_of i c)) first.touched in
    let has : HasBlock l (block_of i c) = record { first = low; last = high; used = leb-true (class_number c) l.alpha parts.0 } in
    find_first l (is_touched l intact nodes) (block_of i c) has parts.1
    (λ d has_d lt. elim (earlier l d (block_of i c) has_d has lt) [
      | inl less ↦ before d has_d less
      | inr same ↦ untouched-block l intact nodes i d has_d same.0 (first.before d.class same.1)
    ])

-- where no block is touched, nothing is found
pub nothing-touched : (l : Lattice) (intact : BlockId → Bool) (nodes : List ℕ) → ((d : BlockId) → HasBlock l d → is_touched l intact nodes d ≡ false) → touched l intact nodes ≡ None
nothing-touched l intact nodes none = find_nothing l (is_touched l intact nodes) none
