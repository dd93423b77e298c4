-- One mark that is set: which block has it, and how many have none.
use Rattle.std.proofs.Common.{◌≡◌, ◌≢◌, ℕ, ◌+◌, ◌<◌, Bool, true, false, cond, length, get_or, set, sym, ◌∙◌, ap, arith}
use Rattle.std.specs.Prelude.{not, count_by, sum_by}
use Rattle.std.proofs.lemmas.List.{get_or-set_same, get_or-set_other, length-set}
use Rattle.std.proofs.lemmas.List.Sums.{sum_by-set}
use Rattle.aea_lattice.specs.declared.blocks.BlockId.{BlockId}
use Rattle.aea_lattice.specs.declared.grid.Lattice.{Lattice}
use Rattle.aea_lattice.specs.Blocks.{HasBlock, number_of, blocks_count}
use Rattle.aea_lattice.proofs.Equations.{number_below, number_equal}
use Rattle.aea_view.specs.Marked.{Marked, IsWhole, is_marked, unmarked}

-- the second marks are the first ones with this one mark
pub record Sets (m n : Marked) (b : BlockId) (x : Bool) : Type 0 where
  pub block : HasBlock m.lattice b
  pub whole : IsWhole n
  pub same : n.lattice ≡ m.lattice
  pub marks : n.marks ≡ set m.marks (number_of m.lattice b) x

number_inside : (m n : Marked) (b : BlockId) (x : Bool) → Sets m n b x → number_of m.lattice b < length m.marks
number_inside m n b x sets =
    let long : length n.marks ≡ length m.marks = ap length sets.marks ∙ length-set m.marks (number_of m.lattice b) x in
    omega (arith, number_below m.lattice b sets.block, sets.whole, ap blocks_count sets.same, long)

marks_as : (m n : Marked) (b : BlockId) (x : Bool) → Sets m n b x → (d : BlockId) → is_marked n d ≡ get_or (set m.marks (number_of m.lattice b) x) (number_of m.lattice d) false
marks_as m n b x sets d = ap (λ (l : Lattice). get_or n.marks (number_of l d) false) sets.same ∙ ap (λ ms. get_or ms (number_of m.lattice d) false) sets.marks

-- the block has it
pub mark_here : (m n : Marked) (b : BlockId) (x : Bool) → Sets m n b x → is_marked n b ≡ x
mark_here m n b x sets = marks_as m n b x sets b ∙ get_or-set_same m.marks (number_of m.lattice b) x false (number_inside m n b x sets)

-- and each other block the mark that it had
pub mark_other : (m n : Marked) (b : BlockId) (x : Bool) → Sets m n b x → (d : BlockId) → HasBlock m.lattice d → d ≢ b → is_marked n d ≡ is_marked m d
mark_other m n b x sets d has other =
    marks_as m n b x sets d
    ∙ get_or-set_other m.marks (number_of m.lattice b) (number_of m.lattice d) x false (λ same. other (number_equal m.lattice d b has sets.block same))

-- with one more mark one block less is not marked
pub one_marked : (m n : Marked) (b : BlockId) → Sets m n b true → is_marked m b ≡ false → unmarked n + 1 ≡ unmarked m
one_marked m n b sets clear =
    let f : Bool → ℕ = λ x. cond (not x) 1 0 in
    let k = number_of m.lattice b in
    let sum : sum_by f (set m.marks k true) + f (get_or m.marks k false) ≡ sum_by f m.marks + f true = sum_by-set f m.marks k true false (number_inside m n b true sets) in
    ap (λ ms. count_by not ms + 1) sets.marks ∙ ap (λ x. sum_by f (set m.marks k true) + f x) (sym clear) ∙ sum ∙ omega arith
