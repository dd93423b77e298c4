-- The lines of the damaged blocks, one block after the other.
use Rattle.std.proofs.Common.{◌≡◌, ℕ, ◌+◌, [], ◌∷◌, ◌++◌, length, length-append, take, drop, sym, ◌∙◌, ap, Some, Bool, true}
use Rattle.std.specs.Prelude.{slice_get, filter}
use Rattle.std.specs.List.{flat_map}
use Rattle.std.proofs.lemmas.List.{append-nil, take-append-drop}
use Rattle.std.proofs.lemmas.List.Elements.{filter-append}
use Rattle.std.proofs.lemmas.Grind.{flat_map-append}
use Rattle.aea_lattice.specs.declared.blocks.BlockId.{BlockId}
use Rattle.aea_lattice.specs.declared.grid.Lattice.{Lattice}
use Rattle.aea_lattice.specs.Blocks.{HasBlock, number_of, blocks_of}
use Rattle.aea_view.specs.Marked.{Marked, IsNextMarked}
use Rattle.aea_command.specs.Marks.{AreMarks}
use Rattle.aea_command_read.specs.Scrub.{damaged_line}
use Rattle.aea_command_read.proofs.ScrubLemmas.BlockLines.{filter-more, take-more}
use Rattle.aea_command_read.proofs.ScrubLemmas.Skipping.{is_next, up_to}

-- The block of number k is the next marked one: what it is, and where it is.
pub record IsNextBlock (l : Lattice) (m : Marked) (from k : ℕ) (b : BlockId) : Type 0 where
  pub same : m.lattice ≡ l
  pub next : IsNextMarked m from k
  pub block : HasBlock l b
  pub number : number_of l b ≡ k
  pub place : slice_get (blocks_of l) k ≡ Some b

-- the marked blocks up to the next one, and it
pub damaged_next : (l : Lattice) (m : Marked) (test : BlockId → Bool) (from k : ℕ) (b : BlockId) → AreMarks l m.marks test → IsNextBlock l m from k b
    → filter test (take (k + 1) (blocks_of l)) ≡ filter test (take from (blocks_of l)) ++ b ∷ []
damaged_next l m test from k b are is =
    ap (filter test) (take-more (blocks_of l) k b is.place)
    ∙ filter-more test (take k (blocks_of l)) b true (is_next l m test from k b are is.next is.block is.number)
    ∙ ap (λ xs. xs ++ b ∷ []) (up_to l m test from k is.same are is.next)

-- their lines
pub lines_next : (l : Lattice) (m : Marked) (test : BlockId → Bool) (from k : ℕ) (b : BlockId) → AreMarks l m.marks test → IsNextBlock l m from k b
    → flat_map damaged_line (filter test (take (k + 1) (blocks_of l))) ≡ flat_map damaged_line (filter test (take from (blocks_of l))) ++ damaged_line b
lines_next l m test from k b are is =
    ap (flat_map damaged_line) (damaged_next l m test from k b are is)
    ∙ flat_map-append damaged_line (filter test (take from (blocks_of l))) (b ∷ [])
    ∙ ap (λ zs. flat_map damaged_line (filter test (take from (blocks_of l))) ++ zs) (append-nil (damaged_line b))

-- how many they are
pub count_next : (l : Lattice) (m : Marked) (test : BlockId → Bool) (from k : ℕ) (b : BlockId) → AreMarks l m.marks test → IsNextBlock l m from k b
    → length (filter test (take (k + 1) (blocks_of l))) ≡ length (filter test (take from (blocks_of l))) + 1
count_next l m test from k b are is =
    ap length (damaged_next l m test from k b are is) ∙ length-append (filter test (take from (blocks_of l))) (b ∷ [])

-- all lines: those up to the next block, its own, and those after it
pub lines_around : (l : Lattice) (m : Marked) (test : BlockId → Bool) (from k : ℕ) (b : BlockId) → AreMarks l m.marks test → IsNextBlock l m from k b
    → flat_map damaged_line (filter test (blocks_of l))
    ≡ (flat_map damaged_line (filter test (take from (blocks_of l))) ++ damaged_line b) ++ flat_map damaged_line (filter test (drop (k + 1) (blocks_of l)))
lines_around l m test from k b are is =
    ap (λ zs. flat_map damaged_line (filter test zs)) (sym (take-append-drop (k + 1) (blocks_of l)))
    ∙ ap (flat_map damaged_line) (filter-append test (take (k + 1) (blocks_of l)) (drop (k + 1) (blocks_of l)))
    ∙ flat_map-append damaged_line (filter test (take (k + 1) (blocks_of l))) (filter test (drop (k + 1) (blocks_of l)))
    ∙ ap (λ zs. zs ++ flat_map damaged_line (filter test (drop (k + 1) (blocks_of l)))) (lines_next l m test from k b are is)
