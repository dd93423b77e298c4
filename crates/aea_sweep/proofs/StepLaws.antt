-- The steps of the words that are open so far, as statements.
use Rattle.std.specs.Prelude.{◌≡◌, ◌≢◌, ◌⊎◌, ℕ, suc, ◌<◌, ◌≤◌, Bool, true, false, ◌==◌, cond, IsTrue, Some, None}
use Rattle.aea_lattice.specs.declared.blocks.Class.{Class}
use Rattle.aea_lattice.specs.declared.blocks.Class.TheVariants.{Datum}
use Rattle.aea_lattice.specs.declared.blocks.BlockId.{BlockId}
use Rattle.aea_lattice.specs.declared.grid.Lattice.{Lattice}
use Rattle.aea_lattice.specs.Blocks.{HasBlock, block_of}
use Rattle.aea_lattice.specs.Strands.{previous, strand_of, IsNext}
use Rattle.aea_lattice.specs.Equations.{is_in_codeword}
use Rattle.aea_lattice.specs.Facts.{Misses}
use Rattle.aea_lattice.specs.LeastWord.{IsEnd, IsWordOfEnd, IsLeastWord}
use Rattle.aea_sweep.specs.Sweep.{AreWords, AreEnds, with_added}

-- the blocks of the second set are those of the first, and b
abbrev pub Sees : Lattice → (BlockId → Bool) → (BlockId → Bool) → BlockId → Type 0
Sees l old new b =
    ((d : BlockId) → HasBlock l d → IsTrue (old d) → IsTrue (new d)) × IsTrue (new b)
    × ((d : BlockId) → HasBlock l d → IsTrue (new d) → IsTrue (old d) ⊎ (d ≡ b))

-- nothing at node t, and the words as they were at the others
abbrev pub without_row : (ℕ → ℕ → Bool) → ℕ → ℕ → ℕ → Bool
without_row words t r i = cond (r == t) false (words r i)

-- the words, and after them that of one node
abbrev pub with_node : (ℕ → ℕ → Bool) → ℕ → ℕ → ℕ → ℕ → Bool
with_node words rows node r i = cond (r == rows) (i == node) (words r i)

-- A known datum adds nothing.
abbrev pub PassesDatum : Type 0
PassesDatum =
    (l : Lattice) (m : ℕ) (seen new : BlockId → Bool) (rows : ℕ) (words : ℕ → ℕ → Bool)
    → suc m ≤ l.n → Sees l seen new (block_of (suc m) Datum)
    → AreWords l m seen rows words → AreWords l (suc m) new rows words

-- An unknown datum adds the word of its node.
abbrev pub AddsDatum : Type 0
AddsDatum =
    (l : Lattice) (m : ℕ) (seen : BlockId → Bool) (rows : ℕ) (words : ℕ → ℕ → Bool)
    → ((d : BlockId) → HasBlock l d → IsTrue (seen d) → d.node ≤ m)
    → AreWords l m seen rows words → AreWords l (suc m) seen (suc rows) (with_node words rows (suc m))

-- A known block that no word has changes nothing.
abbrev pub PassesBlock : Type 0
PassesBlock =
    (l : Lattice) (m : ℕ) (seen new : BlockId → Bool) (rows : ℕ) (words : ℕ → ℕ → Bool) (b : BlockId)
    → HasBlock l b → Sees l seen new b
    → ((r : ℕ) → r < rows → is_in_codeword l (words r) b ≡ false)
    → AreWords l m seen rows words → AreWords l m new rows words

-- A known block that one word alone has ends that word.
abbrev pub EndsWord : Type 0
EndsWord =
    (l : Lattice) (m : ℕ) (seen new : BlockId → Bool) (rows : ℕ) (words : ℕ → ℕ → Bool) (b : BlockId) (t : ℕ)
    → HasBlock l b → Sees l seen new b → t < rows
    → is_in_codeword l (words t) b ≡ true
    → ((r : ℕ) → r < rows → r ≢ t → is_in_codeword l (words r) b ≡ false)
    → AreWords l m seen rows words → AreWords l m new rows (without_row words t)

-- A word may be added to others.
abbrev pub AddsWord : Type 0
AddsWord =
    (l : Lattice) (m : ℕ) (seen : BlockId → Bool) (rows : ℕ) (words : ℕ → ℕ → Bool) (t : ℕ) (hit : ℕ → Bool)
    → t < rows → hit t ≡ false
    → AreWords l m seen rows words → AreWords l m seen rows (with_added words t hit)

-- At the end the words are those of the ends, no block but these is an end, and the first word that has a block is that of
-- the least end.
pub record RevealWords (l : Lattice) (known : BlockId → Bool) (rows : ℕ) (words : ℕ → ℕ → Bool) (ends : ℕ → BlockId) : Type 0 where
  pub word : (r : ℕ) → r < rows → IsWordOfEnd l known (ends r) (words r)
  pub all : (e : BlockId) → IsEnd l known e → (r : ℕ) × (r < rows) × (ends r ≡ e)
  pub least : (b : BlockId) (r : ℕ) → HasBlock l b → r < rows → is_in_codeword l (words r) b ≡ true
      → ((q : ℕ) → q < r → is_in_codeword l (words q) b ≡ false) → IsLeastWord l known b (ends r) (words r)
  pub none : (b : BlockId) → HasBlock l b → ((r : ℕ) → r < rows → is_in_codeword l (words r) b ≡ false)
      → (nodes : ℕ → Bool) → Misses l known nodes → is_in_codeword l nodes b ≡ false

abbrev pub EndsRevealWords : Type 0
EndsRevealWords =
    (l : Lattice) (known : BlockId → Bool) (rows : ℕ) (words : ℕ → ℕ → Bool) (ends : ℕ → BlockId)
    → AreEnds l known rows words ends → RevealWords l known rows words ends

-- After a node with no next one on its strand no later node before a fence is on that strand: where the strand of a later
-- node goes on from g, at or before i, it is another one.
abbrev pub StrandEnds : Type 0
StrandEnds =
    (l : Lattice) (i : ℕ) (c : Class) → IsNext l c i None
    → (j g : ℕ) → i < j → j ≤ l.n → previous l c j ≡ Some g → g ≤ i → strand_of l c j ≢ strand_of l c i

-- word q at place t, and nothing at place q
abbrev pub moved : (ℕ → ℕ → Bool) → ℕ → ℕ → ℕ → ℕ → Bool
moved words q t r i = cond (r == t) (words q i) (cond (r == q) false (words r i))

-- A word goes to an empty place.
abbrev pub MovesWord : Type 0
MovesWord =
    (l : Lattice) (m : ℕ) (seen : BlockId → Bool) (rows : ℕ) (words : ℕ → ℕ → Bool) (t q : ℕ) → t < rows → q < rows → t ≢ q
    → ((i : ℕ) → words t i ≡ false) → AreWords l m seen rows words → AreWords l m seen rows (moved words q t)

-- An empty place after the others may be there or not.
pub record EmptyPlaces (l : Lattice) (m : ℕ) (seen : BlockId → Bool) (rows : ℕ) (words : ℕ → ℕ → Bool) : Type 0 where
  pub put : AreWords l m seen rows words → AreWords l m seen (suc rows) words
  pub taken : AreWords l m seen (suc rows) words → AreWords l m seen rows words

abbrev pub EmptyMatters : Type 0
EmptyMatters =
    (l : Lattice) (m : ℕ) (seen : BlockId → Bool) (rows : ℕ) (words : ℕ → ℕ → Bool) → ((i : ℕ) → words rows i ≡ false)
    → EmptyPlaces l m seen rows words
