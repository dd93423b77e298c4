-- The sweep over the nodes: words that are open so far, and what goes with them at the end.
use Rattle.std.specs.Prelude.{◌≡◌, ◌≢◌, ◌⊎◌, ℕ, ◌<◌, ◌≤◌, Bool, true, false, ◌&&◌, IsTrue, List}
use Rattle.aea_lattice.specs.declared.blocks.BlockId.{BlockId}
use Rattle.aea_lattice.specs.declared.blocks.EqId.{EqId}
use Rattle.aea_lattice.specs.declared.grid.Lattice.{Lattice}
use Rattle.aea_lattice.specs.Blocks.{HasBlock, block_of, number_of}
use Rattle.aea_lattice.specs.Equations.{HasEquation, is_in_codeword}
use Rattle.aea_lattice.specs.Facts.{Misses}
use Rattle.aea_lattice.specs.Parity.{differ}
use Rattle.aea_lattice.specs.LeastWord.{IsEndOf}
use Rattle.aea_gauss_laws.specs.Parities.{odd_below}
use Rattle.aea_fates.specs.Sums.{IsSum, output_number, IsSpare}

-- the nodes are some of the first m, and their codeword contains no block that was seen
pub record IsOpen (l : Lattice) (m : ℕ) (seen : BlockId → Bool) (nodes : ℕ → Bool) : Type 0 where
  pub first : (i : ℕ) → nodes i ≡ true → 1 ≤ i
  pub last : (i : ℕ) → nodes i ≡ true → i ≤ m
  pub misses : Misses l seen nodes

-- the XOR of the picked ones of the first rows, at node i
abbrev pub sum_of_words : ℕ → (ℕ → ℕ → Bool) → (ℕ → Bool) → ℕ → Bool
sum_of_words rows words picks i = odd_below (λ r. picks r && words r i) rows

-- The words are open sets of nodes, and each open set is the XOR of some of them.
pub record AreWords (l : Lattice) (m : ℕ) (seen : BlockId → Bool) (rows : ℕ) (words : ℕ → ℕ → Bool) : Type 0 where
  pub each : (r : ℕ) → r < rows → IsOpen l m seen (words r)
  pub whole : (nodes : ℕ → Bool) → IsOpen l m seen nodes → (picks : ℕ → Bool) × ((i : ℕ) → nodes i ≡ sum_of_words rows words picks i)

-- word t is added to each that passes
abbrev pub with_added : (ℕ → ℕ → Bool) → ℕ → (ℕ → Bool) → ℕ → ℕ → Bool
with_added words t hit r i = differ (words r i) (hit r && words t i)

-- Each word has an end of its own, which no other word has, and the ends rise.
pub record AreEnds (l : Lattice) (known : BlockId → Bool) (rows : ℕ) (words : ℕ → ℕ → Bool) (ends : ℕ → BlockId) : Type 0 where
  pub words_are : AreWords l l.n known rows words
  pub end : (r : ℕ) → r < rows → IsEndOf l known (words r) (ends r)
  pub alone : (r q : ℕ) → r < rows → q < rows → r ≢ q → is_in_codeword l (words r) (ends q) ≡ false
  pub rise : (r q : ℕ) → r < q → q < rows → number_of l (ends r) < number_of l (ends q)

-- The nodes show that the known blocks leave d open beside b: their codeword has d, no known block, none of the others that
-- are set aside, and not b.
pub record SetsAside (l : Lattice) (known more : BlockId → Bool) (b d : BlockId) (nodes : ℕ → Bool) : Type 0 where
  pub misses : Misses l known nodes
  pub contains : is_in_codeword l nodes d ≡ true
  pub alone : (x : BlockId) → HasBlock l x → IsTrue (more x) → is_in_codeword l nodes x ≡ true → x ≡ d
  pub lacks : is_in_codeword l nodes b ≡ false

-- Ends may be marked too: the equations that are then listed for a determined block are the same.
abbrev pub EndsStandAside : Type 0
EndsStandAside =
    (l : Lattice) (known more : BlockId → Bool) (b : BlockId) (equations : List EqId) → HasBlock l b
    → ((d : BlockId) → HasBlock l d → IsTrue (known d) → IsTrue (more d))
    → ((d : BlockId) → HasBlock l d → IsTrue (more d) → IsTrue (known d) ⊎ ((nodes : ℕ → Bool) × SetsAside l known more b d nodes))
    → IsSum l more b equations → IsSum l known b equations

-- An equation whose output is not known is not spare, and nor is one that a word contradicts which has its output and none of
-- the known blocks before it.
pub record IsNotSpare (l : Lattice) (known : BlockId → Bool) (e : EqId) : Type 0 where
  pub unknown : known (block_of e.node e.class) ≡ false → IsSpare l known e → ⊥
  pub word : (nodes : ℕ → Bool) → is_in_codeword l nodes (block_of e.node e.class) ≡ true
      → ((d : BlockId) → HasBlock l d → IsTrue (known d) → number_of l d < output_number l e → is_in_codeword l nodes d ≡ false)
      → IsSpare l known e → ⊥

-- Each equation is such.
abbrev pub NotSpare : Type 0
NotSpare = (l : Lattice) (known : BlockId → Bool) (e : EqId) → HasEquation l e → IsNotSpare l known e
