-- The nodes of a lost block: of all codewords that contain no known block, the one that is chosen for it.
use Rattle.std.specs.Prelude.{◌≡◌, ℕ, ◌≤◌, Bool, List, filter, IsTrue}
use Rattle.aea_lattice.specs.declared.blocks.BlockId.{BlockId}
use Rattle.aea_lattice.specs.declared.grid.Lattice.{Lattice}
use Rattle.aea_lattice.specs.Blocks.{HasBlock, number_of}
use Rattle.aea_lattice.specs.Strands.{nodes_to}
use Rattle.aea_lattice.specs.Equations.{is_in_codeword}
use Rattle.aea_lattice.specs.Facts.{Misses}
use Rattle.aea_lattice.specs.Lists.{has_node}

-- the codeword of the nodes has e as its block of greatest number, and no known block
pub record IsEndOf (l : Lattice) (known : BlockId → Bool) (nodes : ℕ → Bool) (e : BlockId) : Type 0 where
  pub block : HasBlock l e
  pub misses : Misses l known nodes
  pub contains : IsTrue (is_in_codeword l nodes e)
  pub greatest : (d : BlockId) → HasBlock l d → IsTrue (is_in_codeword l nodes d) → number_of l d ≤ number_of l e

-- The block is an end: it is the block of greatest number in some codeword that contains no known block.
abbrev pub IsEnd : Lattice → (BlockId → Bool) → BlockId → Type 0
IsEnd l known e = (nodes : ℕ → Bool) × IsEndOf l known nodes e

-- The nodes of an end: their codeword contains the end, no other end and no known block. An end has just one such
-- codeword.
pub record IsWordOfEnd (l : Lattice) (known : BlockId → Bool) (e : BlockId) (nodes : ℕ → Bool) : Type 0 where
  pub is_end : IsEnd l known e
  pub misses : Misses l known nodes
  pub contains : IsTrue (is_in_codeword l nodes e)
  pub alone : (d : BlockId) → IsEnd l known d → IsTrue (is_in_codeword l nodes d) → d ≡ e

-- the nodes are those of the end e, their codeword contains b, and that of no lesser end does
pub record IsLeastWord (l : Lattice) (known : BlockId → Bool) (b e : BlockId) (nodes : ℕ → Bool) : Type 0 where
  pub word : IsWordOfEnd l known e nodes
  pub contains : IsTrue (is_in_codeword l nodes b)
  pub least : (d : BlockId) (others : ℕ → Bool) → IsWordOfEnd l known d others → IsTrue (is_in_codeword l others b)
      → number_of l e ≤ number_of l d

-- The listed nodes of a lost block: those of the least end whose codeword contains the block, in rising order.
pub record IsWord (l : Lattice) (known : BlockId → Bool) (b : BlockId) (nodes : List ℕ) : Type 0 where
  pub chosen : (e : BlockId) × IsLeastWord l known b e (has_node nodes)
  pub ordered : nodes ≡ filter (has_node nodes) (nodes_to l.n)

-- For a lattice and its known blocks a block has at most one list of nodes by which it is lost.
abbrev pub WordsAreOne : Type 0
WordsAreOne =
    (l : Lattice) (known : BlockId → Bool) (b : BlockId) (xs ys : List ℕ)
    → IsWord l known b xs → IsWord l known b ys → xs ≡ ys
