-- The rows of a lattice over the columns that are used alone: first the blocks that are not known, in number order, and
-- then the equations that have one, in falling order.
use Rattle.std.specs.Prelude.{◌≡◌, ℕ, suc, ◌+◌, ◌-◌, ◌<◌, ◌^◌, Bool, true, false, not, ◌&&◌, ◌==◌, cond, nat_lt, List, [], ◌∷◌, filter, get_or, length, All}
use Rattle.aea_lattice.specs.declared.blocks.Class.TheVariants.{Datum}
use Rattle.aea_lattice.specs.declared.blocks.BlockId.{BlockId}
use Rattle.aea_lattice.specs.declared.blocks.EqId.{EqId}
use Rattle.aea_lattice.specs.declared.grid.Lattice.{Lattice}
use Rattle.aea_lattice.specs.Blocks.{HasBlock, block_of, class_number, number_of, blocks_of}
use Rattle.aea_lattice.specs.Equations.{equation_of, is_in_equation}
use Rattle.aea_lattice.specs.LeastWord.{IsWord}
use Rattle.aea_gauss_words.specs.Matrices.{IsLead, IsReduction}
use Rattle.aea_fates.specs.Sums.{IsSum}
use Rattle.aea_fates.specs.Live.{live_equations}
use Rattle.aea_readings.specs.Readings.{IsFree, word_at}

-- the blocks that are not known, in number order
abbrev pub unknown_blocks : Lattice → (BlockId → Bool) → List BlockId
unknown_blocks l known = filter (λ b. not (known b)) (blocks_of l)

-- the block at a place of a list
abbrev pub block_in : List BlockId → ℕ → BlockId
block_in blocks a = get_or blocks a (block_of 0 Datum)

-- Blocks of a lattice in number order, as the unknown ones are: each has a greater number than those before it. There
-- are at most 4,194,304.
pub record AreListed (l : Lattice) (blocks : List BlockId) : Type 0 where
  pub inside : All (HasBlock l) blocks
  pub rise : (a b : ℕ) → a < b → b < length blocks → number_of l (block_in blocks a) < number_of l (block_in blocks b)
  pub few : length blocks < 2 ^ 23

-- The blocks that are not known are such a list.
abbrev pub UnknownAreListed : Type 0
UnknownAreListed = (l : Lattice) (known : BlockId → Bool) → AreListed l (unknown_blocks l known)

-- the equation at a place of a list
abbrev pub equation_in : List EqId → ℕ → EqId
equation_in equations i = get_or equations i (equation_of 0 Datum)

-- the column of the equation of a row, after so many blocks: those of later rows come first
abbrev pub own_column : ℕ → ℕ → ℕ → ℕ
own_column blocks rows i = blocks + (rows - 1 - i)

-- the row of an equation: the listed blocks that are in it, and its own column
abbrev pub small_row : Lattice → List BlockId → EqId → ℕ → ℕ → Bool
small_row l blocks e own a = cond (nat_lt a (length blocks)) (is_in_equation l e (block_in blocks a)) (a == own)

-- the rows of some equations over some blocks
abbrev pub small_start : Lattice → List BlockId → List EqId → ℕ → ℕ → Bool
small_start l blocks equations i =
    small_row l blocks (equation_in equations i) (own_column (length blocks) (length equations) i)

-- the nodes of the data blocks at the places that pass, in order
abbrev pub nodes_at : (ℕ → Bool) → List BlockId → List ℕ
nodes_at p [] = []
nodes_at p (b ∷ blocks) =
    cond (p 0 && class_number b.class == 0) (b.node ∷ nodes_at (λ k. p (suc k)) blocks) (nodes_at (λ k. p (suc k)) blocks)

-- the equations at the places that pass, in order
abbrev pub equations_at : (ℕ → Bool) → List EqId → List EqId
equations_at p [] = []
equations_at p (e ∷ equations) =
    cond (p 0) (e ∷ equations_at (λ k. p (suc k)) equations) (equations_at (λ k. p (suc k)) equations)

-- What reduced rows over the used columns show: a block that leads no row has its own word, one that leads a row with a
-- further block has the word of the next one, and one that leads a row without a further block has the equations of
-- that row.
pub record RevealSmall (l : Lattice) (known : BlockId → Bool) (blocks : List BlockId) (equations : List EqId) (m : ℕ → ℕ → Bool) : Type 0 where
  pub free : (a : ℕ) → a < length blocks → IsFree (length equations) (length blocks + length equations) m a
      → IsWord l known (block_in blocks a) (nodes_at (word_at (length equations) m a) blocks)
  pub next : (a f i : ℕ) → a < length blocks → i < length equations → IsLead (length blocks + length equations) (m i) a
      → a < f → f < length blocks → m i f ≡ true → ((k : ℕ) → a < k → k < f → m i k ≡ false)
      → IsWord l known (block_in blocks a) (nodes_at (word_at (length equations) m f) blocks)
  pub sum : (a i : ℕ) → a < length blocks → i < length equations → IsLead (length blocks + length equations) (m i) a
      → ((k : ℕ) → a < k → k < length blocks → m i k ≡ false)
      → IsSum l known (block_in blocks a) (equations_at (λ j. m i (own_column (length blocks) (length equations) j)) equations)

-- Each reduction of the rows over the used columns shows the fates.
abbrev pub SmallRowsRevealFates : Type 0
SmallRowsRevealFates =
    (l : Lattice) (known : BlockId → Bool) (blocks : List BlockId) (equations : List EqId) (m : ℕ → ℕ → Bool)
    → blocks ≡ unknown_blocks l known → equations ≡ live_equations l known
    → IsReduction (length equations) (length blocks + length equations) (small_start l blocks equations) m
    → RevealSmall l known blocks equations m
