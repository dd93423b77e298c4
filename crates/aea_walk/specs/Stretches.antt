-- The next intact parities along strands, and the stretches of strands that the codeword of some nodes contains, while the
-- nodes are passed in rising order. The blocks that are intact are given by a test. A node n + 1 stands for none.
use Rattle.std.specs.Prelude.{◌≡◌, ◌⊎◌, ℕ, ◌+◌, ◌<◌, ◌≤◌, Bool, true, false, ◌&&◌, nat_le, List, [], length, get_or}
use Rattle.aea_lattice.specs.declared.blocks.BlockId.{BlockId}
use Rattle.aea_lattice.specs.declared.blocks.Class.{Class}
use Rattle.aea_lattice.specs.declared.blocks.Class.TheVariants.{Datum, Horiz, Right, Left}
use Rattle.aea_lattice.specs.declared.grid.Lattice.{Lattice}
use Rattle.aea_lattice.specs.Blocks.{HasNode, HasParity, block_of, class_number}
use Rattle.aea_lattice.specs.Strands.{strand_of, is_on}
use Rattle.aea_lattice.specs.Equations.{codeword_at}
use Rattle.aea_walk.specs.Codewords.{is_touched}
use Rattle.aea_walk.specs.declared.nexts.NextIntact.{NextIntact}

-- whether node x is on the strand of node a, at a or after it, and no fence parts them
abbrev pub is_along : Lattice → Class → ℕ → ℕ → Bool
is_along l c a x = nat_le a x && is_on l c (strand_of l c x) x a

-- ---- the next intact parity

-- v is the first node from this one on, on the strand, whose parity is intact
pub record IsNextIntact (l : Lattice) (intact : BlockId → Bool) (c : Class) (strand from v : ℕ) : Type 0 where
  pub later : from ≤ v
  pub on : v ≤ l.n → strand_of l c v ≡ strand
  pub whole : v ≤ l.n → intact (block_of v c) ≡ true
  pub least : (x : ℕ) → from ≤ x → x ≤ l.n → strand_of l c x ≡ strand → intact (block_of x c) ≡ true → v ≤ x

-- the list has it for each parity of the class, at the parity's node
pub record AreNextOn (l : Lattice) (intact : BlockId → Bool) (c : Class) (next : List ℕ) : Type 0 where
  pub long : length next ≡ l.n + 1
  pub has : (x : ℕ) → HasNode l x → IsNextIntact l intact c (strand_of l c x) x (get_or next x 0)

-- the list has it for each parity from this node on, and the strands have the first of those parities
pub record AreNextFrom (l : Lattice) (intact : BlockId → Bool) (c : Class) (from : ℕ) (next ends : List ℕ) : Type 0 where
  pub strands : (t : ℕ) → t < 64 → IsNextIntact l intact c t from (get_or ends t 0)
  pub has : (x : ℕ) → from ≤ x → x ≤ l.n → IsNextIntact l intact c (strand_of l c x) x (get_or next x 0)

-- the list of a class; a datum lies on no strand
abbrev pub next_of : NextIntact → Class → List ℕ
next_of t Datum = []
next_of t Horiz = t.horiz.items
next_of t Right = t.right.items
next_of t Left = t.left.items

-- the table has the next intact parity for each parity of the lattice
abbrev pub AreNextIntact : Lattice → (BlockId → Bool) → NextIntact → Type 0
AreNextIntact l intact t = (c : Class) → HasParity l c → AreNextOn l intact c (next_of t c)

-- ---- stretches

-- v is the first node whose parity is intact, of those along the strand of node a, from there on and before the limit
pub record IsFirstIn (l : Lattice) (intact : BlockId → Bool) (c : Class) (a limit v : ℕ) : Type 0 where
  pub along : v ≤ l.n → is_along l c a v ≡ true
  pub before : v ≤ l.n → v < limit
  pub whole : v ≤ l.n → intact (block_of v c) ≡ true
  pub least : (x : ℕ) → x ≤ l.n → is_along l c a x ≡ true → x < limit → intact (block_of x c) ≡ true → v ≤ x

-- whether the parity of node x is in a stretch that is open
abbrev pub is_open : Lattice → Class → List ℕ → ℕ → Bool
is_open l c opens x = is_along l c (get_or opens (strand_of l c x) 0) x

-- a stretch that is open on the strand s begins at one of the nodes that were passed
pub record IsOpenAt (l : Lattice) (c : Class) (taken : ℕ → Bool) (s a : ℕ) : Type 0 where
  pub node : HasNode l a
  pub strand : strand_of l c a ≡ s
  pub passed : taken a ≡ true

-- The nodes `taken` were passed. What is in a stretch that is open is in their codeword, and after the last of them nothing
-- else is; `first` is the first node whose parity is intact and in a stretch that has ended.
pub record ArePassed (l : Lattice) (intact : BlockId → Bool) (c : Class) (taken : ℕ → Bool) (opens : List ℕ) (first : ℕ) : Type 0 where
  pub some : (s : ℕ) → s < 64 → get_or opens s 0 ≤ l.n → IsOpenAt l c taken s (get_or opens s 0)
  pub inside : (x : ℕ) → HasNode l x → is_open l c opens x ≡ true → codeword_at l taken x c ≡ true
  pub only : (x : ℕ) → HasNode l x → ((n : ℕ) → taken n ≡ true → n ≤ x) → codeword_at l taken x c ≡ true → is_open l c opens x ≡ true
  pub node : first ≤ l.n → 1 ≤ first
  pub ended : first ≤ l.n → (n : ℕ) × (taken n ≡ true) × (first < n)
  pub whole : first ≤ l.n → intact (block_of first c) ≡ true
  pub touched : first ≤ l.n → codeword_at l taken first c ≡ true
  pub least : (x : ℕ) → HasNode l x → intact (block_of x c) ≡ true → codeword_at l taken x c ≡ true → (first ≤ x) ⊎ (is_open l c opens x ≡ true)

-- ---- the first touched block of each class

-- whether the lattice has a block of this class, and that of node i is intact and in the codeword of the nodes
abbrev pub is_touched_at : Lattice → (BlockId → Bool) → List ℕ → ℕ → Class → Bool
is_touched_at l intact nodes i c = nat_le (class_number c) l.alpha && is_touched l intact nodes (block_of i c)

-- v is the first node whose block of this class is intact and in the codeword of the nodes
pub record IsFirstOn (l : Lattice) (intact : BlockId → Bool) (nodes : List ℕ) (c : Class) (v : ℕ) : Type 0 where
  pub node : v ≤ l.n → 1 ≤ v
  pub touched : v ≤ l.n → is_touched_at l intact nodes v c ≡ true
  pub least : (x : ℕ) → HasNode l x → is_touched_at l intact nodes x c ≡ true → v ≤ x

-- of the blocks of node i, that of this class is the first that is intact and in the codeword of the nodes
pub record IsFirstTouched (l : Lattice) (intact : BlockId → Bool) (nodes : List ℕ) (i : ℕ) (c : Class) : Type 0 where
  pub touched : is_touched_at l intact nodes i c ≡ true
  pub before : (d : Class) → class_number d < class_number c → is_touched_at l intact nodes i d ≡ false
