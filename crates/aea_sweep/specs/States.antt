-- What the pass over the blocks holds when it has come to a block: words that are open so far, and their heads.
use Rattle.std.specs.Prelude.{◌≡◌, ◌≢◌, ◌⊎◌, ℕ, suc, ◌+◌, ◌*◌, ◌<◌, ◌≤◌, Bool, true, false, ◌&&◌, ◌||◌, ◌==◌, nat_lt, nat_le, Some, List, [], length, get_or}
use Rattle.aea_lattice.specs.declared.blocks.Class.{Class}
use Rattle.aea_lattice.specs.declared.blocks.Class.TheVariants.{Datum, Horiz, Right, Left}
use Rattle.aea_lattice.specs.declared.blocks.BlockId.{BlockId}
use Rattle.aea_lattice.specs.declared.grid.Lattice.{Lattice}
use Rattle.aea_lattice.specs.Blocks.{HasBlock, number_of, class_number}
use Rattle.aea_lattice.specs.Strands.{previous, strand_of}
use Rattle.aea_lattice.specs.Equations.{is_in_codeword}
use Rattle.aea_lattice.specs.LeastWord.{IsEndOf}
use Rattle.aea_sweep.specs.declared.heads.Heads.{Heads}
use Rattle.aea_sweep.specs.Heads.{head_in}
use Rattle.aea_sweep.specs.Words.{RiseWithin, word_in}
use Rattle.aea_sweep.specs.Sweep.{AreWords, AreEnds}

-- the number of strands of three classes
abbrev pub places_of : Lattice → ℕ
places_of l = l.s + 2 * l.p

-- the place of a strand of the class
abbrev pub place_on : Lattice → Class → ℕ → ℕ
place_on l Datum strand = strand
place_on l Horiz strand = strand
place_on l Right strand = l.s + strand
place_on l Left strand = l.s + l.p + strand

-- the place of the block's strand
abbrev pub place_at : Lattice → BlockId → ℕ
place_at l b = place_on l b.class (strand_of l b.class b.node)

-- The pass has gone over the block, when it has come to class q of node i.
abbrev pub IsPassed : ℕ → ℕ → BlockId → Type 0
IsPassed i q b = (b.node < i) ⊎ ((b.node ≡ i) × (class_number b.class ≤ q))

-- whether it has
abbrev pub is_passed : ℕ → ℕ → BlockId → Bool
is_passed i q b = nat_lt b.node i || (b.node == i && nat_le (class_number b.class) q)

-- the known blocks over which it has gone
abbrev pub seen_to : (BlockId → Bool) → ℕ → ℕ → BlockId → Bool
seen_to known i q b = known b && is_passed i q b

-- The block is a parity of a node up to i that a later node has before it, or over which the pass has not gone.
pub record IsLive (l : Lattice) (i q : ℕ) (b : BlockId) : Type 0 where
  pub block : HasBlock l b
  pub parity : 1 ≤ class_number b.class
  pub most : b.node ≤ i
  pub goes_on : ((j : ℕ) × (i < j) × (j ≤ l.n) × (previous l b.class j ≡ Some b.node)) ⊎ ((b.node ≡ i) × (q < class_number b.class))

-- The heads of the words in slots: at the place of a live parity whether the codeword contains it, and none at other places.
pub record AreHeads (l : Lattice) (i q slots : ℕ) (words heads : ℕ → ℕ → Bool) : Type 0 where
  pub live : (b : BlockId) → IsLive l i q b → (r : ℕ) → r < slots → heads r (place_at l b) ≡ is_in_codeword l (words r) b
  pub only : (r t : ℕ) → r < slots → t < 192 → heads r t ≡ true → (b : BlockId) × IsLive l i q b × (place_at l b ≡ t)

-- The words after the slots are closed: each has an end, which no other word has, and the ends rise.
pub record AreClosed (l : Lattice) (known : BlockId → Bool) (i q slots rows : ℕ) (words : ℕ → ℕ → Bool) (ends : ℕ → BlockId) : Type 0 where
  pub end : (r : ℕ) → slots ≤ r → r < rows → IsEndOf l known (words r) (ends r)
  pub passed : (r : ℕ) → slots ≤ r → r < rows → IsPassed i q (ends r)
  pub alone : (r k : ℕ) → slots ≤ r → r < rows → k < rows → k ≢ r → is_in_codeword l (words k) (ends r) ≡ false
  pub rise : (r k : ℕ) → slots ≤ r → r < k → k < rows → number_of l (ends r) < number_of l (ends k)

-- the words and the heads where the pass has come to class q of node i, also amid its work on that block
pub record AreOpen (l : Lattice) (known : BlockId → Bool) (i q : ℕ) (words : List (List ℕ)) (heads : List Heads) : Type 0 where
  pub slots : length heads ≡ suc (places_of l)
  pub rows : suc (places_of l) ≤ length words
  pub rising : (r : ℕ) → RiseWithin 1 (get_or words r []) (suc i)
  pub words_are : AreWords l i (seen_to known i q) (length words) (word_in words)
  pub heads_are : AreHeads l i q (suc (places_of l)) (word_in words) (head_in heads)
  pub ends : ℕ → BlockId
  pub closed : AreClosed l known i q (suc (places_of l)) (length words) (word_in words) ends

-- A slot's word has the head of the slot, which no other slot's has; or the slot is empty.
pub record ArePivots (slots : ℕ) (words heads : ℕ → ℕ → Bool) : Type 0 where
  pub alone : (t r : ℕ) → t < slots → r < slots → r ≢ t → heads t t ≡ true → heads r t ≡ false
  pub empty : (t i : ℕ) → t < slots → heads t t ≡ false → words t i ≡ false

-- the words and the heads where the pass has gone over class q of node i
pub record AreSwept (l : Lattice) (known : BlockId → Bool) (i q : ℕ) (words : List (List ℕ)) (heads : List Heads) : Type 0 where
  pub are_open : AreOpen l known i q words heads
  pub pivots : ArePivots (places_of l) (word_in words) (head_in heads)
  pub spare : (n : ℕ) → word_in words (places_of l) n ≡ false

-- The spare word's codeword contains the block over which the pass goes, and no other word's does.
pub record IsOwn (l : Lattice) (words : List (List ℕ)) (e : BlockId) : Type 0 where
  pub block : HasBlock l e
  pub contains : is_in_codeword l (word_in words (places_of l)) e ≡ true
  pub alone : (r : ℕ) → r < length words → r ≢ places_of l → is_in_codeword l (word_in words r) e ≡ false

-- the spare word has no head of a slot below t whose word has it
abbrev pub IsFreeBelow : ℕ → ℕ → (ℕ → ℕ → Bool) → Type 0
IsFreeBelow slots t heads = (k : ℕ) → k < t → heads k k ≡ true → heads slots k ≡ false

-- the state where the spare word's codeword contains the block, and the word has no head of a slot below t whose word has it
pub record IsCleanTo (l : Lattice) (known : BlockId → Bool) (i q : ℕ) (e : BlockId) (t : ℕ) (words : List (List ℕ)) (heads : List Heads) : Type 0 where
  pub are_open : AreOpen l known i q words heads
  pub pivots : ArePivots (places_of l) (word_in words) (head_in heads)
  pub own : IsOwn l words e
  pub free : IsFreeBelow (places_of l) t (head_in heads)

-- the state where the spare word has no head of a slot whose word has it, and one at this place
pub record IsReady (l : Lattice) (known : BlockId → Bool) (i q place : ℕ) (words : List (List ℕ)) (heads : List Heads) : Type 0 where
  pub are_open : AreOpen l known i q words heads
  pub pivots : ArePivots (places_of l) (word_in words) (head_in heads)
  pub free : IsFreeBelow (places_of l) (places_of l) (head_in heads)
  pub has : head_in heads (places_of l) place ≡ true

-- whether the place is that of a strand of the node
abbrev pub is_place_of : Lattice → ℕ → ℕ → Bool
is_place_of l node t =
    t == place_on l Horiz (strand_of l Horiz node)
    || (nat_le 2 l.alpha && t == place_on l Right (strand_of l Right node))
    || (nat_le 3 l.alpha && t == place_on l Left (strand_of l Left node))

-- The block is the parity of class q + 1 of node i, and its strand has the place.
pub record IsAt (l : Lattice) (i q place : ℕ) (b : BlockId) : Type 0 where
  pub block : HasBlock l b
  pub node : b.node ≡ i
  pub class : class_number b.class ≡ suc q
  pub strand : place ≡ place_at l b

-- The words are those of the ends.
pub record AreEndWords (l : Lattice) (known : BlockId → Bool) (words : List (List ℕ)) : Type 0 where
  pub rising : (r : ℕ) → RiseWithin 1 (get_or words r []) (suc l.n)
  pub ends : ℕ → BlockId
  pub are_ends : AreEnds l known (length words) (word_in words) ends
