-- Codewords are the sets of blocks that meet every equation evenly.
use Rattle.std.proofs.Common.{◌≡◌, ℕ, zero, suc, ◌+◌, ◌%◌, ◌<◌, ◌≤◌, ◌↔◌, Bool, true, false, ◌==◌, cond, List, [], ◌∷◌, ◌++◌, Option, Some, None, refl, sym, ◌∙◌, ap, arith}
use Rattle.std.proofs.lemmas.Bool.{false≢true, true≢false}
use Rattle.aea_lattice.specs.declared.blocks.Class.{Class}
use Rattle.aea_lattice.specs.declared.blocks.Class.TheVariants.{Datum, Horiz, Right, Left}
use Rattle.aea_lattice.specs.declared.blocks.BlockId.{BlockId}
use Rattle.aea_lattice.specs.declared.blocks.EqId.{EqId}
use Rattle.aea_lattice.specs.declared.grid.Lattice.{Lattice}
use Rattle.aea_lattice.specs.Blocks.{class_number, block_of}
use Rattle.aea_lattice.specs.Strands.{prefix, previous}
use Rattle.aea_lattice.specs.Equations.{HasEquation, equation_of, input_blocks, is_odd_count, codeword_at}
use Rattle.aea_lattice.specs.Parity.{differ}
use Rattle.aea_lattice.specs.Facts.{IsCodewordOf, MeetsEvenly}
use Rattle.aea_lattice.proofs.Odd.{odd-snoc}
use Rattle.aea_lattice.proofs.Prefixes.{prefix-after, prefix-begin, previous-first, previous-before}

-- ---- codewords along a strand

odd-one : (b : Bool) → ((0 + cond b 1 0) % 2 == 1) ≡ b
odd-one true = refl
odd-one false = refl

-- the codeword of a set of nodes contains a parity exactly where an odd number of the set are in its prefix
pub codeword-parity : (l : Lattice) (nodes : ℕ → Bool) (i : ℕ) (c : Class) → 1 ≤ class_number c
    → codeword_at l nodes i c ≡ is_odd_count nodes (prefix l c i)
codeword-parity l nodes i Datum h = absurd (omega arith)
codeword-parity l nodes i Horiz h = refl
codeword-parity l nodes i Right h = refl
codeword-parity l nodes i Left h = refl

-- where g is just before i on a strand, the codeword of a set contains the parity of i exactly where it
-- contains that of g or i is in the set, but not both
pub codeword-after : (l : Lattice) (nodes : ℕ → Bool) (i g : ℕ) (c : Class) → 1 ≤ class_number c → previous l c i ≡ Some g
    → codeword_at l nodes i c ≡ differ (codeword_at l nodes g c) (nodes i)
codeword-after l nodes i g c parity was =
    codeword-parity l nodes i c parity
    ∙ ap (is_odd_count nodes) (prefix-after l c i g was)
    ∙ odd-snoc nodes (prefix l c g) i
    ∙ ap (λ b. differ b (nodes i)) (sym (codeword-parity l nodes g c parity))

-- where a strand begins at a node, the codeword of a set contains the node's parity exactly where the node is in
-- the set
pub codeword-begin : (l : Lattice) (nodes : ℕ → Bool) (i : ℕ) (c : Class) → 1 ≤ class_number c → 1 ≤ i → previous l c i ≡ None
    → codeword_at l nodes i c ≡ nodes i
codeword-begin l nodes i c parity some none =
    codeword-parity l nodes i c parity ∙ ap (is_odd_count nodes) (prefix-begin l c i some none) ∙ odd-one (nodes i)

-- ---- even sets of two and of three

abbrev is_odd2 : Bool → Bool → Bool
is_odd2 d o = (0 + cond d 1 0 + cond o 1 0) % 2 == 1

abbrev is_odd3 : Bool → Bool → Bool → Bool
is_odd3 i d o = (0 + cond i 1 0 + cond d 1 0 + cond o 1 0) % 2 == 1

odd2-even : (d o : Bool) → o ≡ d → is_odd2 d o ≡ false
odd2-even true true h = refl
odd2-even true false h = absurd (false≢true h)
odd2-even false true h = absurd (true≢false h)
odd2-even false false h = refl

even-odd2 : (d o : Bool) → is_odd2 d o ≡ false → o ≡ d
even-odd2 true true h = refl
even-odd2 true false h = absurd (true≢false h)
even-odd2 false true h = absurd (true≢false h)
even-odd2 false false h = refl

odd3-even : (i d o : Bool) → o ≡ differ i d → is_odd3 i d o ≡ false
odd3-even true true true h = absurd (true≢false h)
odd3-even true true false h = refl
odd3-even true false true h = refl
odd3-even true false false h = absurd (false≢true h)
odd3-even false true true h = refl
odd3-even false true false h = absurd (false≢true h)
odd3-even false false true h = absurd (true≢false h)
odd3-even false false false h = refl

even-odd3 : (i d o : Bool) → is_odd3 i d o ≡ false → o ≡ differ i d
even-odd3 true true true h = absurd (true≢false h)
even-odd3 true true false h = refl
even-odd3 true false true h = refl
even-odd3 true false false h = absurd (true≢false h)
even-odd3 false true true h = refl
even-odd3 false true false h = absurd (true≢false h)
even-odd3 false false true h = absurd (true≢false h)
even-odd3 false false false h = refl

-- the blocks of an equation with this input
abbrev blocks_with : Option ℕ → EqId → List BlockId
blocks_with g e = input_blocks g e.class ++ block_of e.node Datum ∷ block_of e.node e.class ∷ []

-- ---- a codeword is even

codeword-even_at : (l : Lattice) (nodes : ℕ → Bool) (set : BlockId → Bool) → IsCodewordOf l nodes set → (e : EqId) → HasEquation l e
    → (p : Option ℕ) → previous l e.class e.node ≡ p → is_odd_count set (blocks_with p e) ≡ false
codeword-even_at l nodes set is e has None was =
    odd2-even (set (block_of e.node Datum)) (set (block_of e.node e.class))
    (is (block_of e.node e.class) (record { first = has.node.first; last = has.node.last; used = has.class.used })
    ∙ codeword-begin l nodes e.node e.class has.class.parity has.node.first was
    ∙ sym (is (block_of e.node Datum) (record { first = has.node.first; last = has.node.last; used = omega arith })))
codeword-even_at l nodes set is e has (Some g) was =
    let before : g < e.node = previous-before l e.class e.node g was in
    let first : 1 ≤ g = previous-first l e.class e.node g was in
    odd3-even (set (block_of g e.class)) (set (block_of e.node Datum)) (set (block_of e.node e.class))
    (is (block_of e.node e.class) (record { first = has.node.first; last = has.node.last; used = has.class.used })
    ∙ codeword-after l nodes e.node g e.class has.class.parity was
    ∙ ap (λ b. differ b (nodes e.node))
    (sym (is (block_of g e.class) (record { first = first; last = omega (arith, has.node.last); used = has.class.used })))
    ∙ ap (differ (set (block_of g e.class)))
    (sym (is (block_of e.node Datum) (record { first = has.node.first; last = has.node.last; used = omega arith }))))

-- a set of blocks that is the codeword of some nodes meets every equation evenly
pub codeword-even : (l : Lattice) (nodes : ℕ → Bool) (set : BlockId → Bool) → IsCodewordOf l nodes set → MeetsEvenly l set
codeword-even l nodes set is e has = codeword-even_at l nodes set is e has (previous l e.class e.node) refl

-- ---- an even set is the codeword of its data nodes

abbrev pub data_of : (BlockId → Bool) → ℕ → Bool
data_of set i = set (block_of i Datum)

even-step : (l : Lattice) (set : BlockId → Bool) → MeetsEvenly l set → (i : ℕ) (c : Class)
    → ((g : ℕ) → g < i → 1 ≤ g → set (block_of g c) ≡ codeword_at l (data_of set) g c)
    → 1 ≤ i → i ≤ l.n → 1 ≤ class_number c → class_number c ≤ l.alpha
    → (p : Option ℕ) → previous l c i ≡ p → set (block_of i c) ≡ codeword_at l (data_of set) i c
even-step l set even i c before first last parity used None was =
    let has : HasEquation l (equation_of i c) = record { node = record { first = first; last = last }; class = record { parity = parity; used = used } } in
    even-odd2 (set (block_of i Datum)) (set (block_of i c))
    (ap (λ p. is_odd_count set (blocks_with p (equation_of i c))) (sym was) ∙ even (equation_of i c) has)
    ∙ sym (codeword-begin l (data_of set) i c parity first was)
even-step l set even i c before first last parity used (Some g) was =
    let has : HasEquation l (equation_of i c) = record { node = record { first = first; last = last }; class = record { parity = parity; used = used } } in
    even-odd3 (set (block_of g c)) (set (block_of i Datum)) (set (block_of i c))
    (ap (λ p. is_odd_count set (blocks_with p (equation_of i c))) (sym was) ∙ even (equation_of i c) has)
    ∙ ap (λ b. differ b (set (block_of i Datum))) (before g (previous-before l c i g was) (previous-first l c i g was))
    ∙ sym (codeword-after l (data_of set) i g c parity was)

even-parity : (l : Lattice) (set : BlockId → Bool) → MeetsEvenly l set → (m i : ℕ) (c : Class) → i ≤ m → 1 ≤ i → i ≤ l.n
    → 1 ≤ class_number c → class_number c ≤ l.alpha → set (block_of i c) ≡ codeword_at l (data_of set) i c
even-parity l set even zero i c most first last parity used = absurd (omega arith)
even-parity l set even (suc m) i c most first last parity used =
    even-step l set even i c
    (λ g less some. even-parity l set even m g c (omega arith) some (omega arith) parity used)
    first last parity used (previous l c i) refl

even-class : (l : Lattice) (set : BlockId → Bool) → MeetsEvenly l set → (i : ℕ) (c : Class) → 1 ≤ i → i ≤ l.n → class_number c ≤ l.alpha
    → set (block_of i c) ≡ codeword_at l (data_of set) i c
even-class l set even i Datum first last used = refl
even-class l set even i Horiz first last used = even-parity l set even i i Horiz (omega arith) first last (omega arith) used
even-class l set even i Right first last used = even-parity l set even i i Right (omega arith) first last (omega arith) used
even-class l set even i Left first last used = even-parity l set even i i Left (omega arith) first last (omega arith) used

-- a set of blocks that meets every equation evenly is the codeword of the nodes whose datum it contains
pub even-codeword : (l : Lattice) (set : BlockId → Bool) → MeetsEvenly l set → IsCodewordOf l (λ i. set (block_of i Datum)) set
even-codeword l set even b inside = even-class l set even b.node b.class inside.first inside.last inside.used

-- a set of blocks is the codeword of some nodes exactly where it meets every equation evenly; it is then that
-- of the nodes whose datum it contains
pub codewords-even : (l : Lattice) (set : BlockId → Bool)
    → (((nodes : ℕ → Bool) × IsCodewordOf l nodes set) ↔ MeetsEvenly l set)
    × (MeetsEvenly l set → IsCodewordOf l (λ i. set (block_of i Datum)) set)
codewords-even l set =
    ((λ some. codeword-even l some.0 set some.1, λ even. (data_of set, even-codeword l set even)), even-codeword l set)
