-- A printed report is a report.
use Rattle.std.proofs.Common.{◌≡◌, ℕ, zero, suc, ◌+◌, ◌-◌, ◌*◌, ◌<◌, ◌≤◌, ◌^◌, List, [], ◌∷◌, ◌++◌, map, length, Bool, true, false, Option, inl, inr, refl, sym, ◌∙◌, ap, subst, arith}
use Rattle.std.specs.Prelude.{IfSome, not, filter, nat_le, count_by, All, ◌⊎◌}
use Rattle.std.proofs.lemmas.Bool.{cases_Bool, false≢true}
use Rattle.std.proofs.lemmas.List.{length-map}
use Rattle.std.proofs.lemmas.List.Elements.{All-nil, All-append, All-cons, All-weaker, All-filter}
use Rattle.std.proofs.lemmas.List.Sums.{count_by-le-length, length-filter}
use Rattle.aea_lattice.specs.declared.blocks.Class.{Class}
use Rattle.aea_lattice.specs.declared.blocks.Class.TheVariants.{Datum, Horiz, Right, Left}
use Rattle.aea_lattice.specs.declared.blocks.BlockId.{BlockId}
use Rattle.aea_lattice.specs.declared.grid.Lattice.{Lattice}
use Rattle.aea_lattice.specs.Blocks.{HasBlock, class_number, block_of, number_of, blocks_to, blocks_of, blocks_count}
use Rattle.aea_lattice.specs.Data.{IsBytes}
use Rattle.aea_lattice.specs.Equations.{is_in_codeword}
use Rattle.aea_lattice.specs.Facts.{BlocksAreInside}
use Rattle.aea_lattice.specs.LeastWord.{IsWord}
use Rattle.aea_lattice.specs.Lists.{has_node}
use Rattle.aea_lattice.specs.Strands.{nodes_to, prefix}
use Rattle.aea_lattice.proofs.Numbers.{length-blocks_of, one_to_three}
use Rattle.aea_lattice.proofs.Odd.{odd-none}
use Rattle.aea_lattice.proofs.Strands.{filter-snoc_true, filter-snoc_false}
use Rattle.aea_report.specs.declared.head.Head.{Head}
use Rattle.aea_report.specs.declared.line.Line.{Line}
use Rattle.aea_report.specs.declared.line.Line.TheVariants.{Peeled, Solved, Lost}
use Rattle.aea_report.specs.Format.{block_in}
use Rattle.aea_report.specs.Grammar.{IsHeadOf, RiseFrom, AreNodes, HasNodes, AreLinesFrom, AreLines}
use Rattle.aea_report.specs.Fits.{is_peeled, is_solved, is_lost}
use Rattle.aea_report.specs.Printed.{IsLineOf, IsPrinted}
use Rattle.aea_report.specs.Laws.{PrintedAreReports}
use Rattle.aea_report.proofs.PrintedFits.{lines-inside}

-- ---- the nodes of a lost block

-- one node more after lesser ones
rise-more : (l : Lattice) (i j : ℕ) (nodes : List ℕ) → RiseFrom l i nodes → All (λ k. k < j) nodes → i < j → j ≤ l.n → RiseFrom l i (nodes ++ j ∷ [])
rise-more l i j [] rise below less most = (less, most, tt)
rise-more l i j (k ∷ nodes) rise below less most = (rise.0, rise.1, rise-more l k j nodes rise.2 (λ m d lt. below (suc m) d (omega arith)) (below 0 0 (omega arith)) most)

nodes-below : (i : ℕ) → All (λ k. k < suc i) (nodes_to i)
nodes-below zero = All-nil (λ k. k < 1)
nodes-below (suc i) =
    All-append (λ k. k < suc (suc i)) (nodes_to i) (suc i ∷ [])
    (All-weaker (λ k. k < suc i) (λ k. k < suc (suc i)) (λ k lt. omega arith) (nodes_to i) (nodes-below i))
    (All-cons (λ k. k < suc (suc i)) (suc i) [] (omega arith) (All-nil (λ k. k < suc (suc i))))

-- nodes that pass a test rise
passing-rise : (l : Lattice) (p : ℕ → Bool) (i : ℕ) → i ≤ l.n → RiseFrom l 0 (filter p (nodes_to i))
passing-rise l p zero most = tt
passing-rise l p (suc i) most = elim (cases_Bool (p (suc i))) [
  | inl passes ↦
      rw (filter-snoc_true p (nodes_to i) (suc i) passes)
      (rise-more l 0 (suc i) (filter p (nodes_to i)) (passing-rise l p i (omega arith)) (All-filter p (λ k. k < suc i) (nodes_to i) (nodes-below i)) (omega arith) most)
  | inr fails ↦ rw (filter-snoc_false p (nodes_to i) (suc i) fails) (passing-rise l p i (omega arith))
]

-- the codeword of no nodes contains no block
empty-word : (l : Lattice) (i : ℕ) (c : Class) → is_in_codeword l (has_node []) (record { node = i; class = c }) ≡ false
empty-word l i Datum = refl
empty-word l i Horiz = odd-none (prefix l Horiz i)
empty-word l i Right = odd-none (prefix l Right i)
empty-word l i Left = odd-none (prefix l Left i)

some_nodes : (l : Lattice) (b : BlockId) (nodes : List ℕ) → is_in_codeword l (has_node nodes) b ≡ true → 0 < length nodes
some_nodes l b [] contains = absurd (false≢true (sym (empty-word l b.node b.class) ∙ contains))
some_nodes l b (k ∷ nodes) contains = omega arith

-- the listed nodes of a lost block are one or more, and rise
word-nodes : (l : Lattice) (known : BlockId → Bool) (b : BlockId) (nodes : List ℕ) → IsWord l known b nodes → AreNodes l nodes
word-nodes l known b nodes word = (
  some_nodes l b nodes word.chosen.1.contains,
  subst (RiseFrom l 0) (sym word.ordered) (passing-rise l (has_node nodes) l.n (omega arith)),
)

line-nodes : (l : Lattice) (known : BlockId → Bool) (line : Line) → IsLineOf l known line → HasNodes l line
line-nodes l known (Peeled b) fate = tt
line-nodes l known (Solved b) fate = tt
line-nodes l known (Lost b nodes) fate = word-nodes l known b nodes fate.1

-- ---- blocks in number order

-- blocks whose numbers rise, from this one on
abbrev RiseInNumber : Lattice → ℕ → List BlockId → Type 0
RiseInNumber l least [] = Unit {0}
RiseInNumber l least (b ∷ bs) = (least ≤ number_of l b) × RiseInNumber l (number_of l b + 1) bs

-- The blocks are at their numbers in lattices of so many classes: the first at number k, and so on up to number m.
abbrev StandAt : ℕ → ℕ → ℕ → List BlockId → Type 0
StandAt alpha k m [] = k ≡ m
StandAt alpha k m (b ∷ bs) = ((b.node - 1) * (1 + alpha) + class_number b.class ≡ k) × StandAt alpha (k + 1) m bs

passing-ordered : (l : Lattice) (p : BlockId → Bool) (k m least : ℕ) (bs : List BlockId) → least ≤ k → StandAt l.alpha k m bs → RiseInNumber l least (filter p bs)
passing-ordered l p k m least [] low stand = tt
passing-ordered l p k m least (b ∷ bs) low stand = elim (cases_Bool (p b)) [
  | inl passes ↦ rw passes (omega (arith, stand.0), passing-ordered l p (k + 1) m (number_of l b + 1) bs (omega (arith, stand.0)) stand.1)
  | inr fails ↦ rw fails (passing-ordered l p (k + 1) m least bs (omega arith) stand.1)
]

stand-append : (alpha k m n : ℕ) (xs ys : List BlockId) → StandAt alpha k m xs → StandAt alpha m n ys → StandAt alpha k n (xs ++ ys)
stand-append alpha k m n [] ys one two = subst (λ j. StandAt alpha j n ys) (sym one) two
stand-append alpha k m n (x ∷ xs) ys one two = (one.0, stand-append alpha (k + 1) m n xs ys one.1 two)

-- the blocks of a node, where there are so many classes
abbrev row_of : ℕ → ℕ → List BlockId
row_of alpha i = map (block_of i) (Datum ∷ filter (λ c. nat_le (class_number c) alpha) (Horiz ∷ Right ∷ Left ∷ []))

row-stands : (alpha i : ℕ) → (alpha ≡ 1) ⊎ ((alpha ≡ 2) ⊎ (alpha ≡ 3)) → StandAt alpha (i * (1 + alpha)) (suc i * (1 + alpha)) (row_of alpha (suc i))
row-stands alpha i (inl e) = subst (λ a. StandAt a (i * (1 + a)) (suc i * (1 + a)) (row_of a (suc i))) (sym e) (omega arith, (omega arith, omega arith))
row-stands alpha i (inr (inl e)) =
    subst (λ a. StandAt a (i * (1 + a)) (suc i * (1 + a)) (row_of a (suc i))) (sym e) (omega arith, (omega arith, (omega arith, omega arith)))
row-stands alpha i (inr (inr e)) =
    subst (λ a. StandAt a (i * (1 + a)) (suc i * (1 + a)) (row_of a (suc i))) (sym e) (omega arith, (omega arith, (omega arith, (omega arith, omega arith))))

-- each block of a lattice is at its number
blocks-stand : (l : Lattice) (i : ℕ) → StandAt l.alpha 0 (i * (1 + l.alpha)) (blocks_to l i)
blocks-stand l zero = omega arith
blocks-stand l (suc i) =
    stand-append l.alpha 0 (i * (1 + l.alpha)) (suc i * (1 + l.alpha)) (blocks_to l i) (row_of l.alpha (suc i)) (blocks-stand l i) (row-stands l.alpha i (one_to_three l))

-- lines whose blocks rise in number
ordered-lines : (l : Lattice) (least : ℕ) (lines : List Line) → RiseInNumber l least (map block_in lines)
    → All (λ line. HasBlock l (block_in line)) lines → All (HasNodes l) lines → AreLinesFrom l least lines
ordered-lines l least [] rise inside nodes = tt
ordered-lines l least (line ∷ lines) rise inside nodes = (
  record { block = inside 0 line (omega arith); later = rise.0; nodes = nodes 0 line (omega arith) },
  ordered-lines l (number_of l (block_in line) + 1) lines rise.1 (λ k d lt. inside (suc k) d (omega arith)) (λ k d lt. nodes (suc k) d (omega arith)),
)

printed-lines : BlocksAreInside → (l : Lattice) (known : BlockId → Bool) (lines : List Line) → map block_in lines ≡ filter (λ b. not (known b)) (blocks_of l)
    → All (IsLineOf l known) lines → AreLines l lines
printed-lines inside l known lines blocks each =
    ordered-lines l 0 lines
    (subst (RiseInNumber l 0) (sym blocks) (passing-ordered l (λ b. not (known b)) 0 (l.n * (1 + l.alpha)) 0 (blocks_of l) (omega arith) (blocks-stand l l.n)))
    (lines-inside inside l known lines blocks)
    (All-weaker (IsLineOf l known) (HasNodes l) (line-nodes l known) lines each)

-- ---- the head

-- a lattice has fewer than 2^32 blocks
few_blocks : (l : Lattice) → blocks_count l < 2 ^ 23
few_blocks l =
    let range = l.in_range in
    elim (one_to_three l) [
      | inl e ↦ rw e (omega arith)
      | inr more ↦ elim more [ inl e ↦ rw e (omega arith) | inr e ↦ rw e (omega arith) ]
    ]

few_lines : (l : Lattice) (p : BlockId → Bool) (lines : List Line) → map block_in lines ≡ filter p (blocks_of l) → length lines < 2 ^ 23
few_lines l p lines blocks =
    let long : length lines ≡ count_by p (blocks_of l) = sym (length-map lines block_in) ∙ ap length blocks ∙ length-filter p (blocks_of l) in
    omega (arith, count_by-le-length p (blocks_of l), length-blocks_of l, few_blocks l)

seal_valid : (seal given : Option (List ℕ)) → seal ≡ given → IfSome given (IsBytes 32) → IfSome seal (IsBytes 32)
seal_valid seal given e valid = subst (λ o. IfSome o (IsBytes 32)) (sym e) valid

printed-head : (l : Lattice) (known : BlockId → Bool) (seal : Option (List ℕ)) (h : Head) (lines : List Line) → IfSome seal (IsBytes 32) → IsPrinted l known seal h lines → IsHeadOf l h
printed-head l known seal h lines valid printed =
    let few = few_lines l (λ b. not (known b)) lines printed.blocks in
    let peeled = count_by-le-length is_peeled lines in
    let solved = count_by-le-length is_solved lines in
    let lost = count_by-le-length is_lost lines in
    let counted = printed.counted in
    let p = counted.peeled in let v = counted.solved in let o = counted.lost in let d = counted.damaged in
    record {
      alpha = printed.alpha;
      s = printed.s;
      p = printed.p;
      n = printed.n;
      seal = seal_valid h.seal seal printed.seal_is valid;
      damaged = omega arith;
      peeled = omega arith;
      solved = omega arith;
      lost = omega arith;
    }

-- what is printed is a report
pub printed-reports : BlocksAreInside → PrintedAreReports
printed-reports inside l known seal h lines valid printed = record {
  lattice = l;
  head = printed-head l known seal h lines valid printed;
  valid = printed-lines inside l known lines printed.blocks printed.each;
  spelling = refl;
}
