-- Tests that agree on the blocks of a lattice give one verdict.
use Rattle.std.proofs.Common.{◌≡◌, ℕ, ◌+◌, ◌-◌, ◌*◌, List, [], ◌∷◌, ◌++◌, get_or, Bool, true, false, cond, Some, refl, sym, ◌∙◌, ap, subst, arith}
use Rattle.std.specs.Prelude.{◌==◌, ◌&&◌, not, nat_le, nat_lt, find, option_map, All}
use Rattle.std.proofs.lemmas.Bool.{and_parts, eqb-true}
use Rattle.std.proofs.lemmas.List.Elements.{All-head, All-tail}
use Rattle.aea_lattice.specs.declared.blocks.BlockId.{BlockId}
use Rattle.aea_lattice.specs.declared.grid.Lattice.{Lattice}
use Rattle.aea_lattice.specs.Blocks.{HasBlock, blocks_of, blocks_count, number_of, class_number}
use Rattle.aea_lattice.specs.Equations.{is_in_codeword}
use Rattle.aea_lattice.specs.Lists.{has_node}
use Rattle.aea_lattice.proofs.Among.{blocks-inside}
use Rattle.aea_walk.specs.Codewords.{is_touched, touched}
use Rattle.aea_walk.specs.Missing.{is_missing, missing}
use Rattle.aea_report.specs.declared.head.Head.{Head}
use Rattle.aea_report.specs.declared.line.Line.{Line}
use Rattle.aea_report.specs.declared.line.Line.TheVariants.{Peeled, Solved, Lost}
use Rattle.aea_report.specs.Format.{block_in}
use Rattle.aea_report.specs.Grammar.{RiseFrom, HasNodes, IsLine, AreLinesFrom, AreLines, IsHeadOf}
use Rattle.aea_verify.specs.declared.verdict.Why.TheVariants.{OtherArchive, StillBad, NotDamaged, WordMisses, WordTouches, Missing, WrongCount}
use Rattle.aea_verify.specs.declared.verdict.Verdict.TheVariants.{Rejected}
use Rattle.aea_verify.specs.Rules.{unless, kind_rules, line_rules, at_line, rules_from, has_lattice, has_seal, has_counts, first_broken, verdict_by, verdict_of}
use Rattle.aea_verify.specs.Judged.{HasSameBlocks}

-- ---- tests that agree

find_agree : {X : Type 0} (p q : X → Bool) (xs : List X) → All (λ x. p x ≡ q x) xs → find p xs ≡ find q xs
find_agree p q [] same = refl
find_agree p q (x ∷ xs) same =
    ap (λ b. cond b (Some x) (find p xs)) (All-head (λ y. p y ≡ q y) x xs same)
    ∙ ap (cond (q x) (Some x)) (find_agree p q xs (All-tail (λ y. p y ≡ q y) x xs same))

module _ (l : Lattice) (i j : BlockId → Bool) (same : (b : BlockId) → HasBlock l b → i b ≡ j b) where
  missing_agree : (least next : ℕ) → missing l i least next ≡ missing l j least next
  missing_agree least next =
      find_agree (is_missing l i least next) (is_missing l j least next) (blocks_of l)
      (λ k d lt.
      let here = get_or (blocks_of l) k d in
      ap (λ b. not b && (nat_le least (number_of l here) && nat_lt (number_of l here) next)) (same here (blocks-inside l k d lt)))

  touched_agree : (nodes : List ℕ) → touched l i nodes ≡ touched l j nodes
  touched_agree nodes =
      find_agree (is_touched l i nodes) (is_touched l j nodes) (blocks_of l)
      (λ k d lt.
      let here = get_or (blocks_of l) k d in
      ap (λ b. b && is_in_codeword l (has_node nodes) here) (same here (blocks-inside l k d lt)))

  kind_agree : (line : Line) → HasBlock l (block_in line) → kind_rules l i line ≡ kind_rules l j line
  kind_agree (Peeled b) has = ap (λ x. unless x (StillBad b) ∷ []) (same b has)
  kind_agree (Solved b) has = ap (λ x. unless x (StillBad b) ∷ []) (same b has)
  kind_agree (Lost b nodes) has =
      ap (λ x. unless (not x) (NotDamaged b) ∷ unless (is_in_codeword l (has_node nodes) b) (WordMisses b) ∷ option_map WordTouches (touched l i nodes) ∷ []) (same b has)
      ∙ ap (λ o. unless (not (j b)) (NotDamaged b) ∷ unless (is_in_codeword l (has_node nodes) b) (WordMisses b) ∷ option_map WordTouches o ∷ []) (touched_agree nodes)

  line_agree : (least : ℕ) (line : Line) → HasBlock l (block_in line) → line_rules l i least line ≡ line_rules l j least line
  line_agree least line has =
      ap (λ o. option_map Missing o ∷ kind_rules l i line) (missing_agree least (number_of l (block_in line)))
      ∙ ap (λ kind. option_map Missing (missing l j least (number_of l (block_in line))) ∷ kind) (kind_agree line has)

  from_agree : (k least : ℕ) (lines : List Line) → AreLinesFrom l least lines → rules_from l i k least lines ≡ rules_from l j k least lines
  from_agree k least [] valid = ap (λ o. at_line k (option_map Missing o ∷ [])) (missing_agree least (blocks_count l))
  from_agree k least (line ∷ lines) valid =
      ap (λ here. at_line k here ++ rules_from l i (k + 1) (number_of l (block_in line) + 1) lines) (line_agree least line valid.0.block)
      ∙ ap (λ rest. at_line k (line_rules l j least line) ++ rest) (from_agree (k + 1) (number_of l (block_in line) + 1) lines valid.1)

  -- one verdict, where the lines are of blocks of the lattice
  pub verdict-agree : (seal : List ℕ) (h : Head) (lines : List Line) → AreLines l lines → verdict_of l seal i h lines ≡ verdict_of l seal j h lines
  verdict-agree seal h lines valid =
      ap (λ middle. verdict_by (first_broken (at_line 2 (unless (has_lattice l h) OtherArchive ∷ []) ++ (at_line 3 (unless (has_seal seal h.seal) OtherArchive ∷ []) ++ (middle ++ at_line 4 (unless (has_counts h lines) WrongCount ∷ []))))))
      (from_agree 5 0 lines valid)

-- ---- lattices with the same blocks

block_same : (l m : Lattice) → HasSameBlocks l m → (b : BlockId) → HasBlock m b → HasBlock l b
block_same l m same b has = record {
  first = has.first;
  last = (let most = has.last in let nodes = same.nodes in omega arith);
  used = (let used = has.used in let alpha = same.alpha in omega arith);
}

pub number-same : (l m : Lattice) → HasSameBlocks l m → (b : BlockId) → number_of m b ≡ number_of l b
number-same l m same b = ap (λ alpha. (b.node - 1) * (1 + alpha) + class_number b.class) same.alpha

rise_same : (l m : Lattice) → HasSameBlocks l m → (i : ℕ) (nodes : List ℕ) → RiseFrom m i nodes → RiseFrom l i nodes
rise_same l m same i [] rise = rise
rise_same l m same i (k ∷ nodes) rise = (rise.0, (let most = rise.1 in let n = same.nodes in omega arith), rise_same l m same k nodes rise.2)

nodes_same : (l m : Lattice) → HasSameBlocks l m → (line : Line) → HasNodes m line → HasNodes l line
nodes_same l m same (Peeled b) has = has
nodes_same l m same (Solved b) has = has
nodes_same l m same (Lost b nodes) has = (has.0, rise_same l m same 0 nodes has.1)

-- a line of the one lattice is one of the other
pub line-same : (l m : Lattice) → HasSameBlocks l m → (least : ℕ) (line : Line) → IsLine m least line → IsLine l least line
line-same l m same least line is = record {
  block = block_same l m same (block_in line) is.block;
  later = (let later = is.later in let number = number-same l m same (block_in line) in omega arith);
  nodes = nodes_same l m same line is.nodes;
}

lines_from : (l m : Lattice) → HasSameBlocks l m → (least : ℕ) (lines : List Line) → AreLinesFrom m least lines → AreLinesFrom l least lines
lines_from l m same least [] are = are
lines_from l m same least (line ∷ lines) are = (
  line-same l m same least line are.0,
  lines_from l m same (number_of l (block_in line) + 1) lines
      (subst (λ k. AreLinesFrom m (k + 1) lines) (number-same l m same (block_in line)) are.1),
)

pub lines-same : (l m : Lattice) → HasSameBlocks l m → (lines : List Line) → AreLines m lines → AreLines l lines
lines-same l m same lines are = lines_from l m same 0 lines are

-- ---- heads

-- the lattice of a head that fits has the same blocks
pub head-same : (l m : Lattice) (h : Head) → has_lattice l h ≡ true → IsHeadOf m h → HasSameBlocks l m
head-same l m h fits head =
    let one = and_parts (h.alpha == l.alpha) (h.s == l.s && (h.p == l.p && h.n == l.n)) fits in
    let two = and_parts (h.s == l.s) (h.p == l.p && h.n == l.n) one.1 in
    let three = and_parts (h.p == l.p) (h.n == l.n) two.1 in
    record {
      alpha = sym head.alpha ∙ eqb-true h.alpha l.alpha one.0;
      nodes = sym head.n ∙ eqb-true h.n l.n three.1;
    }

-- another lattice, or another seal
pub other-lattice : (l : Lattice) (seal : List ℕ) (intact : BlockId → Bool) (h : Head) (lines : List Line) → has_lattice l h ≡ false → verdict_of l seal intact h lines ≡ Rejected 2 OtherArchive
other-lattice l seal intact h lines other =
    ap (λ b. verdict_by (first_broken (at_line 2 (unless b OtherArchive ∷ []) ++ (at_line 3 (unless (has_seal seal h.seal) OtherArchive ∷ []) ++ (rules_from l intact 5 0 lines ++ at_line 4 (unless (has_counts h lines) WrongCount ∷ [])))))) other

pub other-seal : (l : Lattice) (seal : List ℕ) (intact : BlockId → Bool) (h : Head) (lines : List Line) → has_lattice l h ≡ true → has_seal seal h.seal ≡ false
    → verdict_of l seal intact h lines ≡ Rejected 3 OtherArchive
other-seal l seal intact h lines same other =
    ap (λ b. verdict_by (first_broken (at_line 2 (unless b OtherArchive ∷ []) ++ (at_line 3 (unless (has_seal seal h.seal) OtherArchive ∷ []) ++ (rules_from l intact 5 0 lines ++ at_line 4 (unless (has_counts h lines) WrongCount ∷ [])))))) same
    ∙ ap (λ b. verdict_by (first_broken (at_line 3 (unless b OtherArchive ∷ []) ++ (rules_from l intact 5 0 lines ++ at_line 4 (unless (has_counts h lines) WrongCount ∷ []))))) other
