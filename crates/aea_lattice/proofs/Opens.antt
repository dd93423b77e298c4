-- The open nodes of strands, and lattices that grow.
use Rattle.std.proofs.Common.{◌≡◌, ◌≢◌, ℕ, suc, zero, ◌+◌, ◌-◌, ◌%◌, ◌<◌, ◌≤◌, Bool, false, not, ◌&&◌, ◌==◌, [], ◌∷◌, ◌++◌, filter, refl, sym, ◌∙◌, ap, arith, eq-eqb}
use Rattle.std.proofs.lemmas.Bool.{and_from, and_left, and_right, ne_eqb}
use Rattle.aea_lattice.specs.declared.blocks.Class.{Class}
use Rattle.aea_lattice.specs.declared.blocks.Class.TheVariants.{Datum, Horiz, Right, Left}
use Rattle.aea_lattice.specs.declared.grid.Lattice.{Lattice}
use Rattle.aea_lattice.specs.Fences.{is_parted, last_fence}
use Rattle.aea_lattice.specs.Strands.{strand_of, is_on, nodes_to, prefix, previous}
use Rattle.aea_lattice.specs.Ends.{open_nodes, last_of}
use Rattle.aea_lattice.specs.Facts.{LastsEnter}
use Rattle.aea_lattice.specs.Growth.{SameShape, IsGrown, Continues}
use Rattle.aea_lattice.proofs.Strands.{filter-snoc_true, filter-snoc_false}
use Rattle.aea_lattice.proofs.Parted.{parted-above, parted-less, parted-past, parted-later, parted-last, parted-open}
use Rattle.aea_lattice.proofs.Runs.{previous-suc}
use Rattle.aea_lattice.proofs.Prefixes.{filter-same}

-- lattices of one shape have the same strands
pub strand-same : (l m : Lattice) → SameShape l m → (c : Class) (i : ℕ) → strand_of m c i ≡ strand_of l c i
strand-same l m same Datum i = refl
strand-same l m same Horiz i = ap (λ s. (i - 1) % s) same.s
strand-same l m same Right i = let s = same.s in let p = same.p in cc
strand-same l m same Left i = let s = same.s in let p = same.p in cc

-- ---- a lattice that continues another

-- where m continues l, and i is at most l's last node, the same nodes lie on the strand of i
-- and are not parted from i in m as in l
pub on-continued : (l m : Lattice) → Continues l m → (c : Class) (i k : ℕ) → i ≤ l.n
    → is_on m c (strand_of m c i) i k ≡ is_on l c (strand_of l c i) i k
on-continued l m more c i k le =
    ap (λ s. strand_of m c k == s && not (is_parted m.fences k i)) (strand-same l m more.shape c i)
    ∙ ap (λ s. s == strand_of l c i && not (is_parted m.fences k i)) (strand-same l m more.shape c k)
    ∙ ap (λ fs. strand_of l c k == strand_of l c i && not (is_parted fs k i)) more.fences
    ∙ ap (λ b. strand_of l c k == strand_of l c i && not b) (parted-later l.fences more.later l.n k i more.beyond le)

-- ---- one node more

module _ (l m : Lattice) (grown : IsGrown l (l.n + 1) m) (c : Class) where
  pub on-grown : (strand k : ℕ) → is_on m c strand (m.n + 1) k ≡ is_on l c strand (l.n + 1) k
  on-grown strand k =
      let next : l.n + 1 ≡ suc l.n = omega arith in
      ap (λ s. s == strand && not (is_parted m.fences k (m.n + 1))) (strand-same l m grown.shape c k)
      ∙ ap (λ fs. strand_of l c k == strand && not (is_parted fs k (m.n + 1))) grown.fences
      ∙ ap (λ b. strand_of l c k == strand && not b)
      (parted-past l.n l.fences k (m.n + 1) l.fenced (let nodes = grown.nodes in omega arith)
      ∙ sym (ap (is_parted l.fences k) next))

  open-more : (strand : ℕ) → open_nodes m c strand ≡ filter (is_on l c strand (l.n + 1)) (nodes_to (suc l.n))
  open-more strand =
      let nodes : m.n ≡ suc l.n = (let n = grown.nodes in omega arith) in
      ap (λ n. filter (is_on m c strand (m.n + 1)) (nodes_to n)) nodes
      ∙ filter-same (is_on m c strand (m.n + 1)) (is_on l c strand (l.n + 1)) (suc l.n) (λ k le. on-grown strand k)

  -- the strand of the new node has the open nodes that it had, and the new node after them
  pub open-own : open_nodes m c (strand_of m c m.n) ≡ open_nodes l c (strand_of m c m.n) ++ suc l.n ∷ []
  open-own =
      let strand = strand_of m c m.n in
      let here : strand_of l c (suc l.n) ≡ strand = (let n = grown.nodes in let same : suc l.n ≡ m.n = omega arith in sym (strand-same l m grown.shape c (suc l.n)) ∙ ap (strand_of m c) same) in
      open-more strand
      ∙ filter-snoc_true (is_on l c strand (l.n + 1)) (nodes_to l.n) (suc l.n)
      (and_from (strand_of l c (suc l.n) == strand) (not (is_parted l.fences (suc l.n) (l.n + 1)))
      (eq-eqb (strand_of l c (suc l.n)) strand here)
      (ap not (parted-above l.fences (suc l.n) (l.n + 1) (omega arith))))

  -- each other strand has the open nodes that it had
  pub open-other : (strand : ℕ) → strand ≢ strand_of m c m.n → open_nodes m c strand ≡ open_nodes l c strand
  open-other strand other =
      let here : strand_of l c (suc l.n) ≡ strand_of m c m.n = (let n = grown.nodes in let same : suc l.n ≡ m.n = omega arith in sym (strand-same l m grown.shape c (suc l.n)) ∙ ap (strand_of m c) same) in
      open-more strand
      ∙ filter-snoc_false (is_on l c strand (l.n + 1)) (nodes_to l.n) (suc l.n)
      (and_left (strand_of l c (suc l.n) == strand) (not (is_parted l.fences (suc l.n) (l.n + 1)))
      (ne_eqb (strand_of l c (suc l.n)) strand (λ e. other (sym e ∙ here))))

-- ---- the ends

filter-none : (p : ℕ → Bool) (m : ℕ) → ((k : ℕ) → 1 ≤ k → k ≤ m → p k ≡ false) → filter p (nodes_to m) ≡ []
filter-none p zero none = refl
filter-none p (suc m) none =
    filter-snoc_false p (nodes_to m) (suc m) (none (suc m) (omega arith) (omega arith))
    ∙ filter-none p m (λ k first le. none k first (omega arith))

-- where a fence is at the last node, or there is no node, no strand has open nodes
pub open-anew : (l : Lattice) (c : Class) (strand : ℕ) → last_fence l.fences ≡ l.n → open_nodes l c strand ≡ []
open-anew l c strand at =
    filter-none (is_on l c strand (l.n + 1)) l.n
    (λ k first le. and_right (strand_of l c k == strand) (not (is_parted l.fences k (l.n + 1)))
    (ap not (parted-last l.fences k (l.n + 1) first (omega arith) (omega arith))))

-- where no fence is at the last node, the open nodes of its strand are its prefix
pub open-last : (l : Lattice) (c : Class) → last_fence l.fences < l.n → open_nodes l c (strand_of l c l.n) ≡ prefix l c l.n
open-last l c after =
    filter-same (is_on l c (strand_of l c l.n) (l.n + 1)) (is_on l c (strand_of l c l.n) l.n) l.n
    (λ k le. ap (λ b. strand_of l c k == strand_of l c l.n && not b)
    (parted-less l.fences k l.n (l.n + 1) le (omega arith) (parted-open l.n l.fences (l.n + 1) l.fenced after)))

-- ---- the node just before the first new one

-- the node just before the first one added to a lattice is the last open node of its strand, if there is one
pub lasts-enter : LastsEnter
lasts-enter l m n grown c =
    let next : l.n + 1 ≡ suc l.n = omega arith in
    let strand : strand_of m c (suc l.n) ≡ strand_of l c (l.n + 1) = strand-same l m grown.shape c (suc l.n) ∙ ap (strand_of l c) (sym next) in
    ap (previous m c) next
    ∙ previous-suc m c l.n
    ∙ ap last_of
    (filter-same (is_on m c (strand_of m c (suc l.n)) (suc l.n)) (is_on l c (strand_of l c (l.n + 1)) (l.n + 1)) l.n
    (λ k le.
    ap (λ s. s == strand_of m c (suc l.n) && not (is_parted m.fences k (suc l.n))) (strand-same l m grown.shape c k)
    ∙ ap (λ s. strand_of l c k == s && not (is_parted m.fences k (suc l.n))) strand
    ∙ ap (λ fs. strand_of l c k == strand_of l c (l.n + 1) && not (is_parted fs k (suc l.n))) grown.fences
    ∙ ap (λ i. strand_of l c k == strand_of l c (l.n + 1) && not (is_parted l.fences k i)) (sym next)))
