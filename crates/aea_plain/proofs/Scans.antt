-- Scans of nodes, one after another.
use Rattle.std.proofs.Common.{◌≡◌, ℕ, suc, ◌+◌, ◌-◌, ◌<◌, ◌≤◌, Bool, true, false, not, ◌==◌, eq-eqb, inl, inr, List, [], ◌∷◌, ◌++◌, filter, length, get_or, take, Some, None, refl, sym, ◌∙◌, ap, subst, arith}
use Rattle.std.proofs.lemmas.List.{take_more}
use Rattle.aea_lattice.specs.declared.blocks.Class.{Class}
use Rattle.aea_lattice.specs.declared.grid.Lattice.{Lattice}
use Rattle.aea_lattice.specs.Fences.{is_parted}
use Rattle.aea_lattice.specs.Strands.{strand_of, is_on, nodes_to, previous, IsNext}
use Rattle.aea_lattice.specs.Neighbours.{neighbour}
use Rattle.aea_lattice.specs.Equations.{is_odd_count}
use Rattle.std.proofs.lemmas.Bool.{cases_Bool, and_from, false≢true}
use Rattle.aea_lattice.proofs.Parted.{parted-nearer}
use Rattle.aea_lattice.proofs.Strands.{filter-snoc_true, filter-snoc_false, last_node-found, IsLastNode-last_node, neighbour-unique}
use Rattle.aea_lattice.proofs.Runs.{previous-last, previous-neighbour, joined_is}
use Rattle.aea_lattice.proofs.Prefixes.{on_strand, previous-before}
use Rattle.aea_lattice.specs.Parity.{differ}
use Rattle.aea_lattice.proofs.Odd.{odd-snoc}

-- ---- the nodes 1 to k

last : (k : ℕ) → 1 ≤ k → suc (k - 1) ≡ k
last k first = omega arith

same : (k : ℕ) → 1 ≤ k → k + 1 - 1 ≡ suc (k - 1)
same k first = omega arith

-- of the nodes 1 to k those pass a test that do before k, and k, where k passes
pub filter-node_kept : (p : ℕ → Bool) (k : ℕ) → 1 ≤ k → p k ≡ true
    → filter p (nodes_to (k + 1 - 1)) ≡ filter p (nodes_to (k - 1)) ++ k ∷ []
filter-node_kept p k first passes =
    ap (λ n. filter p (nodes_to n)) (same k first)
    ∙ filter-snoc_true p (nodes_to (k - 1)) (suc (k - 1)) (ap p (last k first) ∙ passes)
    ∙ ap (λ n. filter p (nodes_to (k - 1)) ++ n ∷ []) (last k first)

-- of the nodes 1 to k those pass a test that do before k, where k fails
pub filter-node_dropped : (p : ℕ → Bool) (k : ℕ) → 1 ≤ k → p k ≡ false
    → filter p (nodes_to (k + 1 - 1)) ≡ filter p (nodes_to (k - 1))
filter-node_dropped p k first fails =
    ap (λ n. filter p (nodes_to n)) (same k first)
    ∙ filter-snoc_false p (nodes_to (k - 1)) (suc (k - 1)) (ap p (last k first) ∙ fails)

-- ---- odd counts

differ-true : (a : Bool) → differ a true ≡ not a
differ-true true = refl
differ-true false = refl

differ-false : (a : Bool) → differ a false ≡ a
differ-false true = refl
differ-false false = refl

pub odd-more_true : {A : Type 0} (f : A → Bool) (xs : List A) (x : A) → f x ≡ true → is_odd_count f (xs ++ x ∷ []) ≡ not (is_odd_count f xs)
odd-more_true f xs x yes' = odd-snoc f xs x ∙ ap (differ (is_odd_count f xs)) yes' ∙ differ-true (is_odd_count f xs)

pub odd-more_false : {A : Type 0} (f : A → Bool) (xs : List A) (x : A) → f x ≡ false → is_odd_count f (xs ++ x ∷ []) ≡ is_odd_count f xs
odd-more_false f xs x no' = odd-snoc f xs x ∙ ap (differ (is_odd_count f xs)) no' ∙ differ-false (is_odd_count f xs)

-- a node on the strand that is a member, one that is none, and a node on another strand
pub odd-node_member : (p f : ℕ → Bool) (k : ℕ) → 1 ≤ k → p k ≡ true → f k ≡ true
    → is_odd_count f (filter p (nodes_to (k + 1 - 1))) ≡ not (is_odd_count f (filter p (nodes_to (k - 1))))
odd-node_member p f k first on member =
    ap (is_odd_count f) (filter-node_kept p k first on) ∙ odd-more_true f (filter p (nodes_to (k - 1))) k member

-- one more node on the strand that is no member does not change whether the number of members on it is odd
pub odd-node_other : (p f : ℕ → Bool) (k : ℕ) → 1 ≤ k → p k ≡ true → f k ≡ false
    → is_odd_count f (filter p (nodes_to (k + 1 - 1))) ≡ is_odd_count f (filter p (nodes_to (k - 1)))
odd-node_other p f k first on other =
    ap (is_odd_count f) (filter-node_kept p k first on) ∙ odd-more_false f (filter p (nodes_to (k - 1))) k other

-- one more node that is not on the strand does not change whether the number of members on it is odd
pub odd-node_off : (p f : ℕ → Bool) (k : ℕ) → 1 ≤ k → p k ≡ false
    → is_odd_count f (filter p (nodes_to (k + 1 - 1))) ≡ is_odd_count f (filter p (nodes_to (k - 1)))
odd-node_off p f k first off = ap (is_odd_count f) (filter-node_dropped p k first off)

pub odd-take_true : {A : Type 0} (f : A → Bool) (xs : List A) (i : ℕ) (d : A) → i < length xs → f (get_or xs i d) ≡ true
    → is_odd_count f (take (i + 1) xs) ≡ not (is_odd_count f (take i xs))
odd-take_true f xs i d inside member =
    ap (is_odd_count f) (take_more xs i d inside) ∙ odd-more_true f (take i xs) (get_or xs i d) member

pub odd-take_false : {A : Type 0} (f : A → Bool) (xs : List A) (i : ℕ) (d : A) → i < length xs → f (get_or xs i d) ≡ false
    → is_odd_count f (take (i + 1) xs) ≡ is_odd_count f (take i xs)
odd-take_false f xs i d inside other =
    ap (is_odd_count f) (take_more xs i d inside) ∙ odd-more_false f (take i xs) (get_or xs i d) other

-- ---- the next node

-- the first node after i that has i on its strand has i just before it
pub next-found : (l : Lattice) (c : Class) (i k : ℕ) → 1 ≤ i → i < k → k ≤ l.n → is_on l c (strand_of l c k) k i ≡ true
    → ((j : ℕ) → i < j → j < k → is_on l c (strand_of l c j) j i ≡ false) → IsNext l c i (Some k)
next-found l c i k first after most on none =
    let here = on_strand l c (strand_of l c k) k i on in
    let p = is_on l c (strand_of l c k) k in
    let before : previous l c k ≡ Some i =
    previous-last l c k
    ∙ last_node-found p (k - 1) i first (omega arith) on
    (λ j gt le. elim (cases_Bool (p j)) [
      | inl yes' ↦
          let there = on_strand l c (strand_of l c k) k j yes' in
          absurd (false≢true (sym (none j gt (omega arith))
          ∙ and_from (strand_of l c i == strand_of l c j) (not (is_parted l.fences i j))
          (eq-eqb (strand_of l c i) (strand_of l c j) (here.0 ∙ sym there.0))
          (ap not (parted-nearer l.fences i j k (omega arith) here.1))))
      | inr no' ↦ no'
    ]) in
    λ j. (
      λ found. let is : k ≡ j = cc in (subst (λ n. n ≤ l.n) is most, subst (λ n. previous l c n ≡ Some i) is before),
      λ h. ap Some (neighbour-unique l c i k j (joined_is l k i (neighbour l c k) (sym (previous-neighbour l c k) ∙ before)).0
          (joined_is l j i (neighbour l c j) (sym (previous-neighbour l c j) ∙ h.1)).0),
    )

-- where each later node lies on another strand than i or a fence parts i from it, no node has i just before it
pub next-none : (l : Lattice) (c : Class) (i : ℕ)
    → ((j : ℕ) → i < j → j ≤ l.n → is_on l c (strand_of l c j) j i ≡ false) → IsNext l c i None
next-none l c i none =
    λ j. (
      λ found. absurd (cc),
      λ h. absurd (false≢true (sym (none j (previous-before l c j i h.1) h.0)
          ∙ (IsLastNode-last_node (is_on l c (strand_of l c j) j) (j - 1) i (sym (previous-last l c j) ∙ h.1)).passes)),
    )
