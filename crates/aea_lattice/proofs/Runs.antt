-- The nodes of a strand that no fence parts: from neighbours on a strand to those in prefixes.
use Rattle.std.proofs.Common.{◌≡◌, ◌≢◌, ℕ, suc, zero, ◌+◌, ◌-◌, ◌<◌, ◌≤◌, ◌⊎◌, inl, inr, refl, sym, ◌∙◌, ap, subst, arith, Bool, true, false, not, ◌==◌, [], ◌∷◌, ◌++◌, Option, Some, None}
use Rattle.std.proofs.Common.{eq-eqb}
use Rattle.std.proofs.lemmas.Bool.{cases_Bool, and_from, and_left, and_right, ne_eqb, cond-true, cond-false}
use Rattle.aea_lattice.specs.declared.blocks.Class.{Class}
use Rattle.aea_lattice.specs.declared.grid.Lattice.{Lattice}
use Rattle.aea_lattice.specs.Fences.{is_parted}
use Rattle.aea_lattice.specs.Strands.{strand_of, is_on, nodes_on, nodes_to, prefix, previous, next_to_last, IsNext}
use Rattle.aea_lattice.specs.Neighbours.{neighbour, IsNextNeighbour, joined_before, joined_after}
use Rattle.aea_lattice.specs.Ends.{last_of, last_open}
use Rattle.aea_lattice.proofs.Strands.{last_node, last_of-filter, next_to_last-snoc, filter-snoc_true, last_node-found, last_node-none, neighbour-last_node, IsJustBefore}
use Rattle.aea_lattice.proofs.Parted.{parted-above, parted-more}

-- a node is on its own strand
pub is_on-self : (l : Lattice) (c : Class) (i : ℕ) → is_on l c (strand_of l c i) i i ≡ true
is_on-self l c i =
    and_from (strand_of l c i == strand_of l c i) (not (is_parted l.fences i i))
    (eq-eqb (strand_of l c i) (strand_of l c i) refl)
    (ap not (parted-above l.fences i i (omega arith)))

-- a prefix ends in its node
pub prefix-suc : (l : Lattice) (c : Class) (m : ℕ) → prefix l c (suc m) ≡ nodes_on l c (strand_of l c (suc m)) (suc m) m ++ suc m ∷ []
prefix-suc l c m = filter-snoc_true (is_on l c (strand_of l c (suc m)) (suc m)) (nodes_to m) (suc m) (is_on-self l c (suc m))

-- the node just before m + 1 in its prefix is the last of the nodes 1 to m that are on its strand and that no
-- fence parts from it, if there is one
pub previous-suc : (l : Lattice) (c : Class) (m : ℕ) → previous l c (suc m) ≡ last_of (nodes_on l c (strand_of l c (suc m)) (suc m) m)
previous-suc l c m =
    ap next_to_last (prefix-suc l c m) ∙ next_to_last-snoc (nodes_on l c (strand_of l c (suc m)) (suc m) m) (suc m)

sub_one : (m : ℕ) → m ≡ suc m - 1
sub_one m = omega arith

-- the node just before i is the last of the nodes 1 to i - 1 that are on its strand and not parted from it
pub previous-last : (l : Lattice) (c : Class) (i : ℕ) → previous l c i ≡ last_node (is_on l c (strand_of l c i) i) (i - 1)
previous-last l c zero = refl
previous-last l c (suc m) =
    previous-suc l c m
    ∙ last_of-filter (is_on l c (strand_of l c (suc m)) (suc m)) m
    ∙ ap (last_node (is_on l c (strand_of l c (suc m)) (suc m))) (sub_one m)

-- ---- the last node of a strand, and the last that is not parted from i

lies : Lattice → Class → ℕ → ℕ → Bool
lies l c strand k = strand_of l c k == strand

join-step : (l : Lattice) (c : Class) (strand i m : ℕ)
    → last_node (is_on l c strand i) m ≡ joined_before l i (last_node (λ k. strand_of l c k == strand) m)
    → (on parted : Bool) → (strand_of l c (suc m) == strand) ≡ on → is_parted l.fences (suc m) i ≡ parted
    → last_node (is_on l c strand i) (suc m) ≡ joined_before l i (last_node (λ k. strand_of l c k == strand) (suc m))
join-step l c strand i m before false parted off ep = rw off before
join-step l c strand i m before true false on ep = rw on (rw ep refl)
join-step l c strand i m before true true on ep =
    rw on (rw ep (last_node-none (is_on l c strand i) m
    (λ k first le. and_right (strand_of l c k == strand) (not (is_parted l.fences k i))
    (ap not (parted-more l.fences k (suc m) i (omega arith) ep)))))

pub join-last : (l : Lattice) (c : Class) (strand i m : ℕ)
    → last_node (is_on l c strand i) m ≡ joined_before l i (last_node (λ k. strand_of l c k == strand) m)
join-last l c strand i zero = refl
join-last l c strand i (suc m) =
    join-step l c strand i m (join-last l c strand i m) (strand_of l c (suc m) == strand) (is_parted l.fences (suc m) i) refl refl

-- the node just before i in its prefix is its neighbour, if no fence parts the two, and else there is none
pub previous-neighbour : (l : Lattice) (c : Class) (i : ℕ) → previous l c i ≡ joined_before l i (neighbour l c i)
previous-neighbour l c i =
    previous-last l c i
    ∙ join-last l c (strand_of l c i) i (i - 1)
    ∙ ap (joined_before l i) (sym (neighbour-last_node l c i))

-- ---- the next node

-- where `joined_before` leaves node i before j, it was given i, and no fence parts i from j
pub joined_is : (l : Lattice) (j i : ℕ) (o : Option ℕ) → joined_before l j o ≡ Some i → (o ≡ Some i) × (is_parted l.fences i j ≡ false)
joined_is l j i None h = absurd (cc)
joined_is l j i (Some g) h = elim (cases_Bool (is_parted l.fences g j)) [
  | inl parted ↦
      let none : None ≡ Some i = sym (cond-true (is_parted l.fences g j) None (Some g) parted) ∙ h in
      absurd (cc)
  | inr joined ↦
      let found : Some g ≡ Some i = sym (cond-false (is_parted l.fences g j) None (Some g) joined) ∙ h in
      let same : g ≡ i = cc in
      (ap Some same, ap (λ k. is_parted l.fences k j) (sym same) ∙ joined)
]

next-found : (l : Lattice) (c : Class) (i : ℕ) (o : Option ℕ) → IsNextNeighbour l c i o → (j : ℕ) → joined_after l i o ≡ Some j
    → (j ≤ l.n) × (previous l c j ≡ Some i)
next-found l c i None is j found = absurd (cc)
next-found l c i (Some h) is j found = elim (cases_Bool (is_parted l.fences i h)) [
  | inl parted ↦
      let none : None ≡ Some j = sym (cond-true (is_parted l.fences i h) None (Some h) parted) ∙ found in
      absurd (cc)
  | inr joined ↦
      let some : Some h ≡ Some j = sym (cond-false (is_parted l.fences i h) None (Some h) joined) ∙ found in
      let same : h ≡ j = cc in
      let q = (is h).0 refl in
      subst (λ x. (x ≤ l.n) × (previous l c x ≡ Some i)) same
      (q.0, previous-neighbour l c h ∙ ap (joined_before l h) q.1 ∙ cond-false (is_parted l.fences i h) None (Some i) joined)
]

next-only : (l : Lattice) (c : Class) (i : ℕ) (o : Option ℕ) → IsNextNeighbour l c i o → (j : ℕ) → j ≤ l.n → previous l c j ≡ Some i
    → joined_after l i o ≡ Some j
next-only l c i o is j within before =
    let both = joined_is l j i (neighbour l c j) (sym (previous-neighbour l c j) ∙ before) in
    ap (joined_after l i) ((is j).1 (within, both.0)) ∙ cond-false (is_parted l.fences i j) None (Some j) both.1

-- the node that has i just before it in its prefix is the neighbour after i, if no fence parts the two; else
-- there is none
pub next-joined : (l : Lattice) (c : Class) (i : ℕ) (o : Option ℕ) → IsNextNeighbour l c i o → IsNext l c i (joined_after l i o)
next-joined l c i o is = λ j. (λ found. next-found l c i o is j found, λ q. next-only l c i o is j q.0 q.1)

-- ---- the last open node

-- the last open node of a strand is the strand's last node, if no fence is at it or after it;
-- else there is none
pub open-joined : (l : Lattice) (c : Class) (strand : ℕ) (o : Option ℕ) → last_node (λ k. strand_of l c k == strand) l.n ≡ o
    → last_open l c strand ≡ joined_before l (l.n + 1) o
open-joined l c strand o is =
    last_of-filter (is_on l c strand (l.n + 1)) l.n
    ∙ join-last l c strand (l.n + 1) l.n
    ∙ ap (joined_before l (l.n + 1)) is

-- ---- the node just before, by what is on the strand

pub previous-joined : (l : Lattice) (c : Class) (i g : ℕ) → IsJustBefore l c g i → is_parted l.fences g i ≡ false → previous l c i ≡ Some g
previous-joined l c i g just joined =
    previous-last l c i
    ∙ last_node-found (is_on l c (strand_of l c i) i) (i - 1) g just.first (let b = just.before in omega arith)
    (and_from (strand_of l c g == strand_of l c i) (not (is_parted l.fences g i))
    (eq-eqb (strand_of l c g) (strand_of l c i) just.same) (ap not joined))
    (λ k gt le. and_left (strand_of l c k == strand_of l c i) (not (is_parted l.fences k i))
    (ne_eqb (strand_of l c k) (strand_of l c i) (just.none_between k gt (let b = just.before in omega arith))))

-- the strand begins at i where each earlier node is parted from i or lies elsewhere
pub previous-begins : (l : Lattice) (c : Class) (i : ℕ)
    → ((k : ℕ) → 1 ≤ k → k < i → (strand_of l c k ≢ strand_of l c i) ⊎ (is_parted l.fences k i ≡ true)) → previous l c i ≡ None
previous-begins l c i none =
    previous-last l c i
    ∙ last_node-none (is_on l c (strand_of l c i) i) (i - 1)
    (λ k first le. elim (none k first (omega arith)) [
      | inl other ↦ and_left (strand_of l c k == strand_of l c i) (not (is_parted l.fences k i)) (ne_eqb (strand_of l c k) (strand_of l c i) other)
      | inr parted ↦ and_right (strand_of l c k == strand_of l c i) (not (is_parted l.fences k i)) (ap not parted)
    ])
