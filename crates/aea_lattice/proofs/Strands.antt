-- The node just before a node on its strand, with no regard to fences: the last of the earlier nodes that lie on it.
use Rattle.std.proofs.Common.{◌≡◌, ◌≢◌, ℕ, suc, zero, ◌-◌, ◌<◌, ◌≤◌, ◌⊎◌, inl, inr, refl, sym, ◌∙◌, ap, arith, Bool, true, false, cond, List, [], ◌∷◌, ◌++◌, filter, Option, Some, None}
use Rattle.std.proofs.Common.{eq-eqb}
use Rattle.std.specs.Prelude.{◌==◌}
use Rattle.std.proofs.lemmas.List.Elements.{filter-append}
use Rattle.std.proofs.lemmas.List.{append-nil}
use Rattle.std.proofs.lemmas.Nat.{mod_below}
use Rattle.std.proofs.lemmas.Bool.{cases_lt}
use Rattle.std.proofs.lemmas.Bool.Decides.{nat_tests}
use Rattle.aea_lattice.specs.declared.blocks.Class.{Class}
use Rattle.aea_lattice.specs.declared.grid.Lattice.{Lattice}
use Rattle.aea_lattice.specs.Strands.{column, row, strand_of, nodes_to, next_to_last}
use Rattle.aea_lattice.specs.Neighbours.{same_strand, neighbour}
use Rattle.aea_lattice.specs.Ends.{last_of}
use Rattle.aea_lattice.proofs.Neighbours.{node_at, node_at-coordinates, strand_at, strand_of-node_at, strand_of-coordinates, NoneBetween, NoneBefore, some_rows}

-- the last of the nodes 1 to m that passes the test
abbrev pub last_node : (ℕ → Bool) → ℕ → Option ℕ
last_node p zero = None
last_node p (suc i) = cond (p (suc i)) (Some (suc i)) (last_node p i)

-- the last item of a list with one more at its end is that one
pub last_of-snoc : (xs : List ℕ) (x : ℕ) → last_of (xs ++ x ∷ []) ≡ Some x
last_of-snoc [] x = refl
last_of-snoc (y ∷ []) x = refl
last_of-snoc (y ∷ z ∷ zs) x = last_of-snoc (z ∷ zs) x

-- just before the last item of a list with one more at its end is the list's own last item, if it has one
pub next_to_last-snoc : (xs : List ℕ) (x : ℕ) → next_to_last (xs ++ x ∷ []) ≡ last_of xs
next_to_last-snoc [] x = refl
next_to_last-snoc (y ∷ []) x = refl
next_to_last-snoc (y ∷ z ∷ []) x = refl
next_to_last-snoc (y ∷ z ∷ w ∷ ws) x = next_to_last-snoc (z ∷ w ∷ ws) x

-- an item that passes a test, added at the end of a list, is added at the end of those that pass it
pub filter-snoc_true : (p : ℕ → Bool) (xs : List ℕ) (x : ℕ) → p x ≡ true → filter p (xs ++ x ∷ []) ≡ filter p xs ++ x ∷ []
filter-snoc_true p xs x e = filter-append p xs (x ∷ []) ∙ (rw e)

-- an item that fails a test, added at the end of a list, adds nothing to those that pass it
pub filter-snoc_false : (p : ℕ → Bool) (xs : List ℕ) (x : ℕ) → p x ≡ false → filter p (xs ++ x ∷ []) ≡ filter p xs
filter-snoc_false p xs x e = filter-append p xs (x ∷ []) ∙ (rw e (append-nil (filter p xs)))

last_node-step : (p : ℕ → Bool) (m : ℕ) → last_of (filter p (nodes_to m)) ≡ last_node p m → (b : Bool) → p (suc m) ≡ b → last_of (filter p (nodes_to (suc m))) ≡ last_node p (suc m)
last_node-step p m same true e =
    ap last_of (filter-snoc_true p (nodes_to m) (suc m) e) ∙ last_of-snoc (filter p (nodes_to m)) (suc m) ∙ (rw e)
last_node-step p m same false e =
    ap last_of (filter-snoc_false p (nodes_to m) (suc m) e) ∙ same ∙ (rw e)

-- the last node that passes a test is the last item of those that pass it
pub last_of-filter : (p : ℕ → Bool) (m : ℕ) → last_of (filter p (nodes_to m)) ≡ last_node p m
last_of-filter p zero = refl
last_of-filter p (suc m) = last_node-step p m (last_of-filter p m) (p (suc m)) refl

pub same_strand-refl : (l : Lattice) (c : Class) (i : ℕ) → same_strand l c i i ≡ true
same_strand-refl l c i = eq-eqb (strand_of l c i) (strand_of l c i) refl

-- the nodes up to one on its strand end in it
strand-suc : (l : Lattice) (c : Class) (m : ℕ) → filter (same_strand l c (suc m)) (nodes_to (suc m)) ≡ filter (same_strand l c (suc m)) (nodes_to m) ++ suc m ∷ []
strand-suc l c m = filter-snoc_true (same_strand l c (suc m)) (nodes_to m) (suc m) (same_strand-refl l c (suc m))

sub_one : (m : ℕ) → m ≡ suc m - 1
sub_one m = omega arith

-- the node just before i is the last of the nodes 1 to i - 1 that lie on its strand
pub neighbour-last_node : (l : Lattice) (c : Class) (i : ℕ) → neighbour l c i ≡ last_node (same_strand l c i) (i - 1)
neighbour-last_node l c zero = refl
neighbour-last_node l c (suc m) =
    ap next_to_last (strand-suc l c m)
    ∙ next_to_last-snoc (filter (same_strand l c (suc m)) (nodes_to m)) (suc m)
    ∙ last_of-filter (same_strand l c (suc m)) m
    ∙ ap (last_node (same_strand l c (suc m))) (sub_one m)

found-step : (p : ℕ → Bool) (m g : ℕ) → g ≤ suc m → p g ≡ true → ((k : ℕ) → g < k → k ≤ suc m → p k ≡ false) → (g ≤ m → last_node p m ≡ Some g) → (g ≡ suc m) ⊎ (g ≤ m) → last_node p (suc m) ≡ Some g
found-step p m g most passes none before (inl e) = let h : p (suc m) ≡ true = rw (← e) passes in rw h (rw e)
found-step p m g most passes none before (inr le) = let h : p (suc m) ≡ false = none (suc m) (omega arith) (omega arith) in rw h (before le)

at_or_below : (g m : ℕ) → g ≤ suc m → (g ≡ suc m) ⊎ (g ≤ m)
at_or_below g m le = elim (cases_lt m g) [ inl h ↦ inl (omega arith) | inr h ↦ inr h ]

-- a node from 1 to m that passes a test, where none after it up to m does, is the last one that passes it
pub last_node-found : (p : ℕ → Bool) (m g : ℕ) → 1 ≤ g → g ≤ m → p g ≡ true → ((k : ℕ) → g < k → k ≤ m → p k ≡ false) → last_node p m ≡ Some g
last_node-found p zero g first most passes none = absurd (omega arith)
last_node-found p (suc m) g first most passes none =
    found-step p m g most passes none
    (λ le. last_node-found p m g first le passes (λ k gt below. none k gt (omega arith)))
    (at_or_below g m most)

-- where none of the nodes 1 to m passes a test, there is no last one that passes it
pub last_node-none : (p : ℕ → Bool) (m : ℕ) → ((k : ℕ) → 1 ≤ k → k ≤ m → p k ≡ false) → last_node p m ≡ None
last_node-none p zero none = refl
last_node-none p (suc m) none =
    let h : p (suc m) ≡ false = none (suc m) (omega arith) (omega arith) in
    rw h (last_node-none p m (λ k first below. none k first (omega arith)))

-- what it means that a node is the last of those 1 to m that pass the test
pub record IsLastNode (p : ℕ → Bool) (m g : ℕ) : Type 0 where
  pub first : 1 ≤ g
  pub most : g ≤ m
  pub passes : p g ≡ true
  pub none : (k : ℕ) → g < k → k ≤ m → p k ≡ false

wider : (p : ℕ → Bool) (m g : ℕ) → p (suc m) ≡ false → IsLastNode p m g → IsLastNode p (suc m) g
wider p m g fails last = record {
  first = last.first;
  most = omega arith;
  passes = last.passes;
  none = λ k gt le. elim (at_or_below k m le) [ inl e ↦ rw e fails | inr below ↦ last.none k gt below ];
}

here : (p : ℕ → Bool) (m g : ℕ) → p (suc m) ≡ true → suc m ≡ g → IsLastNode p (suc m) g
here p m g passes e = record {
  first = omega arith;
  most = omega arith;
  passes = rw (← e) passes;
  none = λ k gt le. absurd (omega arith);
}

is_last-step : (p : ℕ → Bool) (m g : ℕ) → (last_node p m ≡ Some g → IsLastNode p m g) → (b : Bool) → p (suc m) ≡ b → last_node p (suc m) ≡ Some g → IsLastNode p (suc m) g
is_last-step p m g before true e found =
    let h : Some (suc m) ≡ Some g = rw e at found in
    let same : suc m ≡ g = cc in
    here p m g e same
is_last-step p m g before false e found = wider p m g e (before (rw e at found))

-- the node found as the last of those 1 to m that pass a test passes it, and none after it up to m does
pub IsLastNode-last_node : (p : ℕ → Bool) (m g : ℕ) → last_node p m ≡ Some g → IsLastNode p m g
IsLastNode-last_node p zero g found = let h : None ≡ Some g = found in cc
IsLastNode-last_node p (suc m) g found = is_last-step p m g (IsLastNode-last_node p m g) (p (suc m)) refl found

-- what it means that a node is just before another on the strand
pub record IsJustBefore (l : Lattice) (c : Class) (g i : ℕ) : Type 0 where
  pub first : 1 ≤ g
  pub before : g < i
  pub same : strand_of l c g ≡ strand_of l c i
  pub none_between : (k : ℕ) → g < k → k < i → strand_of l c k ≢ strand_of l c i

is_same : (a b : ℕ) → (a == b) ≡ true → a ≡ b
is_same a b e = grind (arith, nat_tests)

pub IsJustBefore-neighbour : (l : Lattice) (c : Class) (i g : ℕ) → neighbour l c i ≡ Some g → IsJustBefore l c g i
IsJustBefore-neighbour l c i g found =
    let last : IsLastNode (same_strand l c i) (i - 1) g = IsLastNode-last_node (same_strand l c i) (i - 1) g (sym (neighbour-last_node l c i) ∙ found) in
    record {
      first = last.first;
      before = let a = last.first in let b = last.most in omega arith;
      same = is_same (strand_of l c g) (strand_of l c i) last.passes;
      none_between = λ k gt lt same. let no = last.none k gt (omega arith) in let yes' = eq-eqb (strand_of l c k) (strand_of l c i) same in cc;
    }

not_same : (a b : ℕ) → (a ≡ b → ⊥) → (a == b) ≡ false
not_same a b differ = grind (arith, nat_tests)

pub neighbour-IsJustBefore : (l : Lattice) (c : Class) (i g : ℕ) → IsJustBefore l c g i → neighbour l c i ≡ Some g
neighbour-IsJustBefore l c i g just =
    neighbour-last_node l c i
    ∙ last_node-found (same_strand l c i) (i - 1) g just.first (let b = just.before in omega arith)
    (eq-eqb (strand_of l c g) (strand_of l c i) just.same)
    (λ k gt le. not_same (strand_of l c k) (strand_of l c i) (just.none_between k gt (let b = just.before in omega arith)))

pub neighbour-none_before : (l : Lattice) (c : Class) (i : ℕ) → ((k : ℕ) → 1 ≤ k → k < i → strand_of l c k ≢ strand_of l c i) → neighbour l c i ≡ None
neighbour-none_before l c i none =
    neighbour-last_node l c i
    ∙ last_node-none (same_strand l c i) (i - 1)
    (λ k first le. not_same (strand_of l c k) (strand_of l c i) (none k first (omega arith)))

-- two nodes that have the same node just before them are one
pub neighbour-unique : (l : Lattice) (c : Class) (i j k : ℕ) → neighbour l c j ≡ Some i → neighbour l c k ≡ Some i → j ≡ k
neighbour-unique l c i j k ej ek =
    let a = IsJustBefore-neighbour l c j i ej in
    let b = IsJustBefore-neighbour l c k i ek in
    let af = a.before in let bf = b.before in
    elim (cases_lt j k) [
      | inl lt ↦ absurd (b.none_between j a.before lt (sym a.same ∙ b.same))
      | inr ge ↦ elim (cases_lt k j) [
        | inl lt ↦ absurd (a.none_between k b.before lt (sym b.same ∙ a.same))
        | inr le ↦ omega arith
      ]
    ]

-- where the place of g lies on the strand of the place of a later node i, and no place of that strand lies
-- between them, g is the neighbour before i
pub neighbour-node_at : (l : Lattice) (c : Class) (i g a r b t : ℕ) → i ≡ node_at l.s b t → g ≡ node_at l.s a r → r < l.s → t < l.s → g < i → strand_at c l.p a r ≡ strand_at c l.p b t → NoneBetween c l.s l.p a r b t → neighbour l c i ≡ Some g
neighbour-node_at l c i g a r b t ei eg hr ht lt same none =
    let si : strand_of l c i ≡ strand_at c l.p b t = ap (strand_of l c) ei ∙ strand_of-node_at l c b t ht in
    let sg : strand_of l c g ≡ strand_at c l.p a r = ap (strand_of l c) eg ∙ strand_of-node_at l c a r hr in
    neighbour-IsJustBefore l c i g (record {
      first = omega arith;
      before = lt;
      same = sg ∙ same ∙ sym si;
      none_between = λ k gt below same_k.
          let place : node_at l.s (column l k) (row l k) ≡ k = node_at-coordinates l.s k (omega arith) in
          none (column l k) (row l k) (mod_below (k - 1) l.s (some_rows l)) (omega arith) (omega arith)
          (sym (strand_of-coordinates l c k) ∙ same_k ∙ si);
    })

-- where no place of its strand lies before a node's place, there is no neighbour before the node
pub neighbour-none : (l : Lattice) (c : Class) (i b t : ℕ) → i ≡ node_at l.s b t → t < l.s → NoneBefore c l.s l.p b t → neighbour l c i ≡ None
neighbour-none l c i b t ei ht none =
    let si : strand_of l c i ≡ strand_at c l.p b t = ap (strand_of l c) ei ∙ strand_of-node_at l c b t ht in
    neighbour-none_before l c i
    (λ k first below same_k.
    let place : node_at l.s (column l k) (row l k) ≡ k = node_at-coordinates l.s k first in
    none (column l k) (row l k) (mod_below (k - 1) l.s (some_rows l)) (omega arith)
    (sym (strand_of-coordinates l c k) ∙ same_k ∙ si))
