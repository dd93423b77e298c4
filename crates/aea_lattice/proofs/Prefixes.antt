-- The nodes of a prefix, and the node just before the last one.
use Rattle.std.proofs.Common.{◌≡◌, ℕ, zero, suc, ◌<◌, ◌≤◌, Bool, true, false, not, ◌&&◌, ◌==◌, cond, List, [], ◌∷◌, ◌++◌, filter, inl, inr, Some, None, refl, sym, ◌∙◌, ap, subst, arith, eqb-true}
use Rattle.std.proofs.lemmas.Bool.{cases_Bool, cond-false, and_parts, not-true}
use Rattle.std.proofs.lemmas.List.{append-nil}
use Rattle.std.proofs.lemmas.List.Elements.{filter-append}
use Rattle.aea_lattice.specs.declared.blocks.Class.{Class}
use Rattle.aea_lattice.specs.declared.grid.Lattice.{Lattice}
use Rattle.aea_lattice.specs.Fences.{is_parted}
use Rattle.aea_lattice.specs.Strands.{strand_of, is_on, nodes_on, nodes_to, prefix, previous}
use Rattle.aea_lattice.specs.Ends.{last_of}
use Rattle.aea_lattice.proofs.Parted.{parted-less}
use Rattle.aea_lattice.proofs.Strands.{last_of-snoc, filter-snoc_true}
use Rattle.aea_lattice.proofs.Runs.{prefix-suc, previous-suc}

-- a list without a last item is empty
pub last_of-none : (xs : List ℕ) → last_of xs ≡ None → xs ≡ []
last_of-none [] h = refl
last_of-none (x ∷ []) h = absurd (cc)
last_of-none (x ∷ y ∷ ys) h = let none : ◌≡◌ {A = List ℕ} (y ∷ ys) [] = last_of-none (y ∷ ys) h in absurd (cc)

filter-skip : (p : ℕ → Bool) (xs : List ℕ) (x : ℕ) → p x ≡ false → filter p (xs ++ x ∷ []) ≡ filter p xs
filter-skip p xs x h =
    filter-append p xs (x ∷ []) ∙ ap (λ ys. filter p xs ++ ys) (cond-false (p x) (x ∷ []) [] h) ∙ append-nil (filter p xs)

-- g is the last of the nodes 1 to m that passes the test
pub record IsLast (p : ℕ → Bool) (m g : ℕ) : Type 0 where
  pub first : 1 ≤ g
  pub most : g ≤ m
  pub passes : p g ≡ true
  pub rest : filter p (nodes_to m) ≡ filter p (nodes_to g)

last_is : (p : ℕ → Bool) (m g : ℕ) → p (suc m) ≡ true → last_of (filter p (nodes_to (suc m))) ≡ Some g → g ≡ suc m
last_is p m g here h =
    let at : last_of (filter p (nodes_to (suc m))) ≡ Some (suc m) =
    ap last_of (filter-snoc_true p (nodes_to m) (suc m) here) ∙ last_of-snoc (filter p (nodes_to m)) (suc m) in
    let same : Some g ≡ Some (suc m) = sym h ∙ at in cc

-- the last item of the list of the nodes 1 to m that pass a test is the last of these nodes that passes it
pub IsLast-last_of : (p : ℕ → Bool) (m g : ℕ) → last_of (filter p (nodes_to m)) ≡ Some g → IsLast p m g
IsLast-last_of p zero g h = absurd (cc)
IsLast-last_of p (suc m) g h =
    elim (cases_Bool (p (suc m))) [
      | inl here ↦ subst (IsLast p (suc m)) (sym (last_is p m g here h)) (record { first = omega arith; most = omega arith; passes = here; rest = refl })
      | inr not_here ↦
          let skip : filter p (nodes_to (suc m)) ≡ filter p (nodes_to m) = filter-skip p (nodes_to m) (suc m) not_here in
          let last : IsLast p m g = IsLast-last_of p m g (ap last_of (sym skip) ∙ h) in
          record { first = last.first; most = omega (arith, last.most); passes = last.passes; rest = skip ∙ last.rest }
    ]

-- tests that agree up to m keep the same of the nodes 1 to m
pub filter-same : (p q : ℕ → Bool) (m : ℕ) → ((k : ℕ) → k ≤ m → p k ≡ q k) → filter p (nodes_to m) ≡ filter q (nodes_to m)
filter-same p q zero same = refl
filter-same p q (suc m) same =
    filter-append p (nodes_to m) (suc m ∷ [])
    ∙ ap (λ xs. xs ++ filter p (suc m ∷ [])) (filter-same p q m (λ k le. same k (omega arith)))
    ∙ ap (λ b. filter q (nodes_to m) ++ cond b (suc m ∷ []) []) (same (suc m) (omega arith))
    ∙ sym (filter-append q (nodes_to m) (suc m ∷ []))

-- a node that passes the test `is_on` lies on the strand, and no fence parts it from i
pub on_strand : (l : Lattice) (c : Class) (strand i g : ℕ) → is_on l c strand i g ≡ true
    → (strand_of l c g ≡ strand) × (is_parted l.fences g i ≡ false)
on_strand l c strand i g h =
    let both = and_parts (strand_of l c g == strand) (not (is_parted l.fences g i)) h in
    (eqb-true (strand_of l c g) strand both.0, not-true (is_parted l.fences g i) both.1)

-- The nodes of a strand up to m that no fence parts from a later node i are the prefix of their last one.
pub run-prefix : (l : Lattice) (c : Class) (strand i m g : ℕ) → m < i → last_of (nodes_on l c strand i m) ≡ Some g
    → nodes_on l c strand i m ≡ prefix l c g
run-prefix l c strand i m g later h =
    let last : IsLast (is_on l c strand i) m g = IsLast-last_of (is_on l c strand i) m g h in
    let on = on_strand l c strand i g last.passes in
    last.rest
    ∙ filter-same (is_on l c strand i) (is_on l c (strand_of l c g) g) g
    (λ k le.
    ap (λ s. strand_of l c k == s && not (is_parted l.fences k i)) (sym on.0)
    ∙ ap (λ b. strand_of l c k == strand_of l c g && not b)
    (parted-less l.fences k g i le (let most = last.most in omega arith) on.1))

previous-is : (l : Lattice) (c : Class) (m g : ℕ) → previous l c (suc m) ≡ Some g → IsLast (is_on l c (strand_of l c (suc m)) (suc m)) m g
previous-is l c m g h = IsLast-last_of (is_on l c (strand_of l c (suc m)) (suc m)) m g (sym (previous-suc l c m) ∙ h)

-- the node just before i in the prefix of i is at least 1
pub previous-first : (l : Lattice) (c : Class) (i g : ℕ) → previous l c i ≡ Some g → 1 ≤ g
previous-first l c zero g h = absurd (cc)
previous-first l c (suc m) g h = (previous-is l c m g h).first

-- the node just before i in the prefix of i is less than i
pub previous-before : (l : Lattice) (c : Class) (i g : ℕ) → previous l c i ≡ Some g → g < i
previous-before l c zero g h = absurd (cc)
previous-before l c (suc m) g h = omega (arith, (previous-is l c m g h).most)

-- the node just before i in the prefix of i lies on the strand of i
pub previous-strand : (l : Lattice) (c : Class) (i g : ℕ) → previous l c i ≡ Some g → strand_of l c g ≡ strand_of l c i
previous-strand l c zero g h = absurd (cc)
previous-strand l c (suc m) g h = (on_strand l c (strand_of l c (suc m)) (suc m) g (previous-is l c m g h).passes).0

-- The prefix of a node is the prefix of the node just before it, with the node itself at its end.
pub prefix-after : (l : Lattice) (c : Class) (i g : ℕ) → previous l c i ≡ Some g → prefix l c i ≡ prefix l c g ++ i ∷ []
prefix-after l c zero g h = absurd (cc)
prefix-after l c (suc m) g h =
    prefix-suc l c m
    ∙ ap (λ xs. xs ++ suc m ∷ []) (run-prefix l c (strand_of l c (suc m)) (suc m) m g (omega arith) (sym (previous-suc l c m) ∙ h))

-- Where the strand begins at a node, its prefix is the node alone.
pub prefix-begin : (l : Lattice) (c : Class) (i : ℕ) → 1 ≤ i → previous l c i ≡ None → prefix l c i ≡ i ∷ []
prefix-begin l c zero some h = absurd (omega arith)
prefix-begin l c (suc m) some h =
    prefix-suc l c m
    ∙ ap (λ xs. xs ++ suc m ∷ []) (last_of-none (nodes_on l c (strand_of l c (suc m)) (suc m) m) (sym (previous-suc l c m) ∙ h))
