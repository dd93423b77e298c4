-- The equations that wait: how they are added to, and what a mark makes of them.
use Rattle.std.proofs.Common.{◌≡◌, ℕ, ◌+◌, ◌<◌, ◌≤◌, inl, inr, ◌⊎◌, Bool, true, false, List, [], ◌∷◌, ◌++◌, length, set, Some, IsTrue, refl, sym, ◌∙◌, ap, subst, arith, length-append}
use Rattle.std.proofs.lemmas.Bool.{cases_Bool, false≢true}
use Rattle.std.proofs.lemmas.List.Elements.{Contains-append_left, Contains-push_cases}
use Rattle.aea_lattice.specs.declared.blocks.BlockId.{BlockId}
use Rattle.aea_lattice.specs.declared.blocks.EqId.{EqId}
use Rattle.aea_lattice.specs.declared.blocks.Class.{Class}
use Rattle.aea_lattice.specs.declared.blocks.Class.TheVariants.{Datum, Horiz, Right, Left}
use Rattle.aea_lattice.specs.declared.grid.Lattice.{Lattice}
use Rattle.aea_lattice.specs.Blocks.{HasNode, HasParity, HasBlock, class_number, block_of, number_of}
use Rattle.aea_lattice.specs.Strands.{previous}
use Rattle.aea_lattice.specs.Equations.{HasEquation, equation_of, is_in_equation}
use Rattle.aea_lattice.specs.Closure.{IsForcedBy}
use Rattle.aea_lattice.proofs.Equations.{member, datum, output, input, member_inside}
use Rattle.aea_lattice.proofs.Prefixes.{previous-before}
use Rattle.aea_lattice.proofs.Derivations.{forced-more}
use Rattle.aea_peel.specs.Queue.{is_marked, IsSpent, WaitsOrIsSpent, IsQueue, Adds}
use Rattle.aea_peel.proofs.States.{mark_elsewhere}

-- ---- more equations

pub Adds-none : (l : Lattice) (n : ℕ) (ws : List EqId) → Adds l n ws ws
Adds-none l n ws = record { kept = λ e c. c; inside = λ e c. inl c; few = omega arith }

-- where one equation of the lattice is put after those that wait, at most one was added
pub Adds-push : (l : Lattice) (ws : List EqId) (e : EqId) → HasEquation l e → Adds l 1 ws (ws ++ e ∷ [])
Adds-push l ws e has = record {
  kept = λ q c. Contains-append_left ws (e ∷ []) q c;
  inside = λ q c. elim (Contains-push_cases ws e q c) [ inl old ↦ inl old | inr same ↦ inr (subst (HasEquation l) same has) ];
  few = omega (arith, length-append ws (e ∷ []));
}

-- where at most n and then at most m equations were added, at most k were, if k is no less than n + m
pub Adds-trans : (l : Lattice) (n m k : ℕ) (a b c : List EqId) → n + m ≤ k → Adds l n a b → Adds l m b c → Adds l k a c
Adds-trans l n m k a b c le first then = record {
  kept = λ e h. then.kept e (first.kept e h);
  inside = λ e h. elim (then.inside e h) [ inl old ↦ first.inside e old | inr has ↦ inr has ];
  few = omega (arith, first.few, then.few);
}

-- what waits or is spent does so when more equations wait
pub still : (l : Lattice) (marks : List Bool) (n : ℕ) (old new : List EqId) (e : EqId)
    → Adds l n old new → WaitsOrIsSpent l marks old e → WaitsOrIsSpent l marks new e
still l marks n old new e adds waits = elim waits [ inl c ↦ inl (adds.kept e c) | inr spent ↦ inr spent ]

-- ---- the equations that a block is in

-- a class with a number of at least 1 is Horiz, Right or Left
pub parity_classes : (c : Class) → 1 ≤ class_number c → (c ≡ Horiz) ⊎ ((c ≡ Right) ⊎ (c ≡ Left))
parity_classes Datum h = absurd (omega arith)
parity_classes Horiz h = inl refl
parity_classes Right h = inr (inl refl)
parity_classes Left h = inr (inr refl)

pub equation_equal : (e : EqId) (i : ℕ) (c : Class) → e.node ≡ i → e.class ≡ c → equation_of i c ≡ e
equation_equal e i c node class = ap (λ k. equation_of k c) (sym node) ∙ ap (λ d. equation_of e.node d) (sym class)

-- an equation of this node and class waits or is spent, where the one that is made of them does
pub waits_as : (l : Lattice) (marks : List Bool) (ws : List EqId) (i : ℕ) (c : Class) (e : EqId) → e.node ≡ i → e.class ≡ c
    → (HasParity l c → WaitsOrIsSpent l marks ws (equation_of i c)) → HasEquation l e → WaitsOrIsSpent l marks ws e
waits_as l marks ws i c e node class waits has =
    subst (WaitsOrIsSpent l marks ws) (equation_equal e i c node class) (waits (subst (HasParity l) class has.class))

-- a parity is in the equation of its node and class, and in that of the next node
pub parity_in : (l : Lattice) (q : EqId) (i : ℕ) (c : Class) → 1 ≤ class_number c → IsTrue (is_in_equation l q (block_of i c))
    → ((q.node ≡ i) × (q.class ≡ c)) ⊎ ((q.class ≡ c) × (previous l c q.node ≡ Some i))
parity_in l q i c parity h =
    elim (member l q (block_of i c) h) [
      | datum same ↦ let none : class_number c ≡ 0 = ap (λ (b : BlockId). class_number b.class) same in absurd (omega arith)
      | output same ↦ inl (sym (ap (λ (b : BlockId). b.node) same), sym (ap (λ (b : BlockId). b.class) same))
      | input g was same ↦
          let class : q.class ≡ c = sym (ap (λ (b : BlockId). b.class) same) in
          inr (class, ap (λ d. previous l d q.node) (sym class) ∙ was ∙ ap (λ k. Some k) (sym (ap (λ (b : BlockId). b.node) same)))
    ]

-- a datum is in the equations of its node
pub datum_in_node : (l : Lattice) (q : EqId) (b : BlockId) → b.class ≡ Datum → HasEquation l q → IsTrue (is_in_equation l q b) → q.node ≡ b.node
datum_in_node l q b class has h =
    elim (member l q b h) [
      | datum same ↦ sym (ap (λ (d : BlockId). d.node) same)
      | output same ↦
          let none : 0 ≡ class_number q.class = ap class_number (sym class) ∙ ap (λ (d : BlockId). class_number d.class) same in
          absurd (omega (arith, has.class.parity))
      | input g was same ↦
          let none : 0 ≡ class_number q.class = ap class_number (sym class) ∙ ap (λ (d : BlockId). class_number d.class) same in
          absurd (omega (arith, has.class.parity))
    ]

-- the node that this one is just before
pub next_inside : (l : Lattice) (c : Class) (i j : ℕ) → j ≤ l.n → previous l c j ≡ Some i → HasNode l j
next_inside l c i j below was = record { first = let after : i < j = previous-before l c j i was in omega arith; last = below }

-- ---- the queue

-- an equation that gives no block need not wait
pub IsQueue-none : (l : Lattice) (marks : List Bool) (ws : List EqId) (e : EqId) → IsSpent l marks e → IsQueue l marks (ws ++ e ∷ []) → IsQueue l marks ws
IsQueue-none l marks ws e spent queue = record {
  inside = λ q c. queue.inside q (Contains-append_left ws (e ∷ []) q c);
  rest = λ q has. elim (queue.rest q has) [
    | inl c ↦ elim (Contains-push_cases ws e q c) [ inl old ↦ inl old | inr same ↦ inr (subst (IsSpent l marks) same spent) ]
    | inr before ↦ inr before
  ];
}

-- a mark leaves an equation without this block spent, if it was
spent_elsewhere : (l : Lattice) (marks : List Bool) (b : BlockId) (q : EqId) → HasBlock l b → is_in_equation l q b ≡ false
    → HasEquation l q → IsSpent l marks q → IsSpent l (set marks (number_of l b) true) q
spent_elsewhere l marks b q inside without has spent d forced =
    let apart : (c : BlockId) → IsTrue (is_in_equation l q c) → is_marked l (set marks (number_of l b) true) c ≡ is_marked l marks c =
    λ c contains. mark_elsewhere l marks b c inside (member_inside l q c has contains)
    (λ same. false≢true (sym without ∙ subst (λ x. is_in_equation l q x ≡ true) same contains)) in
    apart d forced.contains
    ∙ spent d
    (forced-more l (is_marked l (set marks (number_of l b) true)) (is_marked l marks) d q
    (λ c contains marked. sym (apart c contains) ∙ marked) forced)

-- A step: the equation e gave b, which has a mark now, and each equation with b waits or is spent.
pub IsQueue-step : (l : Lattice) (marks : List Bool) (ws new : List EqId) (e : EqId) (b : BlockId) → HasBlock l b
    → IsForcedBy l (is_marked l marks) b e → Adds l 3 ws new
    → ((q : EqId) → HasEquation l q → IsTrue (is_in_equation l q b) → WaitsOrIsSpent l (set marks (number_of l b) true) new q)
    → IsQueue l marks (ws ++ e ∷ []) → IsQueue l (set marks (number_of l b) true) new
IsQueue-step l marks ws new e b inside forced adds around queue = record {
  inside = λ q c. elim (adds.inside q c) [
    | inl old ↦ queue.inside q (Contains-append_left ws (e ∷ []) q old)
    | inr has ↦ has
  ];
  rest = λ q has. elim (cases_Bool (is_in_equation l q b)) [
    | inl contains ↦ around q has contains
    | inr without ↦ elim (queue.rest q has) [
      | inl c ↦ elim (Contains-push_cases ws e q c) [
        | inl old ↦ inl (adds.kept q old)
        | inr same ↦ absurd (false≢true (sym without ∙ subst (λ x. is_in_equation l x b ≡ true) same forced.contains))
      ]
      | inr spent ↦ inr (spent_elsewhere l marks b q inside without has spent)
    ]
  ];
}

-- where nothing waits, each equation is spent
pub IsQueue-end : (l : Lattice) (marks : List Bool) (ws : List EqId) → length ws ≡ 0 → IsQueue l marks ws
    → (e : EqId) → HasEquation l e → IsSpent l marks e
IsQueue-end l marks ws none queue e has =
    elim (queue.rest e has) [ inl c ↦ absurd (omega (arith, c.1)) | inr spent ↦ spent ]
