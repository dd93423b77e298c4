-- A fence may come after the last node where the last fence is before it.
use Rattle.std.proofs.Common.{◌≡◌, ◌≢◌, ℕ, suc, ◌<◌, ◌≤◌, Bool, true, false, ◌&&◌, ◌||◌, ◌==◌, not, List, [], ◌∷◌, length, refl, sym, ap, ◌∙◌, arith, inl, inr}
use Rattle.std.specs.Prelude.{nat_le, nat_lt}
use Rattle.std.specs.List.{list_any}
use Rattle.std.proofs.lemmas.Bool.{cases_lt, and_parts, and_from, leb-true, ltb-true, lt-ltb, eqb-true, ne_eqb, not-true, false≢true, eq-eqb, or_parts}
use Rattle.aea_lattice.specs.declared.grid.Lattice.{Lattice}
use Rattle.aea_lattice.specs.Fences.{greatest_fences, rise_to, last_fence}
use Rattle.aea_records.specs.Known.{Known}
use Rattle.aea_records.specs.Fields.{is_next_fence}

-- whether a fence is at n
abbrev stands : List ℕ → ℕ → Bool
stands fences n = list_any (λ f. f == n) fences

-- none does where the last one is before n, and the other way round
last_before : (fences : List ℕ) (f low n : ℕ) → rise_to low n (f ∷ fences) ≡ true
    → (last_fence (f ∷ fences) < n → stands (f ∷ fences) n ≡ false) × (stands (f ∷ fences) n ≡ false → last_fence (f ∷ fences) < n)
last_before [] f low n rise =
    let a = and_parts (nat_le (suc low) f && nat_le f n) true rise in
    let within : f ≤ n = leb-true f n (and_parts (nat_le (suc low) f) (nat_le f n) a.0).1 in (
      λ lt. ap (λ (b : Bool). b || false) (ne_eqb f n (λ e. absurd (omega (arith, lt, e)))),
      λ none. below f n within (or_parts (f == n) false none).0,
    )
  where
    below : (f n : ℕ) → f ≤ n → (f == n) ≡ false → f < n
    below f n le e = elim (cases_lt f n) [
      | inl lt ↦ lt
      | inr ge ↦ absurd (false≢true (sym e ∙ eq-eqb f n (omega (arith, le, ge))))
    ]
last_before (g ∷ fences) f low n rise =
    let a = and_parts (nat_le (suc low) f && nat_le f n) (rise_to f n (g ∷ fences)) rise in
    let b = and_parts (nat_le (suc f) g && nat_le g n) (rise_to g n fences) a.1 in
    let c = and_parts (nat_le (suc f) g) (nat_le g n) b.0 in
    let apart : f < n = omega (arith, leb-true (suc f) g c.0, leb-true g n c.1) in
    let other : (f == n) ≡ false = ne_eqb f n (λ e. absurd (omega (arith, apart, e))) in
    let more = last_before fences g f n a.1 in (
      λ lt. ap (λ (x : Bool). x || stands (g ∷ fences) n) other ∙ more.0 lt,
      λ none. more.1 (or_parts (f == n) (stands (g ∷ fences) n) none).1,
    )

-- where fences rise up to n, and the last is before n, n is not 0 and none is there
pub may_stand : (fences : List ℕ) (n : ℕ) → rise_to 0 n fences ≡ true → last_fence fences < n → (not (n == 0) ≡ true) × (stands fences n ≡ false)
may_stand [] n rise lt = (ap not (ne_eqb n 0 (λ e. absurd (omega (arith, lt, e)))), refl)
may_stand (f ∷ fences) n rise lt = (ap not (ne_eqb n 0 (λ e. absurd (omega (arith, lt, e)))), (last_before fences f 0 n rise).0 lt)

pub stands_before : (fences : List ℕ) (n : ℕ) → rise_to 0 n fences ≡ true → not (n == 0) ≡ true → stands fences n ≡ false → last_fence fences < n
stands_before [] n rise some none = positive n some
  where
    positive : (n : ℕ) → not (n == 0) ≡ true → 0 < n
    positive n e = elim (cases_lt 0 n) [
      | inl lt ↦ lt
      | inr le ↦ absurd (false≢true (sym (not-true (n == 0) e) ∙ eq-eqb n 0 (omega (arith, le))))
    ]
stands_before (f ∷ fences) n rise some none = (last_before fences f 0 n rise).1 none

rises : (l : Lattice) → rise_to 0 l.n l.fences ≡ true
rises l = (and_parts (nat_le (length l.fences) greatest_fences) (rise_to 0 l.n l.fences) l.fenced).1

-- the two tests of a fence at the last node
pub fence_there : (known : Known) (l : Lattice) (node : ℕ) → known.nodes ≡ l.n → known.fences ≡ l.fences → node ≡ l.n → last_fence l.fences < l.n → length l.fences < greatest_fences → true ≡ is_next_fence known node
fence_there known l node nodes fences last before few =
    let may = may_stand l.fences l.n (rises l) before in
    let a : (node == known.nodes) ≡ true = eq-eqb node known.nodes (last ∙ sym nodes) in
    let b : not (node == 0) ≡ true = ap (λ (n : ℕ). not (n == 0)) last ∙ may.0 in
    let c : not (stands known.fences node) ≡ true = (λ i. not (stands (fences i) (last i))) ∙ ap not may.1 in
    let d : nat_lt (length known.fences) greatest_fences ≡ true = lt-ltb (length known.fences) greatest_fences (omega (arith, few, ap length fences)) in
    sym (and_from (node == known.nodes && not (node == 0) && not (stands known.fences node)) (nat_lt (length known.fences) greatest_fences)
    (and_from (node == known.nodes && not (node == 0)) (not (stands known.fences node)) (and_from (node == known.nodes) (not (node == 0)) a b) c) d)

by_true : (b : Bool) → (b ≡ true → ⊥) → false ≡ b
by_true true never = absurd (never refl)
by_true false never = refl

-- where the nodes and fences known are a lattice's, no fence may be next at its last node, unless the last one
-- is before it and there are fewer than the most
pub no_fence_there : (known : Known) (l : Lattice) (node : ℕ) → known.nodes ≡ l.n → known.fences ≡ l.fences → node ≡ l.n → (last_fence l.fences < l.n → length l.fences < greatest_fences → ⊥) → false ≡ is_next_fence known node
no_fence_there known l node nodes fences last never =
    by_true (is_next_fence known node) (λ is.
    let a = and_parts (node == known.nodes && not (node == 0) && not (stands known.fences node)) (nat_lt (length known.fences) greatest_fences) is in
    let b = and_parts (node == known.nodes && not (node == 0)) (not (stands known.fences node)) a.0 in
    let c = and_parts (node == known.nodes) (not (node == 0)) b.0 in
    never
    (stands_before l.fences l.n (rises l) (ap (λ (n : ℕ). not (n == 0)) (sym last) ∙ c.1) ((λ i. stands (sym fences i) (sym last i)) ∙ not-true (stands known.fences node) b.1))
    (omega (arith, ltb-true (length known.fences) greatest_fences a.1, ap length fences)))

-- where the nodes known are a lattice's, no fence may be next at a node that is not its last
pub other_node : (known : Known) (l : Lattice) (node : ℕ) → known.nodes ≡ l.n → node ≢ l.n → false ≡ is_next_fence known node
other_node known l node nodes other =
    by_true (is_next_fence known node) (λ is.
    let a = and_parts (node == known.nodes && not (node == 0) && not (stands known.fences node)) (nat_lt (length known.fences) greatest_fences) is in
    let b = and_parts (node == known.nodes && not (node == 0)) (not (stands known.fences node)) a.0 in
    let c = and_parts (node == known.nodes) (not (node == 0)) b.0 in
    other (eqb-true node known.nodes c.0 ∙ nodes))
