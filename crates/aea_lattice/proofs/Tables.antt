-- The tables of neighbours, by class and kind of node: each entry is the node just before on the strand, or the
-- node that has this one just before it.
use Rattle.std.proofs.Common.{◌≡◌, ◌≢◌, ℕ, suc, zero, ◌+◌, ◌-◌, ◌*◌, ◌%◌, ◌<◌, ◌≤◌, ◌⊎◌, inl, inr, refl, sym, ◌∙◌, ap, arith, Option, Some, None}
use Rattle.std.proofs.lemmas.Bool.{cases_lt}
use Rattle.std.proofs.lemmas.Nat.{mod_below}
use Rattle.std.proofs.Math.Nat.{mul-le-mul_right, add-mod_right}
use Rattle.aea_lattice.specs.declared.blocks.Class.{Class}
use Rattle.aea_lattice.specs.declared.blocks.Class.TheVariants.{Horiz, Right, Left}
use Rattle.aea_lattice.specs.declared.grid.Lattice.{Lattice}
use Rattle.aea_lattice.specs.Strands.{column, row}
use Rattle.aea_lattice.specs.Neighbours.{neighbour, IsNextNeighbour}
use Rattle.aea_lattice.proofs.Neighbours.{IsWoven, woven, some_rows, node_at, node_at-coordinates, horiz-between, horiz-before, right-between, right-between_top, right-before, right-before_top, left-between, left-between_bottom, left-before, left-before_bottom}
use Rattle.aea_lattice.proofs.Strands.{neighbour-node_at, neighbour-none, neighbour-unique}

-- the answer is the node d before i, if there is one
pub record IsEarlier (i d : ℕ) (answer : Option ℕ) : Type 0 where
  pub found : d < i → answer ≡ Some (i - d)
  pub none : i ≤ d → answer ≡ None

-- the first column, or one with another before it
pub cases_column : (n : ℕ) → (n ≡ 0) ⊎ ((a : ℕ) × (n ≡ a + 1))
cases_column zero = inl refl
cases_column (suc a) = inr (a, omega arith)

-- the first p + 1 - s columns, or one that lies so many after another
pub cases_period : (b s p : ℕ) → (b + s ≤ p) ⊎ ((a : ℕ) × (b + s ≡ a + p + 1))
cases_period b s p = elim (cases_lt p (b + s)) [ inl h ↦ inr (b + s - p - 1, omega arith) | inr h ↦ inl h ]

pub square-below : (s u : ℕ) → s ≡ u + 1 → u * u + s + s ≡ s * s + 1
square-below s u e = omega (arith, ap (λ x. x * s) e, ap (λ x. u * x) e)

-- one more round of p strands is the same strand
same_round : (p x y : ℕ) → y ≡ x + p → x % p ≡ y % p
same_round p x y e = sym (ap (λ z. z % p) e ∙ add-mod_right x p)

horiz-input_at : (l : Lattice) (i b t : ℕ) (answer : Option ℕ) → i ≡ node_at l.s b t → t < l.s → IsEarlier i l.s answer → answer ≡ neighbour l Horiz i
horiz-input_at l i b t answer ei ht h = elim (cases_column b) [
  | inl z ↦
      let e : i ≡ node_at l.s 0 t = ei ∙ ap (λ x. node_at l.s x t) z in
      h.none (omega arith) ∙ sym (neighbour-none l Horiz i 0 t e ht (horiz-before l.s l.p t ht))
  | inr w ↦
      let e : i ≡ node_at l.s (w.0 + 1) t = ei ∙ ap (λ x. node_at l.s x t) w.1 in
      h.found (omega arith)
      ∙ sym (neighbour-node_at l Horiz i (i - l.s) w.0 t (w.0 + 1) t e (omega arith) ht ht (let some = some_rows l in omega arith) refl (horiz-between l.s l.p w.0 t ht))
]

-- the neighbour before a node on Horiz is the node s before it, if there is one
pub horiz-input : (l : Lattice) (i : ℕ) (answer : Option ℕ) → 1 ≤ i → IsEarlier i l.s answer → answer ≡ neighbour l Horiz i
horiz-input l i answer first h =
    horiz-input_at l i (column l i) (row l i) answer (sym (node_at-coordinates l.s i first)) (mod_below (i - 1) l.s (some_rows l)) h

right-input_top_at : (l : Lattice) (i b : ℕ) (answer : Option ℕ) → IsWoven l.s l.p → i ≡ node_at l.s b 0 → IsEarlier i (l.s * l.p + 1 - l.s * l.s) answer → answer ≡ neighbour l Right i
right-input_top_at l i b answer shape ei h =
    let two = shape.two in
    let least = shape.p_least in
    let square : l.s * l.s ≤ l.p * l.s = mul-le-mul_right l.s least in
    elim (cases_period b l.s l.p) [
      | inl near ↦
          let products : (b + l.s) * l.s ≤ l.p * l.s = mul-le-mul_right l.s near in
          h.none (omega arith) ∙ sym (neighbour-none l Right i b 0 ei (omega arith) (right-before_top l.s l.p b (omega arith) least near))
      | inr w ↦
          let turn = w.1 in
          let products : (b + l.s) * l.s ≡ (w.0 + l.p + 1) * l.s = ap (λ x. x * l.s) turn in
          h.found (omega arith)
          ∙ sym (neighbour-node_at l Right i (i - (l.s * l.p + 1 - l.s * l.s)) w.0 (l.s - 1) b 0 ei (omega arith) (omega arith) (omega arith) (omega arith)
          (same_round l.p (w.0 + (l.p - (l.s - 1))) (b + (l.p - 0)) (omega arith))
          (right-between_top l.s l.p w.0 b (omega arith) least turn))
    ]

-- with at least two parity classes, the neighbour on Right before a node of the top row is the node
-- s * p + 1 - s * s before it, if there is one
pub right-input_top : (l : Lattice) (i : ℕ) (answer : Option ℕ) → 2 ≤ l.alpha → 1 ≤ i → (i - 1) % l.s ≡ 0 → IsEarlier i (l.s * l.p + 1 - l.s * l.s) answer → answer ≡ neighbour l Right i
right-input_top l i answer two first top h =
    right-input_top_at l i (column l i) answer (woven l two)
    (sym (node_at-coordinates l.s i first) ∙ ap (λ x. node_at l.s (column l i) x) top) h

right-input_other_at : (l : Lattice) (i b t : ℕ) (answer : Option ℕ) → IsWoven l.s l.p → t ≢ 0 → t < l.s → i ≡ node_at l.s b t → IsEarlier i (l.s + 1) answer → answer ≡ neighbour l Right i
right-input_other_at l i b t answer shape inner ht ei h =
    let least = shape.p_least in
    let et : t ≡ t - 1 + 1 = omega arith in
    elim (cases_column b) [
      | inl z ↦
          let e : i ≡ node_at l.s 0 t = ei ∙ ap (λ x. node_at l.s x t) z in
          h.none (omega arith) ∙ sym (neighbour-none l Right i 0 t e ht (right-before l.s l.p t least ht))
      | inr w ↦
          let e : i ≡ node_at l.s (w.0 + 1) (t - 1 + 1) = ei ∙ ap (λ x. node_at l.s x t) w.1 ∙ ap (λ x. node_at l.s (w.0 + 1) x) et in
          h.found (omega arith)
          ∙ sym (neighbour-node_at l Right i (i - (l.s + 1)) w.0 (t - 1) (w.0 + 1) (t - 1 + 1) e (omega arith) (omega arith) (omega arith) (omega arith)
          (ap (λ x. x % l.p) (omega arith))
          (right-between l.s l.p w.0 (t - 1) least (omega arith)))
    ]

-- with at least two parity classes, the neighbour on Right before a node outside the top row is the node
-- s + 1 before it, if there is one
pub right-input_other : (l : Lattice) (i : ℕ) (answer : Option ℕ) → 2 ≤ l.alpha → 1 ≤ i → (i - 1) % l.s ≢ 0 → IsEarlier i (l.s + 1) answer → answer ≡ neighbour l Right i
right-input_other l i answer two first inner h =
    right-input_other_at l i (column l i) (row l i) answer (woven l two) inner (mod_below (i - 1) l.s (some_rows l)) (sym (node_at-coordinates l.s i first)) h

left-input_bottom_at : (l : Lattice) (i b : ℕ) (answer : Option ℕ) → IsWoven l.s l.p → i ≡ node_at l.s b (l.s - 1) → IsEarlier i (l.s * l.p - (l.s - 1) * (l.s - 1)) answer → answer ≡ neighbour l Left i
left-input_bottom_at l i b answer shape ei h =
    let two = shape.two in
    let least = shape.p_least in
    let square : l.s * l.s ≤ l.p * l.s = mul-le-mul_right l.s least in
    let inner : (l.s - 1) * (l.s - 1) + l.s + l.s ≡ l.s * l.s + 1 = square-below l.s (l.s - 1) (omega arith) in
    elim (cases_period b l.s l.p) [
      | inl near ↦
          let products : (b + l.s) * l.s ≤ l.p * l.s = mul-le-mul_right l.s near in
          h.none (omega arith) ∙ sym (neighbour-none l Left i b (l.s - 1) ei (omega arith) (left-before_bottom l.s l.p b (omega arith) least near))
      | inr w ↦
          let turn = w.1 in
          let products : (b + l.s) * l.s ≡ (w.0 + l.p + 1) * l.s = ap (λ x. x * l.s) turn in
          h.found (omega arith)
          ∙ sym (neighbour-node_at l Left i (i - (l.s * l.p - (l.s - 1) * (l.s - 1))) w.0 0 b (l.s - 1) ei (omega arith) (omega arith) (omega arith) (omega arith)
          (same_round l.p (w.0 + 0) (b + (l.s - 1)) (omega arith))
          (left-between_bottom l.s l.p w.0 b (omega arith) least turn))
    ]

-- with at least two parity classes, the neighbour on Left before a node of the bottom row is the node
-- s * p - (s - 1) * (s - 1) before it, if there is one
pub left-input_bottom : (l : Lattice) (i : ℕ) (answer : Option ℕ) → 2 ≤ l.alpha → 1 ≤ i → (i - 1) % l.s ≡ l.s - 1 → IsEarlier i (l.s * l.p - (l.s - 1) * (l.s - 1)) answer → answer ≡ neighbour l Left i
left-input_bottom l i answer two first bottom h =
    left-input_bottom_at l i (column l i) answer (woven l two)
    (sym (node_at-coordinates l.s i first) ∙ ap (λ x. node_at l.s (column l i) x) bottom) h

left-input_other_at : (l : Lattice) (i b t : ℕ) (answer : Option ℕ) → IsWoven l.s l.p → t ≢ l.s - 1 → t < l.s → i ≡ node_at l.s b t → IsEarlier i (l.s - 1) answer → answer ≡ neighbour l Left i
left-input_other_at l i b t answer shape inner ht ei h =
    let least = shape.p_least in
    elim (cases_column b) [
      | inl z ↦
          let e : i ≡ node_at l.s 0 t = ei ∙ ap (λ x. node_at l.s x t) z in
          h.none (omega arith) ∙ sym (neighbour-none l Left i 0 t e ht (left-before l.s l.p t least ht))
      | inr w ↦
          let e : i ≡ node_at l.s (w.0 + 1) t = ei ∙ ap (λ x. node_at l.s x t) w.1 in
          h.found (omega arith)
          ∙ sym (neighbour-node_at l Left i (i - (l.s - 1)) w.0 (t + 1) (w.0 + 1) t e (omega arith) (omega arith) ht (omega arith)
          (ap (λ x. x % l.p) (omega arith))
          (left-between l.s l.p w.0 t least (omega arith)))
    ]

-- with at least two parity classes, the neighbour on Left before a node outside the bottom row is the node
-- s - 1 before it, if there is one
pub left-input_other : (l : Lattice) (i : ℕ) (answer : Option ℕ) → 2 ≤ l.alpha → 1 ≤ i → (i - 1) % l.s ≢ l.s - 1 → IsEarlier i (l.s - 1) answer → answer ≡ neighbour l Left i
left-input_other l i answer two first inner h =
    left-input_other_at l i (column l i) (row l i) answer (woven l two) inner (mod_below (i - 1) l.s (some_rows l)) (sym (node_at-coordinates l.s i first)) h

-- the answer is node j, if the lattice has it
pub record IsLater (n j : ℕ) (answer : Option ℕ) : Type 0 where
  pub found : j ≤ n → answer ≡ Some j
  pub none : n < j → answer ≡ None

horiz-output_at : (l : Lattice) (i a r : ℕ) → i ≡ node_at l.s a r → r < l.s → neighbour l Horiz (i + l.s) ≡ Some i
horiz-output_at l i a r ei hr =
    neighbour-node_at l Horiz (i + l.s) i a r (a + 1) r (omega arith) ei hr hr (let some = some_rows l in omega arith) refl (horiz-between l.s l.p a r hr)

-- each node is the neighbour on Horiz before the node s after it
pub horiz-output : (l : Lattice) (i : ℕ) → 1 ≤ i → neighbour l Horiz (i + l.s) ≡ Some i
horiz-output l i first = horiz-output_at l i (column l i) (row l i) (sym (node_at-coordinates l.s i first)) (mod_below (i - 1) l.s (some_rows l))

right-output_bottom_at : (l : Lattice) (i a : ℕ) → IsWoven l.s l.p → i ≡ node_at l.s a (l.s - 1) → neighbour l Right (i + (l.s * l.p + 1 - l.s * l.s)) ≡ Some i
right-output_bottom_at l i a shape ei =
    let two = shape.two in
    let least = shape.p_least in
    let square : l.s * l.s ≤ l.p * l.s = mul-le-mul_right l.s least in
    let turn : (a + l.p + 1 - l.s) + l.s ≡ a + l.p + 1 = omega arith in
    let products : ((a + l.p + 1 - l.s) + l.s) * l.s ≡ (a + l.p + 1) * l.s = ap (λ x. x * l.s) turn in
    neighbour-node_at l Right (i + (l.s * l.p + 1 - l.s * l.s)) i a (l.s - 1) (a + l.p + 1 - l.s) 0 (omega arith) ei (omega arith) (omega arith) (omega arith)
    (same_round l.p (a + (l.p - (l.s - 1))) ((a + l.p + 1 - l.s) + (l.p - 0)) (omega arith))
    (right-between_top l.s l.p a (a + l.p + 1 - l.s) (omega arith) least turn)

-- with at least two parity classes, a node of the bottom row is the neighbour on Right before the node
-- s * p + 1 - s * s after it
pub right-output_bottom : (l : Lattice) (i : ℕ) → 2 ≤ l.alpha → 1 ≤ i → (i - 1) % l.s ≡ l.s - 1 → neighbour l Right (i + (l.s * l.p + 1 - l.s * l.s)) ≡ Some i
right-output_bottom l i two first bottom =
    right-output_bottom_at l i (column l i) (woven l two)
    (sym (node_at-coordinates l.s i first) ∙ ap (λ x. node_at l.s (column l i) x) bottom)

right-output_other_at : (l : Lattice) (i a r : ℕ) → IsWoven l.s l.p → r ≢ l.s - 1 → r < l.s → i ≡ node_at l.s a r → neighbour l Right (i + (l.s + 1)) ≡ Some i
right-output_other_at l i a r shape inner hr ei =
    let least = shape.p_least in
    neighbour-node_at l Right (i + (l.s + 1)) i a r (a + 1) (r + 1) (omega arith) ei hr (omega arith) (omega arith)
    (ap (λ x. x % l.p) (omega arith))
    (right-between l.s l.p a r least (omega arith))

-- with at least two parity classes, a node outside the bottom row is the neighbour on Right before the node
-- s + 1 after it
pub right-output_other : (l : Lattice) (i : ℕ) → 2 ≤ l.alpha → 1 ≤ i → (i - 1) % l.s ≢ l.s - 1 → neighbour l Right (i + (l.s + 1)) ≡ Some i
right-output_other l i two first inner =
    right-output_other_at l i (column l i) (row l i) (woven l two) inner (mod_below (i - 1) l.s (some_rows l)) (sym (node_at-coordinates l.s i first))

left-output_top_at : (l : Lattice) (i a : ℕ) → IsWoven l.s l.p → i ≡ node_at l.s a 0 → neighbour l Left (i + (l.s * l.p - (l.s - 1) * (l.s - 1))) ≡ Some i
left-output_top_at l i a shape ei =
    let two = shape.two in
    let least = shape.p_least in
    let square : l.s * l.s ≤ l.p * l.s = mul-le-mul_right l.s least in
    let inner : (l.s - 1) * (l.s - 1) + l.s + l.s ≡ l.s * l.s + 1 = square-below l.s (l.s - 1) (omega arith) in
    let turn : (a + l.p + 1 - l.s) + l.s ≡ a + l.p + 1 = omega arith in
    let products : ((a + l.p + 1 - l.s) + l.s) * l.s ≡ (a + l.p + 1) * l.s = ap (λ x. x * l.s) turn in
    neighbour-node_at l Left (i + (l.s * l.p - (l.s - 1) * (l.s - 1))) i a 0 (a + l.p + 1 - l.s) (l.s - 1) (omega arith) ei (omega arith) (omega arith) (omega arith)
    (same_round l.p (a + 0) ((a + l.p + 1 - l.s) + (l.s - 1)) (omega arith))
    (left-between_bottom l.s l.p a (a + l.p + 1 - l.s) (omega arith) least turn)

-- with at least two parity classes, a node of the top row is the neighbour on Left before the node
-- s * p - (s - 1) * (s - 1) after it
pub left-output_top : (l : Lattice) (i : ℕ) → 2 ≤ l.alpha → 1 ≤ i → (i - 1) % l.s ≡ 0 → neighbour l Left (i + (l.s * l.p - (l.s - 1) * (l.s - 1))) ≡ Some i
left-output_top l i two first top =
    left-output_top_at l i (column l i) (woven l two)
    (sym (node_at-coordinates l.s i first) ∙ ap (λ x. node_at l.s (column l i) x) top)

left-output_other_at : (l : Lattice) (i a t : ℕ) → IsWoven l.s l.p → t ≢ 0 → t < l.s → i ≡ node_at l.s a t → neighbour l Left (i + (l.s - 1)) ≡ Some i
left-output_other_at l i a t shape inner ht ei =
    let least = shape.p_least in
    let et : t ≡ t - 1 + 1 = omega arith in
    neighbour-node_at l Left (i + (l.s - 1)) i a (t - 1 + 1) (a + 1) (t - 1) (omega arith) (ei ∙ ap (λ x. node_at l.s a x) et) (omega arith) (omega arith) (omega arith)
    (ap (λ x. x % l.p) (omega arith))
    (left-between l.s l.p a (t - 1) least (omega arith))

-- with at least two parity classes, a node outside the top row is the neighbour on Left before the node
-- s - 1 after it
pub left-output_other : (l : Lattice) (i : ℕ) → 2 ≤ l.alpha → 1 ≤ i → (i - 1) % l.s ≢ 0 → neighbour l Left (i + (l.s - 1)) ≡ Some i
left-output_other l i two first inner =
    left-output_other_at l i (column l i) (row l i) (woven l two) inner (mod_below (i - 1) l.s (some_rows l)) (sym (node_at-coordinates l.s i first))

is_next-found : (l : Lattice) (c : Class) (i j k : ℕ) (answer : Option ℕ) → neighbour l c j ≡ Some i → IsLater l.n j answer → answer ≡ Some k → (k ≤ l.n) × (neighbour l c k ≡ Some i)
is_next-found l c i j k answer before later found = elim (cases_lt l.n j) [
  | inl above ↦ let no : answer ≡ None = later.none above in cc
  | inr within ↦
      let yes' : answer ≡ Some j = later.found within in
      let same : j ≡ k = cc in
      (omega arith, ap (neighbour l c) (sym same) ∙ before)
]

is_next-only : (l : Lattice) (c : Class) (i j k : ℕ) (answer : Option ℕ) → neighbour l c j ≡ Some i → IsLater l.n j answer → k ≤ l.n → neighbour l c k ≡ Some i → answer ≡ Some k
is_next-only l c i j k answer before later within found =
    let same : j ≡ k = neighbour-unique l c i j k before found in
    later.found (omega arith) ∙ ap Some same

-- where i is the neighbour before j, the answer j, or none if the lattice has no node j, is the neighbour
-- after i
pub IsNextNeighbour-from : (l : Lattice) (c : Class) (i j : ℕ) (answer : Option ℕ) → neighbour l c j ≡ Some i → IsLater l.n j answer → IsNextNeighbour l c i answer
IsNextNeighbour-from l c i j answer before later =
    λ k. (λ found. is_next-found l c i j k answer before later found, λ q. is_next-only l c i j k answer before later q.0 q.1)
