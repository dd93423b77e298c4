-- Columns and rows: which places lie on one strand, and that none of them lies between neighbours.
use Rattle.std.proofs.Common.{◌≡◌, ℕ, ◌+◌, ◌-◌, ◌*◌, ◌/◌, ◌%◌, ◌<◌, ◌≤◌, inl, inr, refl, sym, ◌∙◌, ap, arith}
use Rattle.std.proofs.lemmas.Nat.{div-add-mod', div-mul-add, mod-mul-add}
use Rattle.std.proofs.lemmas.Bool.Decides.{nat_tests}
use Rattle.aea_lattice.specs.declared.blocks.Class.{Class}
use Rattle.aea_lattice.specs.declared.blocks.Class.TheVariants.{Datum, Horiz, Right, Left}
use Rattle.aea_lattice.specs.declared.grid.Lattice.{Lattice}
use Rattle.aea_lattice.specs.Strands.{column, row, strand_of}
use Rattle.aea_lattice.proofs.Residues.{apart, lexicographic}

-- the numbers of rows and strands of the shapes with two or three classes
pub record IsWoven (s p : ℕ) : Type 0 where
  pub two : 2 ≤ s
  pub s_most : s ≤ 16
  pub p_least : s ≤ p
  pub p_most : p ≤ 64

-- a lattice has at least one row
pub some_rows : (l : Lattice) → 1 ≤ l.s
some_rows l = let h = l.in_profile in grind (arith, nat_tests)

-- in a lattice with at least two parity classes, s is 2 to 16 and p is s to 64
pub woven : (l : Lattice) → 2 ≤ l.alpha → IsWoven l.s l.p
woven l two =
    let h = l.in_profile in
    record {
      two = grind (arith, nat_tests);
      s_most = grind (arith, nat_tests);
      p_least = grind (arith, nat_tests);
      p_most = grind (arith, nat_tests);
    }

-- the node in column c and row r
abbrev pub node_at : ℕ → ℕ → ℕ → ℕ
node_at s c r = c * s + r + 1

pub column-node_at : (s c r : ℕ) → r < s → (node_at s c r - 1) / s ≡ c
column-node_at s c r below =
    let e : c * s + r + 1 - 1 ≡ c * s + r = omega arith in
    ap (λ x. x / s) e ∙ div-mul-add c s r below

pub row-node_at : (s c r : ℕ) → r < s → (node_at s c r - 1) % s ≡ r
row-node_at s c r below =
    let e : c * s + r + 1 - 1 ≡ c * s + r = omega arith in
    ap (λ x. x % s) e ∙ mod-mul-add c s r below

-- a node is in its column and row
pub node_at-coordinates : (s k : ℕ) → 1 ≤ k → node_at s ((k - 1) / s) ((k - 1) % s) ≡ k
node_at-coordinates s k first = let e : (k - 1) / s * s + (k - 1) % s ≡ k - 1 = div-add-mod' (k - 1) s in omega arith

-- the strand of a place
abbrev pub strand_at : Class → ℕ → ℕ → ℕ → ℕ
strand_at Datum p c r = 0
strand_at Horiz p c r = r
strand_at Right p c r = (c + (p - r)) % p
strand_at Left p c r = (c + r) % p

-- a node lies on the strand of the place in its column and row
pub strand_of-coordinates : (l : Lattice) (c : Class) (k : ℕ) → strand_of l c k ≡ strand_at c l.p (column l k) (row l k)
strand_of-coordinates l Datum k = refl
strand_of-coordinates l Horiz k = refl
strand_of-coordinates l Right k = refl
strand_of-coordinates l Left k = refl

-- the node in column a and row r, below s, lies on the strand of that place
pub strand_of-node_at : (l : Lattice) (c : Class) (a r : ℕ) → r < l.s → strand_of l c (node_at l.s a r) ≡ strand_at c l.p a r
strand_of-node_at l c a r below =
    strand_of-coordinates l c (node_at l.s a r)
    ∙ ap (λ x. strand_at c l.p x (row l (node_at l.s a r))) (column-node_at l.s a r below)
    ∙ ap (λ x. strand_at c l.p a x) (row-node_at l.s a r below)

-- no place of the strand of (b,t) lies between (a,r) and (b,t)
abbrev pub NoneBetween : Class → ℕ → ℕ → ℕ → ℕ → ℕ → ℕ → Type 0
NoneBetween c s p a r b t =
    (x y : ℕ) → y < s → a * s + r < x * s + y → x * s + y < b * s + t → strand_at c p x y ≡ strand_at c p b t → ⊥

-- no place of the strand of (b,t) lies before (b,t)
abbrev pub NoneBefore : Class → ℕ → ℕ → ℕ → ℕ → Type 0
NoneBefore c s p b t =
    (x y : ℕ) → y < s → x * s + y < b * s + t → strand_at c p x y ≡ strand_at c p b t → ⊥

-- on Horiz, no place of the strand of (a + 1,r) lies between (a,r) and it
pub horiz-between : (s p a r : ℕ) → r < s → NoneBetween Horiz s p a r (a + 1) r
horiz-between s p a r below x y hy low high same =
    elim (lexicographic s a r x y below hy low) [
      | inl f ↦ elim (lexicographic s x y (a + 1) r hy below high) [
        | inl g ↦ omega arith
        | inr g ↦ let gt = g.1 in omega arith
      ]
      | inr f ↦ let ft = f.1 in omega arith
    ]

-- on Horiz, no place of the strand of (0,r) lies before it
pub horiz-before : (s p r : ℕ) → r < s → NoneBefore Horiz s p 0 r
horiz-before s p r below x y hy high same =
    elim (lexicographic s x y 0 r hy below high) [
      | inl g ↦ omega arith
      | inr g ↦ let gt = g.1 in omega arith
    ]

-- on Right with s ≤ p, no place of the strand of (a + 1,r + 1) lies between (a,r) and it
pub right-between : (s p a r : ℕ) → s ≤ p → r + 1 < s → NoneBetween Right s p a r (a + 1) (r + 1)
right-between s p a r le below x y hy low high same =
    elim (lexicographic s a r x y (omega arith) hy low) [
      | inl f ↦ elim (lexicographic s x y (a + 1) (r + 1) hy below high) [
        | inl g ↦ omega arith
        | inr g ↦
            let ge = g.0 in let gt = g.1 in
            apart p (a + 1 + (p - (r + 1))) (x + (p - y)) (omega arith) (omega arith) (sym same)
      ]
      | inr f ↦
          let fe = f.0 in let ft = f.1 in
          apart p (x + (p - y)) (a + 1 + (p - (r + 1))) (omega arith) (omega arith) same
    ]

-- on Right with s ≤ p, no place of the strand of (b,0) lies between (a,s - 1) and it, where b + s = a + p + 1
pub right-between_top : (s p a b : ℕ) → 1 ≤ s → s ≤ p → b + s ≡ a + p + 1 → NoneBetween Right s p a (s - 1) b 0
right-between_top s p a b some le turn x y hy low high same =
    elim (lexicographic s a (s - 1) x y (omega arith) hy low) [
      | inl f ↦ elim (lexicographic s x y b 0 hy (omega arith) high) [
        | inl g ↦ apart p (x + (p - y)) (b + (p - 0)) (omega arith) (omega arith) same
        | inr g ↦ let gt = g.1 in omega arith
      ]
      | inr f ↦ let ft = f.1 in omega arith
    ]

-- on Right with s ≤ p, no place of the strand of (0,r) lies before it
pub right-before : (s p r : ℕ) → s ≤ p → r < s → NoneBefore Right s p 0 r
right-before s p r le below x y hy high same =
    elim (lexicographic s x y 0 r hy below high) [
      | inl g ↦ omega arith
      | inr g ↦
          let ge = g.0 in let gt = g.1 in
          apart p (0 + (p - r)) (x + (p - y)) (omega arith) (omega arith) (sym same)
    ]

-- on Right with s ≤ p, no place of the strand of (b,0) lies before it, for b from 0 to p - s
pub right-before_top : (s p b : ℕ) → 1 ≤ s → s ≤ p → b + s ≤ p → NoneBefore Right s p b 0
right-before_top s p b some le near x y hy high same =
    elim (lexicographic s x y b 0 hy (omega arith) high) [
      | inl g ↦ apart p (x + (p - y)) (b + (p - 0)) (omega arith) (omega arith) same
      | inr g ↦ let gt = g.1 in omega arith
    ]

-- on Left with s ≤ p, no place of the strand of (a + 1,r) lies between (a,r + 1) and it
pub left-between : (s p a r : ℕ) → s ≤ p → r + 1 < s → NoneBetween Left s p a (r + 1) (a + 1) r
left-between s p a r le below x y hy low high same =
    elim (lexicographic s a (r + 1) x y below hy low) [
      | inl f ↦ elim (lexicographic s x y (a + 1) r hy (omega arith) high) [
        | inl g ↦ omega arith
        | inr g ↦
            let ge = g.0 in let gt = g.1 in
            apart p (x + y) (a + 1 + r) (omega arith) (omega arith) same
      ]
      | inr f ↦
          let fe = f.0 in let ft = f.1 in
          apart p (a + 1 + r) (x + y) (omega arith) (omega arith) (sym same)
    ]

-- on Left with s ≤ p, no place of the strand of (b,s - 1) lies between (a,0) and it, where b + s = a + p + 1
pub left-between_bottom : (s p a b : ℕ) → 1 ≤ s → s ≤ p → b + s ≡ a + p + 1 → NoneBetween Left s p a 0 b (s - 1)
left-between_bottom s p a b some le turn x y hy low high same =
    elim (lexicographic s a 0 x y (omega arith) hy low) [
      | inl f ↦ elim (lexicographic s x y b (s - 1) hy (omega arith) high) [
        | inl g ↦ apart p (x + y) (b + (s - 1)) (omega arith) (omega arith) same
        | inr g ↦ let ge = g.0 in let gt = g.1 in apart p (x + y) (b + (s - 1)) (omega arith) (omega arith) same
      ]
      | inr f ↦ elim (lexicographic s x y b (s - 1) hy (omega arith) high) [
        | inl g ↦ let fe = f.0 in let ft = f.1 in apart p (x + y) (b + (s - 1)) (omega arith) (omega arith) same
        | inr g ↦ let fe = f.0 in let ft = f.1 in let ge = g.0 in let gt = g.1 in apart p (x + y) (b + (s - 1)) (omega arith) (omega arith) same
      ]
    ]

-- on Left with s ≤ p, no place of the strand of (0,r) lies before it
pub left-before : (s p r : ℕ) → s ≤ p → r < s → NoneBefore Left s p 0 r
left-before s p r le below x y hy high same =
    elim (lexicographic s x y 0 r hy below high) [
      | inl g ↦ omega arith
      | inr g ↦ let ge = g.0 in let gt = g.1 in apart p (x + y) (0 + r) (omega arith) (omega arith) same
    ]

-- on Left with s ≤ p, no place of the strand of (b,s - 1) lies before it, for b from 0 to p - s
pub left-before_bottom : (s p b : ℕ) → 1 ≤ s → s ≤ p → b + s ≤ p → NoneBefore Left s p b (s - 1)
left-before_bottom s p b some le near x y hy high same =
    elim (lexicographic s x y b (s - 1) hy (omega arith) high) [
      | inl g ↦ apart p (x + y) (b + (s - 1)) (omega arith) (omega arith) same
      | inr g ↦ let ge = g.0 in let gt = g.1 in apart p (x + y) (b + (s - 1)) (omega arith) (omega arith) same
    ]
