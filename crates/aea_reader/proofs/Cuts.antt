-- Texts, taken apart at a byte, and what has no such byte.
use Rattle.std.proofs.Common.{◌≡◌, ◌≢◌, ℕ, ◌+◌, ◌%◌, ◌<◌, ◌^◌, ◌⊎◌, inl, inr, List, [], ◌∷◌, ◌++◌, length, get_or, take, decimal, arith, refl, sym, ◌∙◌, ap, subst}
use Rattle.std.specs.Prelude.{◌==◌}
use Rattle.std.specs.List.{position_or_len, after_first}
use Rattle.std.proofs.lemmas.Bool.{cases_lt, eqb-true, eq-eqb, ne_eqb}
use Rattle.std.proofs.lemmas.Fmt.{decimal_by_steps}
use Rattle.std.proofs.lemmas.List.{take_at, take_all, get_or_at, get_or_append_left, length-append}
use Rattle.std.proofs.lemmas.List.Elements.{All-nil, All-cons, All-append, All-tail}
use Rattle.std.proofs.lemmas.List.Sums.{position_or_len_is, split_at_first, passes_at_first}
use Rattle.aea_lattice.specs.declared.blocks.Class.{Class}
use Rattle.aea_lattice.specs.declared.blocks.Class.TheVariants.{Datum, Horiz, Right, Left}
use Rattle.aea_lattice.specs.declared.blocks.BlockId.{BlockId}
use Rattle.aea_lattice.specs.declared.grid.Lattice.{Lattice}
use Rattle.aea_lattice.specs.Blocks.{HasBlock}
use Rattle.aea_lattice.specs.Texts.{letter_of, text_of}
use Rattle.aea_report.specs.Faults.{first_line}
use Rattle.aea_reader.specs.Words.{IsFree, Starts}

-- a text is read in one way up to a byte that does not occur before
pub first_same : (c : ℕ) (word other x y : List ℕ) → IsFree c word → IsFree c other → Starts c x → Starts c y → word ++ x ≡ other ++ y → (word ≡ other) × (x ≡ y)
first_same c [] [] x y one two starts begins e = (refl, e)
first_same c [] (d ∷ other) x y one two starts begins e = absurd (two 0 0 (omega arith) (subst (Starts c) e starts))
first_same c (d ∷ word) [] x y one two starts begins e = absurd (one 0 0 (omega arith) (subst (Starts c) (sym e) begins))
first_same c (a ∷ word) (b ∷ other) x y one two starts begins e =
    let first : a ≡ b = cc in
    let rest : word ++ x ≡ other ++ y = cc in
    let more = first_same c word other x y (All-tail (λ z. z ≢ c) a word one) (All-tail (λ z. z ≢ c) b other two) starts begins rest in
    (rw first (ap (λ zs. b ∷ zs) more.0), more.1)

-- ---- first lines

-- the first line is what comes before the first newline
pub first_line-front : (line rest : List ℕ) → IsFree 10 line → first_line (line ++ 10 ∷ rest) ≡ line
first_line-front line rest free =
    let at : position_or_len (λ x. x == 10) (line ++ 10 ∷ rest) ≡ length line =
    position_or_len_is (λ x. x == 10) (line ++ 10 ∷ rest) (length line) 0 (omega (arith, length-append line (10 ∷ rest)))
    (λ k lt. ne_eqb (get_or (line ++ 10 ∷ rest) k 0) 10 (λ e. free k 0 lt (sym (get_or_append_left line (10 ∷ rest) 0 k lt) ∙ e)))
    (λ lt. eq-eqb (get_or (line ++ 10 ∷ rest) (length line) 0) 10 (get_or_at line 10 rest 0 (length line) refl)) in
    ap (λ k. take k (line ++ 10 ∷ rest)) at ∙ take_at line (10 ∷ rest) (length line) refl

-- a text is its first line, or goes on after a newline
pub line_cases : (bytes : List ℕ) → (first_line bytes ≡ bytes) ⊎ ((rest : List ℕ) × (bytes ≡ first_line bytes ++ 10 ∷ rest))
line_cases bytes =
    let at = position_or_len (λ x. x == 10) bytes in
    elim (cases_lt (position_or_len (λ x. x == 10) bytes) (length bytes)) [
      | inl lt ↦
          let ten : get_or bytes at 0 ≡ 10 = eqb-true (get_or bytes at 0) 10 (passes_at_first (λ x. x == 10) bytes 0 lt) in
          inr (
            after_first (λ x. x == 10) bytes,
            split_at_first (λ x. x == 10) bytes 0 lt ∙ ap (λ x. first_line bytes ++ x ∷ after_first (λ x. x == 10) bytes) ten,
          )
      | inr ge ↦ inl (take_all at bytes ge)
    ]

-- ---- bytes that occur nowhere

-- a number's text has digits alone
pub decimal-free : (c n : ℕ) → c < 48 → n < 2 ^ 64 → IsFree c (decimal n)
decimal-free c n low small =
    decimal_by_steps (λ n ds. IsFree c ds)
    (λ n lt. All-cons (λ x. x ≢ c) (48 + n) [] (λ e. absurd (omega arith)) (All-nil (λ x. x ≢ c)))
    (λ n ds le before. All-append (λ x. x ≢ c) ds ((48 + n % 10) ∷ []) before (All-cons (λ x. x ≢ c) (48 + n % 10) [] (λ e. absurd (omega arith)) (All-nil (λ x. x ≢ c))))
    n small

letter-free : (k : ℕ) (c : Class) → k < 48 → letter_of c ≢ k
letter-free k Datum low e = omega arith
letter-free k Horiz low e = omega arith
letter-free k Right low e = omega arith
letter-free k Left low e = omega arith

-- a block's text has a letter and digits
pub block-free : (c : ℕ) (b : BlockId) → c < 48 → b.node < 2 ^ 64 → IsFree c (text_of b)
block-free c b low small = All-cons (λ x. x ≢ c) (letter_of b.class) (decimal b.node) (letter-free c b.class low) (decimal-free c b.node low small)

-- the node of a block of a lattice is a number of 32 bits
pub node-number : (l : Lattice) (b : BlockId) → HasBlock l b → b.node < 2 ^ 32
node-number l b has = let last = has.last in let range = l.in_range in omega arith
