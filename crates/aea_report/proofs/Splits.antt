-- Texts, taken apart at a byte.
use Rattle.std.proofs.Common.{◌≡◌, ◌≢◌, ℕ, suc, ◌+◌, ◌<◌, ◌⊎◌, inl, inr, List, [], ◌∷◌, ◌++◌, length, get_or, take, drop, append_assoc, length-append, arith, refl, sym, ◌∙◌, ap, subst}
use Rattle.std.specs.Prelude.{All, ◌==◌}
use Rattle.std.specs.List.{position_or_len, after_first}
use Rattle.std.proofs.lemmas.Bool.{cases_lt, cases_order, eqb-true, eq-eqb, ne_eqb}
use Rattle.std.proofs.lemmas.List.{take_at, take_all, get_or_at, get_or_append_left}
use Rattle.std.proofs.lemmas.List.Elements.{All-head, All-tail}
use Rattle.std.proofs.lemmas.List.Sums.{position_or_len_is, split_at_first, passes_at_first}
use Rattle.aea_report.specs.Format.{newline, joined}
use Rattle.aea_report.specs.Faults.{first_line}

-- no byte of the text is this one
abbrev pub IsFree : ℕ → List ℕ → Type 0
IsFree c bytes = All (λ x. x ≢ c) bytes

-- the text is empty, or begins with this byte
abbrev pub Starts : ℕ → List ℕ → Type 0
Starts c [] = Unit {0}
Starts c (x ∷ xs) = x ≡ c

-- a text is read in one way up to a byte that does not occur before
pub first_same : (c : ℕ) (word other x y : List ℕ) → IsFree c word → IsFree c other → Starts c x → Starts c y → word ++ x ≡ other ++ y → (word ≡ other) × (x ≡ y)
first_same c [] [] x y one two starts begins e = (refl, e)
first_same c [] (d ∷ other) x y one two starts begins e = absurd (two 0 0 (omega arith) (subst (Starts c) e starts))
first_same c (d ∷ word) [] x y one two starts begins e = absurd (one 0 0 (omega arith) (subst (Starts c) (sym e) begins))
first_same c (a ∷ word) (b ∷ other) x y one two starts begins e =
    let first : a ≡ b = cc in
    let rest : word ++ x ≡ other ++ y = cc in
    let more = first_same c word other x y (All-tail (λ z. z ≢ c) a word one) (All-tail (λ z. z ≢ c) b other two) starts begins rest in
    (rw first (ap (λ zs. b ∷ zs) more.0), more.1)

-- a line before others, and what follows
pub joined-cons : (x : List ℕ) (xs : List (List ℕ)) (rest : List ℕ) → joined (x ∷ xs) ++ rest ≡ x ++ 10 ∷ (joined xs ++ rest)
joined-cons x xs rest = append_assoc (x ++ newline) (joined xs) rest ∙ append_assoc x newline (joined xs ++ rest)

heads_same : (x y : List ℕ) (xs ys : List (List ℕ)) (a b : List ℕ) → IsFree 10 x → IsFree 10 y → joined (x ∷ xs) ++ a ≡ joined (y ∷ ys) ++ b → (x ≡ y) × (joined xs ++ a ≡ joined ys ++ b)
heads_same x y xs ys a b one two e =
    let first = first_same 10 x y (10 ∷ (joined xs ++ a)) (10 ∷ (joined ys ++ b)) one two refl refl (sym (joined-cons x xs a) ∙ e ∙ joined-cons y ys b) in
    (first.0, ap (drop 1) first.1)

-- so many lines of a text are the same however they are taken apart
pub lines_split : (xs ys : List (List ℕ)) (a b : List ℕ) → All (IsFree 10) xs → All (IsFree 10) ys → length xs ≡ length ys → joined xs ++ a ≡ joined ys ++ b → (xs ≡ ys) × (a ≡ b)
lines_split [] [] a b one two same e = (refl, e)
lines_split [] (y ∷ ys) a b one two same e = absurd (omega arith)
lines_split (x ∷ xs) [] a b one two same e = absurd (omega arith)
lines_split (x ∷ xs) (y ∷ ys) a b one two same e =
    let first = heads_same x y xs ys a b (All-head (IsFree 10) x xs one) (All-head (IsFree 10) y ys two) e in
    let more = lines_split xs ys a b (All-tail (IsFree 10) x xs one) (All-tail (IsFree 10) y ys two) (omega arith) first.1 in
    (ap (λ z. z ∷ xs) first.0 ∙ ap (λ zs. y ∷ zs) more.0, more.1)

-- of the same text the second has a line after those of the first
pub record HasMore (xs ys : List (List ℕ)) (a b : List ℕ) : Type 0 where
  pub line : List ℕ
  pub later : List (List ℕ)
  pub are : ys ≡ xs ++ line ∷ later
  pub rest : a ≡ line ++ 10 ∷ (joined later ++ b)

-- where a text is taken apart twice, the one that has more lines has those of the other first
pub lines_more : (xs ys : List (List ℕ)) (a b : List ℕ) → All (IsFree 10) xs → All (IsFree 10) ys → length xs < length ys → joined xs ++ a ≡ joined ys ++ b → HasMore xs ys a b
lines_more xs [] a b one two fewer e = absurd (omega arith)
lines_more [] (y ∷ ys) a b one two fewer e = record { line = y; later = ys; are = refl; rest = e ∙ joined-cons y ys b }
lines_more (x ∷ xs) (y ∷ ys) a b one two fewer e =
    let first = heads_same x y xs ys a b (All-head (IsFree 10) x xs one) (All-head (IsFree 10) y ys two) e in
    let more = lines_more xs ys a b (All-tail (IsFree 10) x xs one) (All-tail (IsFree 10) y ys two) (omega arith) first.1 in
    record {
      line = more.line;
      later = more.later;
      are = ap (λ z. z ∷ ys) (sym first.0) ∙ ap (λ zs. x ∷ zs) more.are;
      rest = more.rest;
    }

none_more : (xs ys : List (List ℕ)) → All (IsFree 10) xs → All (IsFree 10) ys → length xs < length ys → joined xs ≡ joined ys → ⊥
none_more xs ys one two fewer e =
    let more = lines_more xs ys [] [] one two fewer (ap (λ z. z ++ []) e) in
    let long : 0 ≡ length more.line + suc (length (joined more.later ++ [])) = ap length more.rest ∙ length-append more.line (10 ∷ (joined more.later ++ [])) in
    omega arith

-- a text has its lines in one way
pub joined_same : (xs ys : List (List ℕ)) → All (IsFree 10) xs → All (IsFree 10) ys → joined xs ≡ joined ys → xs ≡ ys
joined_same xs ys one two e = elim (cases_order (length xs) (length ys)) [
  | inl same ↦ (lines_split xs ys [] [] one two same (ap (λ z. z ++ []) e)).0
  | inr other ↦ elim other [
    | inl fewer ↦ absurd (none_more xs ys one two fewer e)
    | inr more ↦ absurd (none_more ys xs two one more (sym e))
  ]
]

-- ---- the first line of a text

-- the first line is what comes before the first newline
pub first_line-front : (line rest : List ℕ) → IsFree 10 line → first_line (line ++ 10 ∷ rest) ≡ line
first_line-front line rest free =
    let at : position_or_len (λ x. x == 10) (line ++ 10 ∷ rest) ≡ length line =
    position_or_len_is (λ x. x == 10) (line ++ 10 ∷ rest) (length line) 0 (omega (arith, length-append line (10 ∷ rest)))
    (λ k lt. ne_eqb (get_or (line ++ 10 ∷ rest) k 0) 10 (λ e. free k 0 lt (sym (get_or_append_left line (10 ∷ rest) 0 k lt) ∙ e)))
    (λ lt. eq-eqb (get_or (line ++ 10 ∷ rest) (length line) 0) 10 (get_or_at line 10 rest 0 (length line) refl)) in
    ap (λ k. take k (line ++ 10 ∷ rest)) at ∙ take_at line (10 ∷ rest) (length line) refl

-- a text that has a newline is longer than its first line
pub first_line-other : (line rest : List ℕ) → IsFree 10 line → first_line (line ++ 10 ∷ rest) ≢ line ++ 10 ∷ rest
first_line-other line rest free e =
    let long : length line ≡ length line + suc (length rest) = ap length (sym (first_line-front line rest free) ∙ e) ∙ length-append line (10 ∷ rest) in
    omega arith

-- a text is its first line, or goes on after a newline
pub line_cases : (bytes : List ℕ) → (first_line bytes ≡ bytes) ⊎ ((rest : List ℕ) × (bytes ≡ first_line bytes ++ 10 ∷ rest))
line_cases bytes =
    let at = position_or_len (λ x. x == 10) bytes in
    elim (cases_lt (position_or_len (λ x. x == 10) bytes) (length bytes)) [
      | inl lt ↦
          let ten : get_or bytes at 0 ≡ 10 = eqb-true (get_or bytes at 0) 10 (passes_at_first (λ x. x == 10) bytes 0 lt) in
          inr (
            after_first (λ x. x == 10) bytes,
            split_at_first (λ x. x == 10) bytes 0 lt ∙ ap (λ x. first_line bytes ++ x ∷ after_first (λ x. x == 10) bytes) ten,
          )
      | inr ge ↦ inl (take_all at bytes ge)
    ]
