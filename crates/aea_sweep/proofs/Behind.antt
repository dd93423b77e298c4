-- Steps of the open words, where closed words follow them.
use Rattle.std.proofs.Common.{◌≡◌, ◌≢◌, ℕ, ◌+◌, ◌-◌, ◌<◌, ◌≤◌, inl, inr, Bool, false, ◌&&◌, ◌==◌, cond, List, [], ◌∷◌, ◌++◌, length, get_or, refl, sym, ◌∙◌, ap, subst, arith}
use Rattle.std.specs.Prelude.{nat_lt, slice_set}
use Rattle.std.proofs.lemmas.Bool.Decides.{nat_tests}
use Rattle.std.proofs.lemmas.Bool.{cases_eq, cases_lt, eq-eqb, ne_eqb}
use Rattle.std.proofs.lemmas.List.{get_or_append_left, get_or-append_right, get_or-set_same, get_or-set_other, length-append}
use Rattle.std.proofs.Math.ListN.{length-set, get_or-eq_default}
use Rattle.aea_lattice.specs.Parity.{differ}
use Rattle.aea_lattice.proofs.Odd.{differ-false_r}
use Rattle.aea_sweep.specs.declared.heads.Heads.{Heads}
use Rattle.aea_sweep.specs.Heads.{head_in}
use Rattle.aea_sweep.specs.Words.{has_odd, RiseWithin, word_in}
use Rattle.aea_sweep.specs.Tables.{AddsRow, Exchanges, Clears, Closes, partner}
use Rattle.aea_sweep.proofs.Cleaning.{hits}

-- the rows after them are as they were
behind_same : (words new closed : List (List ℕ)) → length new ≡ length words → (r : ℕ) → length words ≤ r → get_or (new ++ closed) r [] ≡ get_or (words ++ closed) r []
behind_same words new closed long r past =
    get_or-append_right new closed (length words) r [] long past ∙ sym (get_or-append_right words closed (length words) r [] refl past)

behind_long : (words new closed : List (List ℕ)) → length new ≡ length words → length (new ++ closed) ≡ length (words ++ closed)
behind_long words new closed long = length-append new closed ∙ ap (λ (n : ℕ). n + length closed) long ∙ sym (length-append words closed)

before : (words closed : List (List ℕ)) (r : ℕ) → r < length words → get_or (words ++ closed) r [] ≡ get_or words r []
before words closed r less = get_or_append_left words closed [] r less

-- the rows before rise where all do
before_rises : (words closed : List (List ℕ)) (top : ℕ) → ((r : ℕ) → RiseWithin 1 (get_or (words ++ closed) r []) top) → (r : ℕ) → RiseWithin 1 (get_or words r []) top
before_rises words closed top all r = elim (cases_lt r (length words)) [
  | inl less ↦ subst (λ (xs : List ℕ). RiseWithin 1 xs top) (before words closed r less) (all r)
  | inr past ↦ subst (λ (xs : List ℕ). RiseWithin 1 xs top) (sym (get_or-eq_default words [] past)) low
]
  where
    all_past : length (words ++ closed) ≤ length (words ++ closed)
    all_past = omega arith

    low : 1 ≤ top
    low = subst (λ (xs : List ℕ). RiseWithin 1 xs top) (get_or-eq_default (words ++ closed) [] all_past) (all (length (words ++ closed)))

pub adds-behind : (from : ℕ) (hit : ℕ → Bool) (words new closed : List (List ℕ)) (heads headed : List Heads) → from < length words
    → ((r : ℕ) → length words ≤ r → hit r ≡ false) → AddsRow from hit words new heads headed → AddsRow from hit (words ++ closed) (new ++ closed) heads headed
adds-behind from hit words new closed heads headed inside out adds =
    let long = adds.size.words_long in
    record {
      size = record { words_long = behind_long words new closed long; heads_long = adds.size.heads_long };
      words_are = λ r i. elim (cases_lt r (length words)) [
        | inl less ↦
            ap (λ (xs : List ℕ). has_odd xs i) (before new closed r (omega arith))
            ∙ adds.words_are r i
            ∙ sym (ap (λ (xs : List ℕ). differ (has_odd xs i) (hit r && word_in (words ++ closed) from i)) (before words closed r less)
            ∙ ap (λ (xs : List ℕ). differ (word_in words r i) (hit r && has_odd xs i)) (before words closed from inside))
        | inr past ↦
            ap (λ (xs : List ℕ). has_odd xs i) (behind_same words new closed long r past)
            ∙ sym (ap (λ (b : Bool). differ (word_in (words ++ closed) r i) (b && word_in (words ++ closed) from i)) (out r past)
            ∙ differ-false_r (word_in (words ++ closed) r i))
      ];
      heads_are = adds.heads_are;
      rises = λ top all r. elim (cases_lt r (length words)) [
        | inl less ↦
            subst (λ (xs : List ℕ). RiseWithin 1 xs top) (sym (before new closed r (omega arith))) (adds.rises top (before_rises words closed top all) r)
        | inr past ↦ subst (λ (xs : List ℕ). RiseWithin 1 xs top) (sym (behind_same words new closed long r past)) (all r)
      ];
    }

partner_below : (a b r n : ℕ) → a < n → b < n → r < n → partner a b r < n
partner_below a b r n in_a in_b in_r = elim (cases_eq r a) [
  | inl e ↦ subst (λ (t : Bool). cond t b (cond (r == b) a r) < n) (sym (eq-eqb r a e)) in_b
  | inr e ↦ subst (λ (t : Bool). cond t b (cond (r == b) a r) < n) (sym (ne_eqb r a e)) (elim (cases_eq r b) [
    | inl f ↦ subst (λ (t : Bool). cond t a r < n) (sym (eq-eqb r b f)) in_a
    | inr f ↦ subst (λ (t : Bool). cond t a r < n) (sym (ne_eqb r b f)) in_r
  ])
]

partner_other : (a b r : ℕ) → r ≢ a → r ≢ b → partner a b r ≡ r
partner_other a b r e f = ap (λ (t : Bool). cond t b (cond (r == b) a r)) (ne_eqb r a e) ∙ ap (λ (t : Bool). cond t a r) (ne_eqb r b f)

pub exchanges-behind : (a b : ℕ) (words new closed : List (List ℕ)) (heads headed : List Heads) → a < length words → b < length words
    → Exchanges a b words new heads headed → Exchanges a b (words ++ closed) (new ++ closed) heads headed
exchanges-behind a b words new closed heads headed in_a in_b moves =
    let long = moves.size.words_long in
    record {
      size = record { words_long = behind_long words new closed long; heads_long = moves.size.heads_long };
      words_are = λ r. elim (cases_lt r (length words)) [
        | inl less ↦
            before new closed r (omega arith) ∙ moves.words_are r
            ∙ sym (before words closed (partner a b r) (partner_below a b r (length words) in_a in_b less))
        | inr past ↦
            behind_same words new closed long r past
            ∙ ap (λ (k : ℕ). get_or (words ++ closed) k []) (sym (partner_other a b r (λ h. omega arith) (λ h. omega arith)))
      ];
      heads_are = moves.heads_are;
    }

pub clears-behind : (row : ℕ) (words new closed : List (List ℕ)) (heads headed : List Heads) → row < length words
    → Clears row words new heads headed → Clears row (words ++ closed) (new ++ closed) heads headed
clears-behind row words new closed heads headed inside clears =
    let long = clears.size.words_long in
    record {
      size = record { words_long = behind_long words new closed long; heads_long = clears.size.heads_long };
      words_are = λ r. elim (cases_lt r (length words)) [
        | inl less ↦
            before new closed r (omega arith) ∙ clears.words_are r ∙ ap (λ (xs : List ℕ). cond (r == row) [] xs) (sym (before words closed r less))
        | inr past ↦
            behind_same words new closed long r past
            ∙ sym (ap (λ (t : Bool). cond t [] (get_or (words ++ closed) r [])) (ne_eqb r row (λ h. omega arith)))
      ];
      heads_are = clears.heads_are;
    }

-- the rows after them, with one more
behind_more : (closed : List (List ℕ)) (x : List ℕ) (k : ℕ) → get_or (closed ++ x ∷ []) k [] ≡ cond (k == length closed) x (get_or closed k [])
behind_more closed x k = elim (cases_eq k (length closed)) [
  | inl e ↦
      get_or-append_right closed (x ∷ []) (length closed) k [] refl (omega arith)
      ∙ ap (λ (n : ℕ). get_or (x ∷ []) n []) (let h : k - length closed ≡ 0 = omega arith in h)
      ∙ sym (ap (λ (t : Bool). cond t x (get_or closed k [])) (eq-eqb k (length closed) e))
  | inr e ↦
      (elim (cases_lt k (length closed)) [
        | inl less ↦ get_or_append_left closed (x ∷ []) [] k less
        | inr past ↦
            (let long = length-append closed (x ∷ []) in
            let beyond : length (closed ++ x ∷ []) ≤ k = (let h : length (x ∷ []) ≡ 1 = refl in omega arith) in
            get_or-eq_default (closed ++ x ∷ []) [] beyond ∙ sym (get_or-eq_default closed [] past))
      ])
      ∙ sym (ap (λ (t : Bool). cond t x (get_or closed k [])) (ne_eqb k (length closed) e))
]

-- a word goes to the closed ones
pub closes-behind : (row : ℕ) (words closed : List (List ℕ)) (x : List ℕ) → row < length words → x ≡ get_or words row []
    → Closes row (words ++ closed) (slice_set words row [] ++ (closed ++ x ∷ []))
closes-behind row words closed x inside is =
    record {
      long = long_all;
      words_are = λ r. elim (cases_lt r (length words)) [
        | inl less ↦
            get_or_append_left (slice_set words row []) (closed ++ x ∷ []) [] r (let h = long_new in omega arith)
            ∙ (elim (cases_eq r row) [
              | inl e ↦
                  ap (λ (k : ℕ). get_or (slice_set words row []) k []) e ∙ get_or-set_same words row [] [] inside
                  ∙ sym (ap (λ (t : Bool). cond t [] (rest r)) (eq-eqb r row e))
              | inr e ↦
                  get_or-set_other words row r [] [] e ∙ sym (before words closed r less)
                  ∙ sym (ap (λ (t : Bool). cond t [] (rest r)) (ne_eqb r row e)
                  ∙ ap (λ (t : Bool). cond t (get_or (words ++ closed) row []) (get_or (words ++ closed) r [])) (ne_eqb r (length (words ++ closed)) (λ h. (let g = long_old in omega arith))))
            ])
        | inr past ↦
            get_or-append_right (slice_set words row []) (closed ++ x ∷ []) (length words) r [] long_new past
            ∙ behind_more closed x (r - length words)
            ∙ ap (λ (xs : List ℕ). cond (r - length words == length closed) xs (get_or closed (r - length words) [])) (is ∙ sym (before words closed row inside))
            ∙ ap (λ (xs : List ℕ). cond (r - length words == length closed) (get_or (words ++ closed) row []) xs)
            (sym (get_or-append_right words closed (length words) r [] refl past))
            ∙ ap (λ (t : Bool). cond t (get_or (words ++ closed) row []) (get_or (words ++ closed) r [])) (same_test r past)
            ∙ sym (ap (λ (t : Bool). cond t [] (rest r)) (ne_eqb r row (λ h. omega arith)))
      ];
    }
  where
    rest : ℕ → List ℕ
    rest r = cond (r == length (words ++ closed)) (get_or (words ++ closed) row []) (get_or (words ++ closed) r [])

    long_new : length (slice_set words row []) ≡ length words
    long_new = length-set words row []

    long_old : length (words ++ closed) ≡ length words + length closed
    long_old = length-append words closed

    long_all : length (slice_set words row [] ++ (closed ++ x ∷ [])) ≡ length (words ++ closed) + 1
    long_all =
        let a = length-append (slice_set words row []) (closed ++ x ∷ []) in
        let b = length-append closed (x ∷ []) in
        let h : length (x ∷ []) ≡ 1 = refl in
        let d = long_new in
        let e = long_old in
        omega arith

    same_test : (r : ℕ) → length words ≤ r → (r - length words == length closed) ≡ (r == length (words ++ closed))
    same_test r past = elim (cases_eq (r - length words) (length closed)) [
      | inl e ↦ eq-eqb (r - length words) (length closed) e ∙ sym (eq-eqb r (length (words ++ closed)) (let g = long_old in omega arith))
      | inr e ↦ ne_eqb (r - length words) (length closed) e ∙ sym (ne_eqb r (length (words ++ closed)) (λ h. (let g = long_old in e (omega arith))))
    ]

-- of rows below the spare one none is past the open words
pub low_hits : (p : ℕ → Bool) (spare n : ℕ) → spare ≤ n → (r : ℕ) → n ≤ r → (nat_lt r spare && p r) ≡ false
low_hits p spare n less r past = let out : nat_lt r spare ≡ false = grind (arith, nat_tests) in ap (λ (b : Bool). b && p r) out

-- nor is the spare one
pub hits_out : (spare t : ℕ) (heads : List Heads) (n : ℕ) → spare < n → (r : ℕ) → n ≤ r → hits spare t heads r ≡ false
hits_out spare t heads n less r past = ap (λ (b : Bool). b && (head_in heads t t && head_in heads spare t)) (ne_eqb r spare (λ h. omega arith))
