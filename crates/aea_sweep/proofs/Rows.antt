-- Rows of words and of heads, and how they are added.
use Rattle.std.proofs.Common.{◌≡◌, ◌≢◌, ℕ, zero, suc, ◌+◌, ◌-◌, ◌<◌, ◌≤◌, inl, inr, Bool, true, false, ◌&&◌, ◌==◌, List, [], ◌∷◌, ◌++◌, length, get_or, refl, sym, ◌∙◌, ap, subst, arith}
use Rattle.std.specs.Prelude.{nat_lt, slice_set}
use Rattle.std.proofs.lemmas.Bool.{cases_eq, cases_lt, eq-eqb, ne_eqb}
use Rattle.std.proofs.lemmas.Bool.Decides.{nat_tests}
use Rattle.std.proofs.lemmas.List.{get_or-set_same, get_or-set_other}
use Rattle.std.proofs.Math.ListN.{length-set}
use Rattle.std.proofs.lemmas.List.{get_or_default}
use Rattle.aea_lattice.specs.Parity.{differ}
use Rattle.aea_lattice.proofs.Odd.{differ-assoc, differ-and, differ-false_r}
use Rattle.aea_sweep.specs.declared.heads.Heads.{Heads}
use Rattle.aea_sweep.specs.Heads.{has_head, no_heads, head_in}
use Rattle.aea_sweep.specs.Words.{has_odd, RiseWithin, word_in}
use Rattle.aea_sweep.specs.Tables.{AddsRow}
use Rattle.aea_sweep.proofs.Bits.{none_set, head-low, head-middle, head-high}

-- one row has become its sum with another
pub adds-row : (from into : ℕ) (words : List (List ℕ)) (z : List ℕ) (heads : List Heads) (g : Heads) → into < length words → into < length heads
    → ((i : ℕ) → has_odd z i ≡ differ (word_in words into i) (word_in words from i))
    → ((top : ℕ) → RiseWithin 1 (get_or words into []) top → RiseWithin 1 (get_or words from []) top → RiseWithin 1 z top)
    → ((t : ℕ) → t < 192 → has_head g t ≡ differ (head_in heads into t) (head_in heads from t))
    → AddsRow from (λ r. r == into) words (slice_set words into z) heads (slice_set heads into g)
adds-row from into words z heads g inside headed sum rises head =
    record {
      size = record { words_long = length-set words into z; heads_long = length-set heads into g };
      words_are = λ r i. elim (cases_eq r into) [
        | inl e ↦
            subst (λ (q : ℕ). word_in (slice_set words into z) q i ≡ differ (word_in words q i) ((q == into) && word_in words from i)) (sym e)
            (ap (λ (xs : List ℕ). has_odd xs i) (get_or-set_same words into z [] inside) ∙ sum i
            ∙ sym (ap (λ b. differ (word_in words into i) (b && word_in words from i)) (eq-eqb into into refl)))
        | inr n ↦
            ap (λ (xs : List ℕ). has_odd xs i) (get_or-set_other words into r z [] n)
            ∙ sym (ap (λ b. differ (word_in words r i) (b && word_in words from i)) (ne_eqb r into n) ∙ differ-false_r (word_in words r i))
      ];
      heads_are = λ r t less. elim (cases_eq r into) [
        | inl e ↦
            subst (λ (q : ℕ). head_in (slice_set heads into g) q t ≡ differ (head_in heads q t) ((q == into) && head_in heads from t)) (sym e)
            (ap (λ (h : Heads). has_head h t) (get_or-set_same heads into g no_heads headed) ∙ head t less
            ∙ sym (ap (λ b. differ (head_in heads into t) (b && head_in heads from t)) (eq-eqb into into refl)))
        | inr n ↦
            ap (λ (h : Heads). has_head h t) (get_or-set_other heads into r g no_heads n)
            ∙ sym (ap (λ b. differ (head_in heads r t) (b && head_in heads from t)) (ne_eqb r into n) ∙ differ-false_r (head_in heads r t))
      ];
      rises = λ top all r. elim (cases_eq r into) [
        | inl e ↦ subst (λ (q : ℕ). RiseWithin 1 (get_or (slice_set words into z) q []) top) (sym e)
            (subst (λ (xs : List ℕ). RiseWithin 1 xs top) (sym (get_or-set_same words into z [] inside)) (rises top (all into) (all from)))
        | inr n ↦ subst (λ (xs : List ℕ). RiseWithin 1 xs top) (sym (get_or-set_other words into r z [] n)) (all r)
      ];
    }

-- a bit that is added where the tests pass, twice
added_again : (x f e y : Bool) → differ (differ x (f && y)) (e && y) ≡ differ x (differ f e && y)
added_again x f e y = differ-assoc x (f && y) (e && y) ∙ ap (differ x) (sym (differ-and f e y))

-- a word is added to one more row
pub adds-more : (from r : ℕ) (f g : ℕ → Bool) (words mid new : List (List ℕ)) (heads headed last : List Heads) → f from ≡ false
    → ((q : ℕ) → g q ≡ differ (f q) (q == r)) → AddsRow from f words mid heads headed → AddsRow from (λ q. q == r) mid new headed last
    → AddsRow from g words new heads last
adds-more from r f g words mid new heads headed last out tests first second =
    let same_word : (i : ℕ) → word_in mid from i ≡ word_in words from i =
    λ i. first.words_are from i ∙ ap (λ b. differ (word_in words from i) (b && word_in words from i)) out ∙ differ-false_r (word_in words from i) in
    let same_head : (t : ℕ) → t < 192 → head_in headed from t ≡ head_in heads from t =
    λ t less. first.heads_are from t less ∙ ap (λ b. differ (head_in heads from t) (b && head_in heads from t)) out ∙ differ-false_r (head_in heads from t) in
    record {
      size = record { words_long = second.size.words_long ∙ first.size.words_long; heads_long = second.size.heads_long ∙ first.size.heads_long };
      words_are = λ q i.
          second.words_are q i
          ∙ ap (λ b. differ (word_in mid q i) ((q == r) && b)) (same_word i)
          ∙ ap (λ (b : Bool). differ b ((q == r) && word_in words from i)) (first.words_are q i)
          ∙ added_again (word_in words q i) (f q) (q == r) (word_in words from i)
          ∙ ap (λ b. differ (word_in words q i) (b && word_in words from i)) (sym (tests q));
      heads_are = λ q t less.
          second.heads_are q t less
          ∙ ap (λ b. differ (head_in headed q t) ((q == r) && b)) (same_head t less)
          ∙ ap (λ (b : Bool). differ b ((q == r) && head_in heads from t)) (first.heads_are q t less)
          ∙ added_again (head_in heads q t) (f q) (q == r) (head_in heads from t)
          ∙ ap (λ b. differ (head_in heads q t) (b && head_in heads from t)) (sym (tests q));
      rises = λ top all. second.rises top (first.rises top all);
    }

-- the same rows pass
pub adds-same : (from : ℕ) (f g : ℕ → Bool) (words new : List (List ℕ)) (heads headed : List Heads) → ((q : ℕ) → g q ≡ f q)
    → AddsRow from f words new heads headed → AddsRow from g words new heads headed
adds-same from f g words new heads headed tests adds =
    record {
      size = adds.size;
      words_are = λ q i. adds.words_are q i ∙ ap (λ b. differ (word_in words q i) (b && word_in words from i)) (sym (tests q));
      heads_are = λ q t less. adds.heads_are q t less ∙ ap (λ b. differ (head_in heads q t) (b && head_in heads from t)) (sym (tests q));
      rises = adds.rises;
    }

-- nothing was added yet
pub adds-none : (from : ℕ) (g : ℕ → Bool) (words : List (List ℕ)) (heads : List Heads) → ((q : ℕ) → g q ≡ false) → AddsRow from g words words heads heads
adds-none from g words heads tests =
    record {
      size = record { words_long = refl; heads_long = refl };
      words_are = λ q i. sym (ap (λ b. differ (word_in words q i) (b && word_in words from i)) (tests q) ∙ differ-false_r (word_in words q i));
      heads_are = λ q t less. sym (ap (λ b. differ (head_in heads q t) (b && head_in heads from t)) (tests q) ∙ differ-false_r (head_in heads q t));
      rises = λ top all. all;
    }

and-none : (b : Bool) → (b && false) ≡ false
and-none true = refl
and-none false = refl

lt_self : (r : ℕ) → nat_lt r r ≡ false
lt_self r = grind (arith, nat_tests)

lt_next : (r : ℕ) → nat_lt r (r + 1) ≡ true
lt_next r = grind (arith, nat_tests)

lt_other : (q r : ℕ) → q ≢ r → nat_lt q (r + 1) ≡ nat_lt q r
lt_other q r n = elim (cases_lt q r) [
  | inl less ↦ (let a : nat_lt q (r + 1) ≡ true = grind (arith, nat_tests) in let b : nat_lt q r ≡ true = grind (arith, nat_tests) in a ∙ sym b)
  | inr ge ↦ (let past : r + 1 ≤ q = omega arith in let a : nat_lt q (r + 1) ≡ false = grind (arith, nat_tests) in let b : nat_lt q r ≡ false = grind (arith, nat_tests) in a ∙ sym b)
]

-- of the rows below r + 1 that pass, row r is one
pub one_more : (p : ℕ → Bool) (r : ℕ) → p r ≡ true → (q : ℕ) → (nat_lt q (r + 1) && p q) ≡ differ (nat_lt q r && p q) (q == r)
one_more p r yes' q =
    elim (cases_eq q r) [
      | inl e ↦ subst (λ (x : ℕ). (nat_lt x (r + 1) && p x) ≡ differ (nat_lt x r && p x) (x == r)) (sym e)
          (ap (λ b. b && p r) (lt_next r) ∙ yes' ∙ sym (ap (λ b. differ (b && p r) (r == r)) (lt_self r) ∙ eq-eqb r r refl))
      | inr n ↦ ap (λ b. b && p q) (lt_other q r n) ∙ sym (ap (differ (nat_lt q r && p q)) (ne_eqb q r n) ∙ differ-false_r (nat_lt q r && p q))
    ]

-- or none
pub none_more : (p : ℕ → Bool) (r : ℕ) → p r ≡ false → (q : ℕ) → (nat_lt q (r + 1) && p q) ≡ (nat_lt q r && p q)
none_more p r no' q =
    elim (cases_eq q r) [
      | inl e ↦ subst (λ (x : ℕ). (nat_lt x (r + 1) && p x) ≡ (nat_lt x r && p x)) (sym e)
          (ap (λ b. nat_lt r (r + 1) && b) no' ∙ and-none (nat_lt r (r + 1)) ∙ sym (ap (λ b. nat_lt r r && b) no' ∙ and-none (nat_lt r r)))
      | inr n ↦ ap (λ b. b && p q) (lt_other q r n)
    ]

-- the head of row r is as it was while only rows below r have got a word
pub head_kept : (from r place : ℕ) (words mid : List (List ℕ)) (heads headed : List Heads) → place < 192
    → AddsRow from (λ q. nat_lt q r && head_in heads q place) words mid heads headed → head_in headed r place ≡ head_in heads r place
head_kept from r place words mid heads headed less adds =
    adds.heads_are r place less
    ∙ ap (λ b. differ (head_in heads r place) ((b && head_in heads r place) && head_in heads from place)) (lt_self r)
    ∙ differ-false_r (head_in heads r place)

pub self_out : (p : ℕ → Bool) (spare r : ℕ) → r ≤ spare → (nat_lt spare r && p spare) ≡ false
self_out p spare r le = let out : nat_lt spare r ≡ false = grind (arith, nat_tests) in ap (λ b. b && p spare) out

-- an element that was read
pub element_is : (xs : List (List ℕ)) (i : ℕ) (x : List ℕ) → x ≡ get_or xs i x → i < length xs → x ≡ get_or xs i []
element_is xs i x is inside = is ∙ get_or_default xs i x [] inside

-- one row has become its sum with another, by what was read
pub adds-read : (from into : ℕ) (words : List (List ℕ)) (z x y : List ℕ) (heads : List Heads) (g : Heads) → into < length words → into < length heads
    → x ≡ get_or words into [] → y ≡ get_or words from []
    → ((i : ℕ) → has_odd z i ≡ differ (has_odd x i) (has_odd y i))
    → ((top : ℕ) → RiseWithin 1 x top → RiseWithin 1 y top → RiseWithin 1 z top)
    → ((t : ℕ) → t < 192 → has_head g t ≡ differ (head_in heads into t) (head_in heads from t))
    → AddsRow from (λ r. r == into) words (slice_set words into z) heads (slice_set heads into g)
adds-read from into words z x y heads g inside headed x_is y_is sum rises head =
    adds-row from into words z heads g inside headed
    (λ i. sum i ∙ ap (λ (xs : List ℕ). differ (has_odd xs i) (has_odd y i)) x_is ∙ ap (λ (ys : List ℕ). differ (word_in words into i) (has_odd ys i)) y_is)
    (λ top a b. rises top (subst (λ (xs : List ℕ). RiseWithin 1 xs top) (sym x_is) a) (subst (λ (ys : List ℕ). RiseWithin 1 ys top) (sym y_is) b))
    head

none_at : (t : ℕ) → has_head no_heads t ≡ false
none_at t = elim (cases_lt t 64) [
  | inl first ↦ head-low no_heads t first ∙ none_set t
  | inr past ↦ elim (cases_lt t 128) [
    | inl second ↦ head-middle no_heads t past second ∙ none_set (t - 64)
    | inr third ↦ head-high no_heads t third ∙ none_set (t - 128)
  ]
]

-- where there are no heads none is taken away
pub none_there : (t : ℕ) (b : Bool) → has_head no_heads t ≡ (has_head no_heads t && b)
none_there t b = none_at t ∙ sym (ap (λ x. x && b) (none_at t))

-- one more word without heads
pub more_none : (xs : List Heads) (h : Heads) → ((t : ℕ) → has_head h t ≡ false) → ((r t : ℕ) → head_in xs r t ≡ false) → (r t : ℕ) → head_in (xs ++ h ∷ []) r t ≡ false
more_none [] h clear none zero t = clear t
more_none [] h clear none (suc r) t = none_at t
more_none (x ∷ xs) h clear none zero t = none 0 t
more_none (x ∷ xs) h clear none (suc r) t = more_none xs h clear (λ q k. none (suc q) k) r t
