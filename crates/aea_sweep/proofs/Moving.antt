-- Words that go from place to place.
use Rattle.std.proofs.Common.{◌≡◌, ◌≢◌, ℕ, ◌<◌, inl, inr, Bool, false, ◌&&◌, ◌==◌, cond, refl, sym, ◌∙◌, ap, subst, arith}
use Rattle.std.proofs.lemmas.Bool.{cases_lt, cases_eq, eq-eqb, ne_eqb}
use Rattle.aea_lattice.specs.declared.blocks.BlockId.{BlockId}
use Rattle.aea_lattice.specs.declared.grid.Lattice.{Lattice}
use Rattle.aea_lattice.specs.Parity.{differ}
use Rattle.aea_lattice.proofs.Odd.{same_test, differ-false_r}
use Rattle.aea_gauss_laws.specs.Parities.{odd_below}
use Rattle.aea_gauss_laws.proofs.Columns.{and-false, odd_below-same, odd_below-differ, odd_below-one}
use Rattle.aea_sweep.specs.Sweep.{IsOpen, AreWords, sum_of_words}
use Rattle.aea_sweep.proofs.StepLaws.{moved, MovesWord, EmptyMatters}
use Rattle.aea_sweep.proofs.Steps.{open_none}

-- one term of a sum is taken out
pub one_out : (f : ℕ → Bool) (t m : ℕ) → t < m → (g : ℕ → Bool) → g t ≡ false → ((r : ℕ) → r ≢ t → g r ≡ f r) → odd_below f m ≡ differ (odd_below g m) (f t)
one_out f t m less g off same =
    odd_below-same f (λ r. differ (g r) ((r == t) && f t)) m
    (λ r r_less. elim (cases_eq r t) [
      | inl here ↦ sym (ap (λ x. differ x ((r == t) && f t)) (ap g here ∙ off) ∙ ap (λ x. x && f t) (eq-eqb r t here) ∙ ap f (sym here))
      | inr other ↦ sym (ap (λ x. differ (g r) (x && f t)) (ne_eqb r t other) ∙ differ-false_r (g r) ∙ same r other)
    ])
    ∙ odd_below-differ g (λ r. (r == t) && f t) m
    ∙ ap (differ (odd_below g m))
    (odd_below-one (λ r. (r == t) && f t) m t less (λ r r_less other. ap (λ x. x && f t) (ne_eqb r t other)) ∙ ap (λ x. x && f t) (eq-eqb t t refl))

module _ (l : Lattice) (m : ℕ) (seen : BlockId → Bool) (rows : ℕ) (words : ℕ → ℕ → Bool) (t q : ℕ) (t_less : t < rows) (q_less : q < rows) (apart : t ≢ q)
    (empty : (i : ℕ) → words t i ≡ false) (w : AreWords l m seen rows words) where
  abbrev left : ℕ → ℕ → Bool
  left r i = cond (r == q) false (words r i)

  at_t : (r i : ℕ) → r ≡ t → moved words q t r i ≡ words q i
  at_t r i same = ap (λ x. cond x (words q i) (cond (r == q) false (words r i))) (eq-eqb r t same)

  off_t : (r i : ℕ) → r ≢ t → moved words q t r i ≡ left r i
  off_t r i other = ap (λ x. cond x (words q i) (cond (r == q) false (words r i))) (ne_eqb r t other)

  at_q : (r i : ℕ) → r ≡ q → left r i ≡ false
  at_q r i same = ap (λ x. cond x false (words r i)) (eq-eqb r q same)

  off_q : (r i : ℕ) → r ≢ q → left r i ≡ words r i
  off_q r i other = ap (λ x. cond x false (words r i)) (ne_eqb r q other)

  row : (r : ℕ) → r < rows → IsOpen l m seen (moved words q t r)
  row r less = elim (cases_eq r t) [
    | inl same ↦ subst (IsOpen l m seen) (sym (same_test (moved words q t r) (words q) (λ i. at_t r i same))) (w.each q q_less)
    | inr other ↦ elim (cases_eq r q) [
      | inl same ↦ subst (IsOpen l m seen) (sym (same_test (moved words q t r) (λ i. false) (λ i. off_t r i other ∙ at_q r i same))) (open_none l m seen)
      | inr else' ↦ subst (IsOpen l m seen) (sym (same_test (moved words q t r) (words r) (λ i. off_t r i other ∙ off_q r i else'))) (w.each r less)
    ]
  ]

  module _ (v : ℕ → Bool) (o : IsOpen l m seen v) where
    abbrev p : ℕ → Bool
    p = (w.whole v o).0

    abbrev picks : ℕ → Bool
    picks r = cond (r == t) (p q) (p r)

    abbrev rest : ℕ → ℕ → Bool
    rest i r = p r && left r i

    old_sum : (i : ℕ) → sum_of_words rows words p i ≡ differ (odd_below (rest i) rows) (p q && words q i)
    old_sum i =
        one_out (λ r. p r && words r i) q rows q_less (rest i)
        (ap (λ x. p q && x) (at_q q i refl) ∙ and-false (p q))
        (λ r other. ap (λ x. p r && x) (off_q r i other))

    new_sum : (i : ℕ) → sum_of_words rows (moved words q t) picks i ≡ differ (odd_below (rest i) rows) (p q && words q i)
    new_sum i =
        one_out (λ r. picks r && moved words q t r i) t rows t_less (rest i)
        (ap (λ x. p t && x) (off_q t i apart ∙ empty i) ∙ and-false (p t))
        (λ r other. sym (ap (λ x. cond x (p q) (p r) && moved words q t r i) (ne_eqb r t other) ∙ ap (λ x. p r && x) (off_t r i other)))
        ∙ ap (differ (odd_below (rest i) rows)) (ap (λ x. cond x (p q) (p t) && moved words q t t i) (eq-eqb t t refl) ∙ ap (λ x. p q && x) (at_t t i refl))

    sums : (i : ℕ) → v i ≡ sum_of_words rows (moved words q t) picks i
    sums i = (w.whole v o).1 i ∙ old_sum i ∙ sym (new_sum i)

pub moves_word : MovesWord
moves_word l m seen rows words t q t_less q_less apart empty w = record {
  each = row l m seen rows words t q t_less q_less apart empty w;
  whole = λ v o. (picks l m seen rows words t q t_less q_less apart empty w v o, sums l m seen rows words t q t_less q_less apart empty w v o);
}

pub empty_matters : EmptyMatters
empty_matters l m seen rows words empty = record {
  put = λ w. record {
    each = λ r less. elim (cases_lt r rows) [
      | inl below ↦ w.each r below
      | inr top ↦ (let same : rows ≡ r = omega arith in
          subst (λ k. IsOpen l m seen (words k)) same (subst (IsOpen l m seen) (sym (same_test (words rows) (λ i. false) empty)) (open_none l m seen)))
    ];
    whole = λ v o.
        (let some = w.whole v o in
        (some.0, λ i. some.1 i ∙ sym (ap (differ (sum_of_words rows words some.0 i)) (ap (λ x. some.0 rows && x) (empty i) ∙ and-false (some.0 rows)) ∙ differ-false_r (sum_of_words rows words some.0 i))));
  };
  taken = λ w. record {
    each = λ r less. w.each r (omega arith);
    whole = λ v o.
        (let some = w.whole v o in
        (some.0, λ i. some.1 i ∙ ap (differ (sum_of_words rows words some.0 i)) (ap (λ x. some.0 rows && x) (empty i) ∙ and-false (some.0 rows)) ∙ differ-false_r (sum_of_words rows words some.0 i)));
  };
}
