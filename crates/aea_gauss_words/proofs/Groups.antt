-- Several rows at once: rows of a group that lack each other's leads are added to the other rows in one step, as a table of
-- their sums does it. It is the same as clearing by one row after the other.
use Rattle.std.proofs.Common.{◌≡◌, ◌≢◌, ℕ, zero, suc, ◌+◌, ◌<◌, ◌≤◌, ◌⊎◌, inl, inr, Bool, false, not, ◌&&◌, ◌==◌, sym, ◌∙◌, ap, subst, arith}
use Rattle.std.proofs.lemmas.Bool.{cases_lt, cases_eq, eq-eqb, ne_eqb}
use Rattle.aea_lattice.specs.Parity.{differ}
use Rattle.aea_gauss_laws.specs.Parities.{odd_below}
use Rattle.aea_lattice.proofs.Odd.{differ-assoc, differ-false_r}
use Rattle.aea_gauss_laws.proofs.Columns.{odd_below-none, odd_below-same, and-false}
use Rattle.aea_gauss_words.specs.Matrices.{IsLead, IsCleared, SameSums, ReducedTo}
use Rattle.aea_gauss_words.proofs.Elimination.{AddsRow, added_sums, sums_through, reduced_more, reduced_nothing, lead_same}

-- A row of the group: it has a lead that no other row of the group has, and it is added to the rows outside that have it;
-- or it has no column and is added to none.
pub data GroupRow (rows cols lo n : ℕ) (old hit : ℕ → ℕ → Bool) (g : ℕ) : Type 0 where
  led : (c : ℕ) → IsLead cols (old g) c → ((h : ℕ) → lo ≤ h → h < lo + n → h ≢ g → old h c ≡ false)
      → ((r : ℕ) → r < rows → (r < lo) ⊎ (lo + n ≤ r) → hit g r ≡ old r c) → GroupRow rows cols lo n old hit g
  bare : ((k : ℕ) → k < cols → old g k ≡ false) → ((r : ℕ) → hit g r ≡ false) → GroupRow rows cols lo n old hit g

-- the rows with the first t rows of the group added
abbrev pub added : ℕ → (ℕ → ℕ → Bool) → (ℕ → ℕ → Bool) → ℕ → ℕ → ℕ → Bool
added lo old hit t r k = differ (old r k) (odd_below (λ s. hit (lo + s) r && old (lo + s) k) t)

module _ (rows cols lo n : ℕ) (old hit : ℕ → ℕ → Bool) (fits : lo + n ≤ rows)
    (inside : (g r : ℕ) → lo ≤ r → r < lo + n → hit g r ≡ false)
    (each : (g : ℕ) → lo ≤ g → g < lo + n → GroupRow rows cols lo n old hit g) where
  -- the rows of the group stay
  own : (t g k : ℕ) → lo ≤ g → g < lo + n → added lo old hit t g k ≡ old g k
  own t g k first last =
      ap (differ (old g k))
      (odd_below-none (λ s. hit (lo + s) g && old (lo + s) k) t (λ s less. ap (λ b. b && old (lo + s) k) (inside (lo + s) g first last)))
      ∙ differ-false_r (old g k)

  -- at the lead of a later row of the group the others are as they were
  at_lead : (t r c : ℕ) → t ≤ n → ((s : ℕ) → s < t → old (lo + s) c ≡ false) → added lo old hit t r c ≡ old r c
  at_lead t r c le none =
      ap (differ (old r c))
      (odd_below-none (λ s. hit (lo + s) r && old (lo + s) c) t (λ s less. ap (λ b. hit (lo + s) r && b) (none s less) ∙ and-false (hit (lo + s) r)))
      ∙ differ-false_r (old r c)

  step : (t r k : ℕ) → t < n → added lo old hit (suc t) r k ≡ differ (added lo old hit t r k) (hit (lo + t) r && added lo old hit t (lo + t) k)
  step t r k less =
      sym (differ-assoc (old r k) (odd_below (λ s. hit (lo + s) r && old (lo + s) k) t) (hit (lo + t) r && old (lo + t) k))
      ∙ ap (λ b. differ (added lo old hit t r k) (hit (lo + t) r && b)) (sym (own t (lo + t) k (omega arith) (omega arith)))

  adds : (t : ℕ) → t < n → AddsRow rows cols (added lo old hit t) (added lo old hit (suc t)) (lo + t) (hit (lo + t))
  adds t less = record { not_itself = inside (lo + t) (lo + t) (omega arith) (omega arith); each = λ r k r_less k_less. step t r k less }

  sums : (t : ℕ) → t ≤ n → SameSums rows cols old (added lo old hit t)
  sums zero le = λ v. (λ h. (h.0, λ k less. h.1 k less ∙ same h.0 k), λ h. (h.0, λ k less. h.1 k less ∙ sym (same h.0 k)))
    where
      same : (p : ℕ → Bool) (k : ℕ) → odd_below (λ i. p i && old i k) rows ≡ odd_below (λ i. p i && added lo old hit 0 i k) rows
      same p k = odd_below-same (λ i. p i && old i k) (λ i. p i && added lo old hit 0 i k) rows (λ i less. ap (λ b. p i && b) (sym (differ-false_r (old i k))))
  sums (suc t) le =
      sums_through rows cols old (added lo old hit t) (added lo old hit (suc t)) (sums t (omega arith))
      (added_sums rows cols (added lo old hit t) (added lo old hit (suc t)) (lo + t) (hit (lo + t)) (omega arith) (adds t (omega arith)))

  -- the rows of the group before a row lack its lead
  cleared : (t c : ℕ) → t < n → ((h : ℕ) → lo ≤ h → h < lo + n → h ≢ lo + t → old h c ≡ false)
      → ((r : ℕ) → r < rows → (r < lo) ⊎ (lo + n ≤ r) → hit (lo + t) r ≡ old r c)
      → IsCleared rows cols (added lo old hit t) (added lo old hit (suc t)) (lo + t) c
  cleared t c less alone where_hit r k r_less k_less =
      step t r k less ∙ ap (λ b. differ (added lo old hit t r k) (b && added lo old hit t (lo + t) k)) (hits r r_less)
    where
      apart : (s : ℕ) → s < t → old (lo + s) c ≡ false
      apart s s_less = alone (lo + s) (omega arith) (omega arith) (λ e. omega arith)

      outside : (r : ℕ) → r < rows → (r < lo) ⊎ (lo + n ≤ r) → r ≢ lo + t → hit (lo + t) r ≡ (not (r == lo + t) && added lo old hit t r c)
      outside r r_less side other =
          where_hit r r_less side ∙ sym (ap (λ b. not b && added lo old hit t r c) (ne_eqb r (lo + t) other) ∙ at_lead t r c (omega arith) apart)

      hits : (r : ℕ) → r < rows → hit (lo + t) r ≡ (not (r == lo + t) && added lo old hit t r c)
      hits r r_less =
          elim (cases_lt r lo) [
            | inl before ↦ outside r r_less (inl before) (λ e. omega arith)
            | inr after ↦ elim (cases_lt r (lo + n)) [
              | inr past ↦ outside r r_less (inr past) (λ e. omega arith)
              | inl within ↦
                  inside (lo + t) r after within
                  ∙ elim (cases_eq r (lo + t)) [
                    | inl same ↦ sym (ap (λ b. not b && added lo old hit t r c) (eq-eqb r (lo + t) same))
                    | inr other ↦ sym (ap (λ b. not b && added lo old hit t r c) (ne_eqb r (lo + t) other) ∙ at_lead t r c (omega arith) apart ∙ alone r after within other)
                  ]
            ]
          ]

  reduced : (t : ℕ) → t ≤ n → ReducedTo lo rows cols old → ReducedTo (lo + t) rows cols (added lo old hit t)
  reduced zero le before = λ p j c p_less j_less other h.
      differ-false_r (old j c) ∙ before p j c (omega arith) j_less other (lead_same cols (added lo old hit 0 p) (old p) c (λ k k_less. differ-false_r (old p k)) h)
  reduced (suc t) le before =
      let now = reduced t (omega arith) before in
      let next : suc (lo + t) ≡ lo + suc t = omega arith in
      subst (λ m. ReducedTo m rows cols (added lo old hit (suc t))) next
      (elim (each (lo + t) (omega arith) (omega arith)) [
        | led c lead alone where_hit ↦
            reduced_more rows cols (added lo old hit t) (added lo old hit (suc t)) (lo + t) c (omega arith)
            (lead_same cols (old (lo + t)) (added lo old hit t (lo + t)) c (λ k k_less. sym (own t (lo + t) k (omega arith) (omega arith))) lead)
            now (cleared t c (omega arith) alone where_hit)
        | bare none unhit ↦ (λ p j c p_less j_less other h.
            step t j c (omega arith)
            ∙ ap (λ b. differ (added lo old hit t j c) (b && added lo old hit t (lo + t) c)) (unhit j)
            ∙ differ-false_r (added lo old hit t j c)
            ∙ reduced_nothing rows cols (added lo old hit t) (lo + t) (λ k k_less. own t (lo + t) k (omega arith) (omega arith) ∙ none k k_less) now p j c p_less j_less other
            (lead_same cols (added lo old hit (suc t) p) (added lo old hit t p) c
            (λ k k_less. step t p k (omega arith) ∙ ap (λ b. differ (added lo old hit t p k) (b && added lo old hit t (lo + t) k)) (unhit p) ∙ differ-false_r (added lo old hit t p k)) h))
      ])

  -- One step for the whole group keeps the sums, and the leads of its rows are then alone too.
  pub group_sums : SameSums rows cols old (added lo old hit n)
  group_sums = sums n (omega arith)

  -- where the least columns of the first lo rows were alone, with the group added those of the first lo + n are
  pub group_reduced : ReducedTo lo rows cols old → ReducedTo (lo + n) rows cols (added lo old hit n)
  group_reduced = reduced n (omega arith)
