-- Reduced matrices: leads, and the sums of rows.
use Rattle.std.proofs.Common.{◌≡◌, ◌≢◌, ℕ, zero, suc, ◌<◌, Bool, true, false, not, ◌&&◌, ◌==◌, refl, sym, ◌∙◌, ap, subst, arith, inl, inr}
use Rattle.std.proofs.lemmas.Bool.{cases_Bool, cases_lt, and_parts, eq-eqb, ne_eqb, true≢false, false≢true}
use Rattle.aea_lattice.specs.Parity.{differ}
use Rattle.aea_gauss_laws.specs.Parities.{odd_below}
use Rattle.aea_gauss_laws.proofs.Columns.{odd_below-none, odd_below-one, odd_below-differ, odd_below-and, and-true, and-false, meets, IsSpace, P-scaled}
use Rattle.aea_lattice.proofs.Odd.{same_test, differ-and}
use Rattle.aea_gauss_words.specs.Matrices.{sum_of_rows, IsSumOfRows, IsLead, IsReduced}

-- the least number below m that passes, if there is one
pub data Least (f : ℕ → Bool) (m : ℕ) : Type 0 where
  least : (c : ℕ) → c < m → f c ≡ true → ((k : ℕ) → k < c → f k ≡ false) → Least f m
  nothing : ((k : ℕ) → k < m → f k ≡ false) → Least f m

below_top : (f : ℕ → Bool) (m : ℕ) → ((k : ℕ) → k < m → f k ≡ false) → f m ≡ false → (k : ℕ) → k < suc m → f k ≡ false
below_top f m all here k less =
    elim (cases_lt k m) [
      | inl h ↦ all k h
      | inr h ↦ let same : m ≡ k = omega arith in ap f (sym same) ∙ here
    ]

-- some number below m passes and none before it, or none below m passes
pub find_least : (f : ℕ → Bool) (m : ℕ) → Least f m
find_least f zero = nothing (λ k less. absurd (omega arith))
find_least f (suc m) =
    elim (find_least f m) [
      | least c less here below ↦ least c (omega arith) here below
      | nothing all ↦ elim (cases_Bool (f m)) [
        | inl here ↦ least m (omega arith) here all
        | inr not_here ↦ nothing (below_top f m all not_here)
      ]
    ]

-- a number below m that passes
pub record Some_below (f : ℕ → Bool) (m : ℕ) : Type 0 where
  pub place : ℕ
  pub below : place < m
  pub here : f place ≡ true

-- where the parity below m is odd, some number below m passes
pub odd_some : (f : ℕ → Bool) (m : ℕ) → odd_below f m ≡ true → Some_below f m
odd_some f m h =
    elim (find_least f m) [
      | least c less here below ↦ record { place = c; below = less; here = here }
      | nothing all ↦ absurd (false≢true (sym (odd_below-none f m all) ∙ h))
    ]

-- whether the two numbers differ
abbrev pub not_same : ℕ → ℕ → Bool
not_same k c = not (k == c)

-- Where the parity is even and one number passes, another one does.
pub odd_other : (f : ℕ → Bool) (m c : ℕ) → odd_below f m ≡ false → c < m → f c ≡ true → Some_below (λ k. f k && not_same k c) m
odd_other f m c even less here =
    elim (find_least (λ k. f k && not_same k c) m) [
      | least k k_less k_here below ↦ record { place = k; below = k_less; here = k_here }
      | nothing all ↦
          absurd (false≢true
          (sym even
          ∙ odd_below-one f m c less
          (λ k k_less other. sym (and-true (f k)) ∙ ap (λ b. f k && b) (sym (other_true k c other)) ∙ all k k_less)
          ∙ here))
    ]
  where
    other_true : (k c : ℕ) → k ≢ c → not_same k c ≡ true
    other_true k c other = ap not (ne_eqb k c other)

-- ---- sums of rows

pub lead_picks : (rows cols : ℕ) (m : ℕ → ℕ → Bool) → IsReduced rows cols m → (i c : ℕ) → i < rows → IsLead cols (m i) c → (p : ℕ → Bool)
    → sum_of_rows rows m p c ≡ p i
lead_picks rows cols m reduced i c less lead p =
    odd_below-one (λ j. p j && m j c) rows i less
    (λ j j_less other. ap (λ b. p j && b) (reduced i j c less j_less (λ e. other (sym e)) lead) ∙ and-false (p j))
    ∙ ap (λ b. p i && b) lead.here ∙ and-true (p i)

-- two least columns of the same row are one
pub lead_unique : (cols : ℕ) (r : ℕ → Bool) (c d : ℕ) → IsLead cols r c → IsLead cols r d → c ≡ d
lead_unique cols r c d hc hd =
    elim (cases_lt c d) [
      | inl lt ↦ absurd (true≢false (sym hc.here ∙ hd.least c lt))
      | inr ge ↦ elim (cases_lt d c) [
        | inl lt ↦ absurd (true≢false (sym hd.here ∙ hc.least d lt))
        | inr le ↦ omega arith
      ]
    ]

-- a row that has this column as its lead
pub record HasLead (rows cols : ℕ) (m : ℕ → ℕ → Bool) (c : ℕ) : Type 0 where
  pub row : ℕ
  pub below : row < rows
  pub lead : IsLead cols (m row) c

lead_of_row : (rows cols : ℕ) (m : ℕ → ℕ → Bool) → IsReduced rows cols m → (v p : ℕ → Bool)
    → ((k : ℕ) → k < cols → v k ≡ sum_of_rows rows m p k) → (c : ℕ) → c < cols → ((k : ℕ) → k < c → v k ≡ false)
    → (i : ℕ) → i < rows → p i ≡ true → m i c ≡ true → HasLead rows cols m c
lead_of_row rows cols m reduced v p is c less below i i_less picked has =
    elim (find_least (m i) (suc c)) [
      | least d d_less d_here d_below ↦
          (let lead : IsLead cols (m i) d = record { below = omega arith; here = d_here; least = d_below } in
          elim (cases_lt d c) [
            | inl before ↦ absurd (true≢false (sym picked ∙ sym (lead_picks rows cols m reduced i d i_less lead p) ∙ sym (is d (omega arith)) ∙ below d before))
            | inr after ↦ (let same : d ≡ c = omega arith in record { row = i; below = i_less; lead = subst (IsLead cols (m i)) same lead })
          ])
      | nothing all ↦ absurd (true≢false (sym has ∙ all c (omega arith)))
    ]

-- The least column of a sum of rows is the lead of a row.
pub lead_of_sum : (rows cols : ℕ) (m : ℕ → ℕ → Bool) → IsReduced rows cols m → (v : ℕ → Bool) → IsSumOfRows rows cols m v
    → (c : ℕ) → c < cols → v c ≡ true → ((k : ℕ) → k < c → v k ≡ false) → HasLead rows cols m c
lead_of_sum rows cols m reduced v sum c less here below =
    let some = odd_some (λ i. sum.0 i && m i c) rows (sym (sum.1 c less) ∙ here) in
    let both = and_parts (sum.0 some.place) (m some.place c) some.here in
    lead_of_row rows cols m reduced v sum.0 sum.1 c less below some.place some.below both.0 both.1

-- each row is the XOR of a set of rows
pub row_is_sum_of_rows : (rows cols : ℕ) (m : ℕ → ℕ → Bool) (i : ℕ) → i < rows → IsSumOfRows rows cols m (m i)
row_is_sum_of_rows rows cols m i less = (
  λ j. j == i,
  λ k k_less.
      sym (odd_below-one (λ j. (j == i) && m j k) rows i less (λ j j_less other. ap (λ b. b && m j k) (ne_eqb j i other))
      ∙ ap (λ b. b && m i k) (eq-eqb i i refl)),
)

-- a family that has the rows has their sums
pub space_sum : (P : (ℕ → Bool) → Type 0) → IsSpace P → (m : ℕ → ℕ → Bool) (rows : ℕ) → ((i : ℕ) → i < rows → P (m i)) → (p : ℕ → Bool)
    → P (λ k. odd_below (λ i. p i && m i k) rows)
space_sum P s m zero each p = s.none
space_sum P s m (suc rows) each p =
    s.sum (λ k. odd_below (λ i. p i && m i k) rows) (λ k. p rows && m rows k)
    (space_sum P s m rows (λ i less. each i (omega arith)) p)
    (P-scaled P s (p rows) (m rows) (each rows (omega arith)))

-- how a sum of rows meets a test
pub meets_sum : (m : ℕ → ℕ → Bool) (p x : ℕ → Bool) (rows n : ℕ) → meets (λ k. odd_below (λ i. p i && m i k) rows) x n ≡ odd_below (λ i. p i && meets (m i) x n) rows
meets_sum m p x zero n = odd_below-none (λ k. false) n (λ k less. refl)
meets_sum m p x (suc rows) n =
    same_below (λ k. differ (odd_below (λ i. p i && m i k) rows) (p rows && m rows k) && x k)
    (λ k. differ (odd_below (λ i. p i && m i k) rows && x k) (p rows && (m rows k && x k))) n
    (λ k. differ-and (odd_below (λ i. p i && m i k) rows) (p rows && m rows k) (x k)
    ∙ ap (differ (odd_below (λ i. p i && m i k) rows && x k)) (and-assoc (p rows) (m rows k) (x k)))
    ∙ odd_below-differ (λ k. odd_below (λ i. p i && m i k) rows && x k) (λ k. p rows && (m rows k && x k)) n
    ∙ ap (λ b. differ b (odd_below (λ k. p rows && (m rows k && x k)) n)) (meets_sum m p x rows n)
    ∙ ap (differ (odd_below (λ i. p i && meets (m i) x n) rows)) (odd_below-and (p rows) (λ k. m rows k && x k) n)
  where
    and-assoc : (a b c : Bool) → ((a && b) && c) ≡ (a && (b && c))
    and-assoc true b c = refl
    and-assoc false b c = refl

    same_below : (f g : ℕ → Bool) (n : ℕ) → ((k : ℕ) → f k ≡ g k) → odd_below f n ≡ odd_below g n
    same_below f g n h = ap (λ t. odd_below t n) (same_test f g h)
