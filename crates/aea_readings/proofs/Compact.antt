-- Matrices without their empty columns: a reduction of the columns that are used is a reduction of all.
use Rattle.std.proofs.Common.{◌≡◌, ℕ, ◌<◌, Bool, false, ◌&&◌, Option, Some, None, refl, sym, ◌∙◌, ap, arith}
use Rattle.std.proofs.lemmas.Bool.{true≢false}
use Rattle.aea_gauss_laws.proofs.Columns.{odd_below-same, odd_below-none, and-false}
use Rattle.aea_gauss_words.specs.Matrices.{sum_of_rows, IsLead, IsReduction}

-- The used columns in rising order, and the place of each: the place at which a column is, if it is used.
pub record AreUsed (n big : ℕ) (used : ℕ → ℕ) (place : ℕ → Option ℕ) : Type 0 where
  pub rising : (a b : ℕ) → a < b → b < n → used a < used b
  pub inside : (a : ℕ) → a < n → used a < big
  pub found : (k a : ℕ) → place k ≡ Some a → (a < n) × (used a ≡ k)
  pub placed : (a : ℕ) → a < n → place (used a) ≡ Some a

-- the matrix of the used columns alone
abbrev pub compact : (ℕ → ℕ) → (ℕ → ℕ → Bool) → ℕ → ℕ → Bool
compact used m r a = m r (used a)

-- the entry at a place, and none where there is no place
abbrev pub at_place : (ℕ → Bool) → Option ℕ → Bool
at_place row None = false
at_place row (Some a) = row a

-- the matrix with the unused columns empty
abbrev pub expand : (ℕ → Option ℕ) → (ℕ → ℕ → Bool) → ℕ → ℕ → Bool
expand place m r k = at_place (m r) (place k)

module _ (rows n big : ℕ) (used : ℕ → ℕ) (place : ℕ → Option ℕ) (are : AreUsed n big used place) (old new : ℕ → ℕ → Bool)
    (empty : (r k : ℕ) → r < rows → k < big → place k ≡ None → old r k ≡ false) where
  -- with the unused columns empty, the matrix has at the used column of place a what the small one has at a
  pub there : (r a : ℕ) → a < n → expand place new r (used a) ≡ new r a
  there r a less = ap (at_place (new r)) (are.placed a less)

  -- a sum of the one matrix is a sum of the other, at a column that is used and at one that is not
  out_at : (v p q : ℕ → Bool) → ((k : ℕ) → k < big → v k ≡ sum_of_rows rows old p k) → ((a : ℕ) → a < n → v (used a) ≡ sum_of_rows rows new q a)
      → (k : ℕ) → k < big → (o : Option ℕ) → place k ≡ o → v k ≡ sum_of_rows rows (expand place new) q k
  out_at v p q is by k less None at =
      is k less
      ∙ odd_below-none (λ r. p r && old r k) rows (λ r r_less. ap (λ b. p r && b) (empty r k r_less less at) ∙ and-false (p r))
      ∙ sym (odd_below-none (λ r. q r && expand place new r k) rows (λ r r_less. ap (λ o. q r && at_place (new r) o) at ∙ and-false (q r)))
  out_at v p q is by k less (Some a) at =
      let here = are.found k a at in
      ap v (sym here.1) ∙ by a here.0
      ∙ odd_below-same (λ r. q r && new r a) (λ r. q r && expand place new r k) rows (λ r r_less. ap (λ o. q r && at_place (new r) o) (sym at))

  back_at : (v p q : ℕ → Bool) → ((k : ℕ) → k < big → v k ≡ sum_of_rows rows (expand place new) q k) → ((a : ℕ) → a < n → v (used a) ≡ sum_of_rows rows (compact used old) p a)
      → (k : ℕ) → k < big → (o : Option ℕ) → place k ≡ o → v k ≡ sum_of_rows rows old p k
  back_at v p q is by k less None at =
      is k less
      ∙ odd_below-none (λ r. q r && expand place new r k) rows (λ r r_less. ap (λ o. q r && at_place (new r) o) at ∙ and-false (q r))
      ∙ sym (odd_below-none (λ r. p r && old r k) rows (λ r r_less. ap (λ b. p r && b) (empty r k r_less less at) ∙ and-false (p r)))
  back_at v p q is by k less (Some a) at =
      let here = are.found k a at in
      ap v (sym here.1) ∙ by a here.0 ∙ ap (sum_of_rows rows old p) here.1

  pub lead_at : (r : ℕ → Bool) (c : ℕ) → IsLead big (λ k. at_place r (place k)) c → (o : Option ℕ) → place c ≡ o → (a : ℕ) × (place c ≡ Some a) × IsLead n r a
  lead_at r c h None at = absurd (true≢false (sym h.here ∙ ap (at_place r) at))
  lead_at r c h (Some a) at =
      let here = are.found c a at in (
        a,
        at,
        record {
          below = here.0;
          here = sym (ap (at_place r) at) ∙ h.here;
          least = λ b less.
              sym (ap (at_place r) (are.placed b (let a_less = here.0 in omega arith)))
              ∙ h.least (used b) (let up = are.rising b a less here.0 in let eq = here.1 in omega arith);
        },
      )

  -- A reduction of the used columns is one of all columns.
  pub expanded : IsReduction rows n (compact used old) new → IsReduction rows big old (expand place new)
  expanded reduction = record {
    same_sums = λ v. (
      λ sum.
          (let small = (reduction.same_sums (λ a. v (used a))).0 (sum.0, λ a less. sum.1 (used a) (are.inside a less)) in
          (small.0, λ k less. out_at v sum.0 small.0 sum.1 small.1 k less (place k) refl)),
      λ sum.
          (let small = (reduction.same_sums (λ a. v (used a))).1
          (sum.0, λ a less. sum.1 (used a) (are.inside a less) ∙ odd_below-same (λ r. sum.0 r && expand place new r (used a)) (λ r. sum.0 r && new r a) rows (λ r r_less. ap (λ b. sum.0 r && b) (there r a less))) in
          (small.0, λ k less. back_at v small.0 sum.0 sum.1 small.1 k less (place k) refl)),
    );
    reduced = λ i j c i_less j_less other lead.
        (let at = lead_at (new i) c lead (place c) refl in
        ap (at_place (new j)) at.1 ∙ reduction.reduced i j at.0 i_less j_less other at.2);
  }
