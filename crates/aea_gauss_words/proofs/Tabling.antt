-- Tables of the sums of eight rows: from the sums of some rows to those of one more.
use Rattle.std.proofs.Common.{◌≡◌, ℕ, zero, suc, ◌+◌, ◌*◌, ◌^◌, ◌<◌, ◌≤◌, inl, inr, ◌⊎◌, Bool, cond, List, length, get_or, bit_xor, refl, sym, ◌∙◌, ap, subst, arith}
use Rattle.std.proofs.lemmas.Bool.{cases_Bool, cases_eq, cond-true, cond-false}
use Rattle.std.proofs.Math.Nat.{pow-suc}
use Rattle.std.specs.Int.Bits.{xor_zero_r}
use Rattle.aea_gauss_words.specs.Tables.{Sets, xor_of, place_of, IsTable}

-- the entries before x have their second ones
pub record Doubled (base size begin len x : ℕ) (words old new : List ℕ) : Type 0 where
  pub long : length new ≡ length old
  pub kept : (k : ℕ) → (k < base + size * 64) ⊎ (base + (x + size) * 64 ≤ k) → get_or new k 0 ≡ get_or old k 0
  pub added : (y k : ℕ) → y < x → k < len → get_or new (base + (y + size) * 64 + k) 0 ≡ bit_xor (get_or old (base + y * 64 + k) 0) (get_or words (begin + k) 0)

pub doubled_none : (base size begin len : ℕ) (words old : List ℕ) → Doubled base size begin len 0 words old old
doubled_none base size begin len words old = record { long = refl; kept = λ k side. refl; added = λ y k less k_less. absurd (omega arith) }

pub doubled_more : (base size begin len x : ℕ) (words old now new : List ℕ) → x < size → len ≤ 64 → Doubled base size begin len x words old now
    → Sets (base + (x + size) * 64) len (λ k. bit_xor (get_or now (base + x * 64 + k) 0) (get_or words (begin + k) 0)) now new
    → Doubled base size begin len (x + 1) words old new
doubled_more base size begin len x words old now new less short before sets = record {
  long = sets.long ∙ before.long;
  kept = λ k side. elim side [
    | inl below ↦ sets.outside k (inl (omega arith)) ∙ before.kept k (inl below)
    | inr above ↦ sets.outside k (inr (omega arith)) ∙ before.kept k (inr (omega arith))
  ];
  added = λ y k y_less k_less. elim (cases_eq y x) [
    | inl same ↦
        ap (λ j. get_or new (base + (j + size) * 64 + k) 0) same
        ∙ sets.inside k k_less
        ∙ ap (λ z. bit_xor z (get_or words (begin + k) 0)) (before.kept (base + x * 64 + k) (inl (omega arith)))
        ∙ ap (λ j. bit_xor (get_or old (base + j * 64 + k) 0) (get_or words (begin + k) 0)) (sym same)
    | inr other ↦
        sets.outside (base + (y + size) * 64 + k) (inl (omega arith)) ∙ before.added y k (omega arith) k_less
  ];
}

-- the place of a set of the first n rows is below 2^n
pub place_below : (picks : ℕ → Bool) (n : ℕ) → place_of picks n < 2 ^ n
place_below picks zero = omega arith
place_below picks (suc n) =
    let low = place_below picks n in
    let twice : 2 ^ suc n ≡ 2 ^ n * 2 = pow-suc 2 n in
    elim (cases_Bool (picks n)) [
      | inl yes' ↦ (let here : cond (picks n) (2 ^ n) 0 ≡ 2 ^ n = cond-true (picks n) (2 ^ n) 0 yes' in omega arith)
      | inr no' ↦ (let here : cond (picks n) (2 ^ n) 0 ≡ 0 = cond-false (picks n) (2 ^ n) 0 no' in omega arith)
    ]

-- 2^s is at most 128 where s is below 8
pub pow_small : (s : ℕ) → s < 8 → 2 ^ s ≤ 128
pow_small zero less = omega arith
pow_small (suc zero) less = omega arith
pow_small (suc (suc zero)) less = omega arith
pow_small (suc (suc (suc zero))) less = omega arith
pow_small (suc (suc (suc (suc zero)))) less = omega arith
pow_small (suc (suc (suc (suc (suc zero))))) less = omega arith
pow_small (suc (suc (suc (suc (suc (suc zero)))))) less = omega arith
pow_small (suc (suc (suc (suc (suc (suc (suc zero))))))) less = omega arith
pow_small (suc (suc (suc (suc (suc (suc (suc (suc s)))))))) less = absurd (omega arith)

-- the sums of the first rows are in the table
pub record Filling (base n len : ℕ) (row : ℕ → ℕ → ℕ) (old new : List ℕ) : Type 0 where
  pub long : length new ≡ length old
  pub kept : (k : ℕ) → (k < base) ⊎ (base + 16384 ≤ k) → get_or new k 0 ≡ get_or old k 0
  pub sums : IsTable base n len row new

pub filling_none : (base len : ℕ) (row : ℕ → ℕ → ℕ) (old new : List ℕ) → len ≤ 64 → Sets base len (λ k. 0) old new → Filling base 0 len row old new
filling_none base len row old new short sets = record {
  long = sets.long;
  kept = λ k side. elim side [ inl below ↦ sets.outside k (inl below) | inr above ↦ sets.outside k (inr (omega arith)) ];
  sums = λ picks k less. (let at : base + 0 * 64 + k ≡ base + k = omega arith in ap (λ i. get_or new i 0) at ∙ sets.inside k less);
}

-- where the sums of n rows are in the table, n below 8, and after them are put those with row n added,
-- the sums of n + 1 rows are in it
pub filling_more : (base n len size begin : ℕ) (row : ℕ → ℕ → ℕ) (words old now new : List ℕ) → n < 8 → len ≤ 64 → size ≡ 2 ^ n → size ≤ 128 → Filling base n len row old now
    → length new ≡ length now
    → ((k : ℕ) → (k < base + size * 64) ⊎ (base + 2 * size * 64 ≤ k) → get_or new k 0 ≡ get_or now k 0)
    → ((x k : ℕ) → x < size → k < len → get_or new (base + (x + size) * 64 + k) 0 ≡ bit_xor (get_or now (base + x * 64 + k) 0) (get_or words (begin + k) 0))
    → ((k : ℕ) → k < len → get_or words (begin + k) 0 ≡ row n k) → Filling base (suc n) len row old new
filling_more base n len size begin row words old now new n_less short is most before long kept added row_is = record {
  long = long ∙ before.long;
  kept = λ k side. elim side [
    | inl below ↦ kept k (inl (omega arith)) ∙ before.kept k (inl below)
    | inr above ↦ kept k (inr (omega arith)) ∙ before.kept k (inr above)
  ];
  sums = λ picks k less.
      (let p : ℕ = place_of picks n in
      let low : p < size = (let l = place_below picks n in omega arith) in
      elim (cases_Bool (picks n)) [
        | inl yes' ↦
            ap (λ b. get_or new (base + (p + b) * 64 + k) 0) (cond-true (picks n) (2 ^ n) 0 yes' ∙ sym is)
            ∙ added p k low less
            ∙ ap (λ x. bit_xor x (get_or words (begin + k) 0)) (before.sums picks k less)
            ∙ ap (bit_xor (xor_of picks (λ s. row s k) n)) (row_is k less ∙ sym (cond-true (picks n) (row n k) 0 yes'))
        | inr no' ↦
            ap (λ b. get_or new (base + (p + b) * 64 + k) 0) (cond-false (picks n) (2 ^ n) 0 no')
            ∙ (let at : base + (p + 0) * 64 + k ≡ base + p * 64 + k = omega arith in ap (λ i. get_or new i 0) at)
            ∙ kept (base + p * 64 + k) (inl (omega arith))
            ∙ before.sums picks k less
            ∙ sym (ap (bit_xor (xor_of picks (λ s. row s k) n)) (cond-false (picks n) (row n k) 0 no') ∙ xor_zero_r (xor_of picks (λ s. row s k) n))
      ]);
}

-- a table stays where nothing of it changes
pub table_kept : (base len : ℕ) (row : ℕ → ℕ → ℕ) (old new : List ℕ) → len ≤ 64 → ((k : ℕ) → base ≤ k → k < base + 16384 → get_or new k 0 ≡ get_or old k 0)
    → IsTable base 8 len row old → IsTable base 8 len row new
table_kept base len row old new short kept is picks k less =
    let low = place_below picks 8 in
    kept (base + place_of picks 8 * 64 + k) (omega arith) (omega arith) ∙ is picks k less

-- where the first t tables are in place, table t is now, and nothing outside it changed, the first t + 1 are in place
pub tables_more : (row : ℕ → ℕ → ℕ → ℕ) (len t : ℕ) (old new : List ℕ) → len ≤ 64
    → ((k : ℕ) → (k < t * 16384) ⊎ (t * 16384 + 16384 ≤ k) → get_or new k 0 ≡ get_or old k 0)
    → IsTable (t * 16384) 8 len (row t) new → ((u : ℕ) → u < t → IsTable (u * 16384) 8 len (row u) old)
    → (u : ℕ) → u < t + 1 → IsTable (u * 16384) 8 len (row u) new
tables_more row len t old new short kept here before u less = elim (cases_eq u t) [
  | inl same ↦ subst (λ v. IsTable (v * 16384) 8 len (row v) new) (sym same) here
  | inr other ↦ table_kept (u * 16384) len (row u) old new short (λ k from to. kept k (inl (omega arith))) (before u (omega arith))
]
