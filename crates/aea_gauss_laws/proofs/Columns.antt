-- Linear algebra of tests on the numbers below a bound, over the field of two elements.
use Rattle.std.proofs.Common.{◌≡◌, ◌≢◌, ℕ, zero, suc, ◌<◌, ◌⊎◌, Bool, true, false, ◌&&◌, ◌==◌, cond, List, [], ◌∷◌, map, refl, sym, ◌∙◌, ap, arith, inl, inr}
use Rattle.std.proofs.lemmas.Bool.{cases_Bool, cases_lt, eq-eqb, ne_eqb}
use Rattle.aea_lattice.specs.Parity.{differ}
use Rattle.aea_gauss_laws.specs.Parities.{odd_below}
use Rattle.aea_lattice.proofs.Odd.{differ-comm, differ-assoc, differ-self, differ-false_r, differ-and, Each, Each-more, Each-map, Each-from_map}

-- tests that agree on all numbers below m have the same parity there
pub odd_below-same : (f g : ℕ → Bool) (m : ℕ) → ((k : ℕ) → k < m → f k ≡ g k) → odd_below f m ≡ odd_below g m
odd_below-same f g zero h = refl
odd_below-same f g (suc m) h =
    ap (λ b. differ b (f m)) (odd_below-same f g m (λ k less. h k (omega arith))) ∙ ap (differ (odd_below g m)) (h m (omega arith))

-- where no number below m passes, the parity is even
pub odd_below-none : (f : ℕ → Bool) (m : ℕ) → ((k : ℕ) → k < m → f k ≡ false) → odd_below f m ≡ false
odd_below-none f zero h = refl
odd_below-none f (suc m) h =
    ap (λ b. differ b (f m)) (odd_below-none f m (λ k less. h k (omega arith))) ∙ h m (omega arith)

differ-swap : (a b c d : Bool) → differ (differ a b) (differ c d) ≡ differ (differ a c) (differ b d)
differ-swap a b c d =
    differ-assoc a b (differ c d)
    ∙ ap (differ a) (sym (differ-assoc b c d) ∙ ap (λ x. differ x d) (differ-comm b c) ∙ differ-assoc c b d)
    ∙ sym (differ-assoc a c (differ b d))

-- the parity of where two tests differ is the XOR of their parities
pub odd_below-differ : (f g : ℕ → Bool) (m : ℕ) → odd_below (λ k. differ (f k) (g k)) m ≡ differ (odd_below f m) (odd_below g m)
odd_below-differ f g zero = refl
odd_below-differ f g (suc m) =
    ap (λ b. differ b (differ (f m) (g m))) (odd_below-differ f g m) ∙ differ-swap (odd_below f m) (odd_below g m) (f m) (g m)

-- the parity of a test together with one fixed condition is odd exactly where that holds and the test's is odd
pub odd_below-and : (b : Bool) (f : ℕ → Bool) (m : ℕ) → odd_below (λ k. b && f k) m ≡ (b && odd_below f m)
odd_below-and true f m = refl
odd_below-and false f m = odd_below-none (λ k. false) m (λ k less. refl)

-- only c counts
pub odd_below-one : (f : ℕ → Bool) (m c : ℕ) → c < m → ((k : ℕ) → k < m → k ≢ c → f k ≡ false) → odd_below f m ≡ f c
odd_below-one f zero c less others = absurd (omega arith)
odd_below-one f (suc m) c less others =
    elim (at_top c m less) [
      | inl same ↦
          ap (λ b. differ b (f m)) (odd_below-none f m (λ k below. others k (omega arith) (λ e. omega arith))) ∙ ap f (sym same)
      | inr below ↦
          ap (λ b. differ b (f m)) (odd_below-one f m c below (λ k k_less other. others k (omega arith) other))
          ∙ ap (differ (f c)) (others m (omega arith) (λ e. omega arith)) ∙ differ-false_r (f c)
    ]
  where
    at_top : (c m : ℕ) → c < suc m → (c ≡ m) ⊎ (c < m)
    at_top c m less = elim (cases_lt c m) [ inl h ↦ inr h | inr h ↦ inl (omega arith) ]

-- how two tests meet below m
abbrev pub meets : (ℕ → Bool) → (ℕ → Bool) → ℕ → Bool
meets r x m = odd_below (λ k. r k && x k) m

-- a test with the top number cleared by p
abbrev cleared : (ℕ → Bool) → ℕ → (ℕ → Bool) → ℕ → Bool
cleared p m r k = differ (r k) (r m && p k)

abbrev with_top : (ℕ → Bool) → ℕ → Bool → ℕ → Bool
with_top x m b k = cond (k == m) b (x k)

with_top-below : (x : ℕ → Bool) (m : ℕ) (b : Bool) (k : ℕ) → k < m → with_top x m b k ≡ x k
with_top-below x m b k less = let e : (k == m) ≡ false = ne_eqb k m (λ same. omega arith) in rw e refl

with_top-at : (x : ℕ → Bool) (m : ℕ) (b : Bool) → with_top x m b m ≡ b
with_top-at x m b = let e : (m == m) ≡ true = eq-eqb m m refl in rw e refl

pub meets-top : (r x : ℕ → Bool) (m : ℕ) (b : Bool) → meets r (with_top x m b) (suc m) ≡ differ (meets r x m) (r m && b)
meets-top r x m b =
    ap (λ a. differ a (r m && with_top x m b m))
    (odd_below-same (λ k. r k && with_top x m b k) (λ k. r k && x k) m (λ k less. ap (λ y. r k && y) (with_top-below x m b k less)))
    ∙ ap (λ y. differ (meets r x m) (r m && y)) (with_top-at x m b)

and-assoc : (a b c : Bool) → ((a && b) && c) ≡ (a && (b && c))
and-assoc true b c = refl
and-assoc false b c = refl

meets-cleared : (p r x : ℕ → Bool) (m : ℕ) → meets (cleared p m r) x m ≡ differ (meets r x m) (r m && meets p x m)
meets-cleared p r x m =
    odd_below-same (λ k. cleared p m r k && x k) (λ k. differ (r k && x k) (r m && (p k && x k))) m
    (λ k less. differ-and (r k) (r m && p k) (x k) ∙ ap (differ (r k && x k)) (and-assoc (r m) (p k) (x k)))
    ∙ odd_below-differ (λ k. r k && x k) (λ k. r m && (p k && x k)) m
    ∙ ap (differ (meets r x m)) (odd_below-and (r m) (λ k. p k && x k) m)

-- With the pivot's own part added at the top, a test meets as its cleared one does.
meets-back : (p r x : ℕ → Bool) (m : ℕ) → meets r (with_top x m (meets p x m)) (suc m) ≡ meets (cleared p m r) x m
meets-back p r x m = meets-top r x m (meets p x m) ∙ sym (meets-cleared p r x m)

-- a family of tests that has the empty one and sums
pub record IsSpace (P : (ℕ → Bool) → Type 0) : Type 0 where
  pub none : P (λ k. false)
  pub sum : (u v : ℕ → Bool) → P u → P v → P (λ k. differ (u k) (v k))

-- Either a test of the family is the target below m, or a test meets all rows evenly and the target oddly.
pub data Outcome (m : ℕ) (P : (ℕ → Bool) → Type 0) (rows : List (ℕ → Bool)) (target : ℕ → Bool) : Type 0 where
  reached : (v : ℕ → Bool) → P v → ((k : ℕ) → k < m → v k ≡ target k) → Outcome m P rows target
  missed : (x : ℕ → Bool) → Each (λ r. meets r x m ≡ false) rows → meets target x m ≡ true → Outcome m P rows target

-- a row that has the number, or none has
data Pivot (P : (ℕ → Bool) → Type 0) (m : ℕ) (rows : List (ℕ → Bool)) : Type 0 where
  found : (p : ℕ → Bool) → P p → p m ≡ true → Pivot P m rows
  none : Each (λ r. r m ≡ false) rows → Pivot P m rows

find : (P : (ℕ → Bool) → Type 0) (m : ℕ) (rows : List (ℕ → Bool)) → Each P rows → Pivot P m rows
find P m [] each = none tt
find P m (r ∷ rows) each =
    elim (cases_Bool (r m)) [
      | inl has ↦ found r each.0 has
      | inr lacks ↦ elim (find P m rows each.1) [
        | found p hp has ↦ found p hp has
        | none all ↦ none (lacks, all)
      ]
    ]

-- the family of those that lack m
abbrev Lacks : ((ℕ → Bool) → Type 0) → ℕ → (ℕ → Bool) → Type 0
Lacks P m v = P v × (v m ≡ false)

space-lacks : (P : (ℕ → Bool) → Type 0) (m : ℕ) → IsSpace P → IsSpace (Lacks P m)
space-lacks P m s = record {
  none = (s.none, refl);
  sum = λ u v hu hv. (s.sum u v hu.0 hv.0, ap (λ b. differ b (v m)) hu.1 ∙ hv.1);
}

-- a family that has the empty test and sums has, with a test, also that test together with one fixed condition
pub P-scaled : (P : (ℕ → Bool) → Type 0) → IsSpace P → (b : Bool) (p : ℕ → Bool) → P p → P (λ k. b && p k)
P-scaled P s true p hp = hp
P-scaled P s false p hp = s.none

pub differ-true : (b : Bool) → differ b b ≡ false
differ-true true = refl
differ-true false = refl

-- with true as second, a conjunction is its first
pub and-true : (b : Bool) → (b && true) ≡ b
and-true true = refl
and-true false = refl

-- with false as second, a conjunction is false
pub and-false : (b : Bool) → (b && false) ≡ false
and-false true = refl
and-false false = refl

lacks-cleared : (P : (ℕ → Bool) → Type 0) → IsSpace P → (p : ℕ → Bool) (m : ℕ) → P p → p m ≡ true → (r : ℕ → Bool) → P r → Lacks P m (cleared p m r)
lacks-cleared P s p m hp has r hr = (
  s.sum r (λ k. r m && p k) hr (P-scaled P s (r m) p hp),
  ap (λ b. differ (r m) (r m && b)) has ∙ ap (differ (r m)) (and-true (r m)) ∙ differ-true (r m),
)

differ-back : (a b : Bool) → differ (differ a b) b ≡ a
differ-back a b = differ-assoc a b b ∙ ap (differ a) (differ-self b) ∙ differ-false_r a

upto : (m : ℕ) (v t : ℕ → Bool) → ((k : ℕ) → k < m → v k ≡ t k) → v m ≡ t m → (k : ℕ) → k < suc m → v k ≡ t k
upto m v t below here k less =
    elim (cases_lt k m) [
      | inl h ↦ below k h
      | inr h ↦ let same : m ≡ k = omega arith in ap v (sym same) ∙ here ∙ ap t same
    ]

with_pivot : (m : ℕ) (P : (ℕ → Bool) → Type 0) (rows : List (ℕ → Bool)) (t p : ℕ → Bool) → IsSpace P → P p → p m ≡ true
    → Outcome m (Lacks P m) (map (cleared p m) rows) (cleared p m t) → Outcome (suc m) P rows t
with_pivot m P rows t p s hp has (reached v hv is) =
    reached (λ k. differ (v k) (t m && p k)) (s.sum v (λ k. t m && p k) hv.0 (P-scaled P s (t m) p hp))
    (upto m (λ k. differ (v k) (t m && p k)) t
    (λ k less. ap (λ b. differ b (t m && p k)) (is k less) ∙ differ-back (t k) (t m && p k))
    (ap (λ b. differ b (t m && p m)) hv.1 ∙ ap (λ b. t m && b) has ∙ and-true (t m)))
with_pivot m P rows t p s hp has (missed x even odd) =
    missed (with_top x m (meets p x m))
    (Each-more (λ r. meets (cleared p m r) x m ≡ false) (λ r. meets r (with_top x m (meets p x m)) (suc m) ≡ false) rows
    (λ r h. meets-back p r x m ∙ h)
    (Each-from_map (cleared p m) (λ r. meets r x m ≡ false) rows even))
    (meets-back p t x m ∙ odd)

no_pivot : (m : ℕ) (P : (ℕ → Bool) → Type 0) (rows : List (ℕ → Bool)) (t : ℕ → Bool) → Each (λ r. r m ≡ false) rows
    → t m ≡ false → Outcome m (Lacks P m) rows t → Outcome (suc m) P rows t
no_pivot m P rows t all here (reached v hv is) = reached v hv.0 (upto m v t is (hv.1 ∙ sym here))
no_pivot m P rows t all here (missed x even odd) =
    missed (with_top x m false)
    (Each-more (λ r. meets r x m ≡ false) (λ r. meets r (with_top x m false) (suc m) ≡ false) rows
    (λ r h. meets-top r x m false ∙ ap (λ b. differ b (r m && false)) h ∙ and-false (r m)) even)
    (meets-top t x m false ∙ ap (differ (meets t x m)) (and-false (t m)) ∙ differ-false_r (meets t x m) ∙ odd)

alone : (r : ℕ → Bool) (m : ℕ) → meets r (with_top (λ k. false) m true) (suc m) ≡ r m
alone r m =
    meets-top r (λ k. false) m true
    ∙ ap (λ b. differ b (r m && true)) (odd_below-none (λ k. r k && false) m (λ k less. and-false (r k)))
    ∙ and-true (r m)

each-lacks : (P : (ℕ → Bool) → Type 0) (m : ℕ) (rows : List (ℕ → Bool)) → Each P rows → Each (λ r. r m ≡ false) rows → Each (Lacks P m) rows
each-lacks P m [] hp hl = tt
each-lacks P m (r ∷ rows) hp hl = ((hp.0, hl.0), each-lacks P m rows hp.1 hl.1)

-- where a family with the empty test and sums has all the rows, one of its tests is the target below m,
-- or some test meets all rows evenly and the target oddly below m
pub alternative : (m : ℕ) (P : (ℕ → Bool) → Type 0) → IsSpace P → (rows : List (ℕ → Bool)) → Each P rows → (t : ℕ → Bool) → Outcome m P rows t
alternative zero P s rows each t = reached (λ k. false) s.none (λ k less. absurd (omega arith))
alternative (suc m) P s rows each t =
    elim (find P m rows each) [
      | found p hp has ↦
          with_pivot m P rows t p s hp has
          (alternative m (Lacks P m) (space-lacks P m s) (map (cleared p m) rows)
          (Each-map (cleared p m) (Lacks P m) rows (Each-more P (λ r. Lacks P m (cleared p m r)) rows (λ r hr. lacks-cleared P s p m hp has r hr) each))
          (cleared p m t))
      | none all ↦ elim (cases_Bool (t m)) [
        | inl odd ↦
            missed (with_top (λ k. false) m true)
            (Each-more (λ r. r m ≡ false) (λ r. meets r (with_top (λ k. false) m true) (suc m) ≡ false) rows (λ r h. alone r m ∙ h) all)
            (alone t m ∙ odd)
        | inr even ↦ no_pivot m P rows t all even (alternative m (Lacks P m) (space-lacks P m s) rows (each-lacks P m rows each all) t)
      ]
    ]
