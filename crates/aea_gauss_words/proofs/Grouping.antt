-- Groups of thirty-two rows: what tables add to the words is what the group's rows add to the matrix.
use Rattle.std.proofs.Common.{◌≡◌, ◌≢◌, ℕ, zero, suc, ◌+◌, ◌-◌, ◌*◌, ◌/◌, ◌%◌, ◌<◌, ◌≤◌, inl, inr, ◌⊎◌, Bool, true, false, not, ◌&&◌, ◌==◌, cond, List, ◌++◌, take, drop, length, get_or, bit_xor, Option, Some, None, MatchOption, refl, sym, ◌∙◌, ap, subst, arith}
use Rattle.std.specs.Int.{bit_at}
use Rattle.std.proofs.lemmas.Nat.Bits.{bit_at_xor, bit_at-lt, bit_at-zero}
use Rattle.std.proofs.Math.Nat.{mul-le-mul_right}
use Rattle.std.proofs.lemmas.Bool.{cases_lt}
use Rattle.std.proofs.lemmas.List.{get_or_append_left, get_or-append-add, get_or-take, get_or-drop, length-take-le, length-drop}
use Rattle.aea_lattice.specs.Parity.{differ}
use Rattle.aea_lattice.proofs.Odd.{differ-assoc, differ-false_r}
use Rattle.aea_lattice.proofs.Bits.{bit_test}
use Rattle.aea_gauss_laws.specs.Parities.{odd_below}
use Rattle.aea_gauss_laws.proofs.Columns.{odd_below-same, odd_below-none, and-false}
use Rattle.aea_gauss_words.specs.Words.{is_bit, bit_matrix}
use Rattle.aea_gauss_words.specs.Matrices.{IsSumOfRows, sum_of_rows, IsLead, IsReduction, SameSums, ReducedTo}
use Rattle.aea_gauss_words.specs.Tables.{word_of, xor_of, has_lead, within, is_hit, four, added_word, AddsGroup, AreGroupLeads, AreInside, ReducesGroup, LeavesReduced}
use Rattle.aea_gauss_words.proofs.Reduced.{row_is_sum_of_rows}
use Rattle.aea_gauss_words.proofs.Elimination.{sums_through, sums_same, reduced_none, lead_same}
use Rattle.aea_gauss_words.proofs.Groups.{GroupRow, led, bare, added, group_sums, group_reduced}
use Rattle.aea_gauss_words.proofs.Adding.{within_yes, within_low, within_high}

-- ---- the bits of sums

bit_of_two : (x y j : ℕ) → (bit_at (bit_xor x y) j == 1) ≡ differ (bit_at x j == 1) (bit_at y j == 1)
bit_of_two x y j = ap (λ b. b == 1) (bit_at_xor x y j) ∙ bit_test (bit_at x j) (bit_at y j) (bit_at-lt x j) (bit_at-lt y j)

bit_of_sum : (p : ℕ → Bool) (f : ℕ → ℕ) (n j : ℕ) → (bit_at (xor_of p f n) j == 1) ≡ odd_below (λ s. p s && (bit_at (f s) j == 1)) n
bit_of_sum p f zero j = ap (λ b. b == 1) (bit_at-zero j)
bit_of_sum p f (suc n) j =
    bit_of_two (xor_of p f n) (cond (p n) (f n) 0) j
    ∙ ap (λ b. differ b (bit_at (cond (p n) (f n) 0) j == 1)) (bit_of_sum p f n j)
    ∙ ap (differ (odd_below (λ s. p s && (bit_at (f s) j == 1)) n)) (picked (p n))
  where
    picked : (b : Bool) → (bit_at (cond b (f n) 0) j == 1) ≡ (b && (bit_at (f n) j == 1))
    picked true = refl
    picked false = ap (λ b. b == 1) (bit_at-zero j)

pub odd_split : (f : ℕ → Bool) (a b : ℕ) → odd_below f (a + b) ≡ differ (odd_below f a) (odd_below (λ s. f (a + s)) b)
odd_split f a zero = ap (odd_below f) (let z : a + 0 ≡ a = omega arith in z) ∙ sym (differ-false_r (odd_below f a))
odd_split f a (suc b) =
    ap (odd_below f) (let z : a + suc b ≡ suc (a + b) = omega arith in z)
    ∙ ap (λ x. differ x (f (a + b))) (odd_split f a b)
    ∙ differ-assoc (odd_below f a) (odd_below (λ s. f (a + s)) b) (f (a + b))

odd_thirty_two : (f : ℕ → Bool)
    → odd_below f 32 ≡ differ (differ (odd_below (λ s. f s) 8) (odd_below (λ s. f (8 + s)) 8)) (differ (odd_below (λ s. f (16 + s)) 8) (odd_below (λ s. f (24 + s)) 8))
odd_thirty_two f =
    odd_split f 24 8
    ∙ ap (λ b. differ b (odd_below (λ s. f (24 + s)) 8)) (odd_split f 16 8 ∙ ap (λ b. differ b (odd_below (λ s. f (16 + s)) 8)) (odd_split f 8 8))
    ∙ differ-assoc (differ (odd_below f 8) (odd_below (λ s. f (8 + s)) 8)) (odd_below (λ s. f (16 + s)) 8) (odd_below (λ s. f (24 + s)) 8)

-- to which rows row g of the group is added
abbrev pub hit_of : ℕ → List ℕ → ℕ → List (Option ℕ) → ℕ → ℕ → Bool
hit_of wide words lo leads g r = is_hit wide words lo leads r (g - lo)

pub bits_added : (wide : ℕ) (words new : List ℕ) (lo : ℕ) (leads : List (Option ℕ)) (r k : ℕ) → word_of wide new r (k / 64) ≡ added_word wide words lo leads r (k / 64)
    → bit_matrix wide new r k ≡ added lo (bit_matrix wide words) (hit_of wide words lo leads) 32 r k
bits_added wide words new lo leads r k is =
    let j = k % 64 in
    let w = k / 64 in
    let f : ℕ → Bool = λ s. hit_of wide words lo leads (lo + s) r && bit_matrix wide words (lo + s) k in
    let x : ℕ → ℕ = λ t. xor_of (λ s. is_hit wide words lo leads r (8 * t + s)) (λ s. word_of wide words (lo + 8 * t + s) w) 8 in
    let part : (t m : ℕ) → 8 * t ≡ m → (bit_at (x t) j == 1) ≡ odd_below (λ s. f (m + s)) 8 =
    λ t m e. bit_of_sum (λ s. is_hit wide words lo leads r (8 * t + s)) (λ s. word_of wide words (lo + 8 * t + s) w) 8 j
    ∙ odd_below-same (λ s. is_hit wide words lo leads r (8 * t + s) && (bit_at (word_of wide words (lo + 8 * t + s) w) j == 1)) (λ s. f (m + s)) 8
    (λ s less.
    (let a : 8 * t + s ≡ lo + (m + s) - lo = omega arith in
    let b : lo + 8 * t + s ≡ lo + (m + s) = omega arith in
    ap (λ q. is_hit wide words lo leads r q && (bit_at (word_of wide words (lo + 8 * t + s) w) j == 1)) a
    ∙ ap (λ q. is_hit wide words lo leads r (lo + (m + s) - lo) && bit_matrix wide words q k) b)) in
    ap (λ v. bit_at v j == 1) is
    ∙ bit_of_two (word_of wide words r w) (four x) j
    ∙ ap (differ (bit_matrix wide words r k))
    (bit_of_two (bit_xor (x 0) (x 1)) (bit_xor (x 2) (x 3)) j
    ∙ ap (λ b. differ b (bit_at (bit_xor (x 2) (x 3)) j == 1)) (bit_of_two (x 0) (x 1) j)
    ∙ ap (differ (differ (bit_at (x 0) j == 1) (bit_at (x 1) j == 1))) (bit_of_two (x 2) (x 3) j)
    ∙ ap (λ b. differ (differ b (bit_at (x 1) j == 1)) (differ (bit_at (x 2) j == 1) (bit_at (x 3) j == 1)))
    (part 0 0 refl ∙ odd_below-same (λ s. f (0 + s)) (λ s. f s) 8 (λ s less. ap f (let z : 0 + s ≡ s = omega arith in z)))
    ∙ ap (λ b. differ (differ (odd_below (λ s. f s) 8) b) (differ (bit_at (x 2) j == 1) (bit_at (x 3) j == 1))) (part 1 8 refl)
    ∙ ap (λ b. differ (differ (odd_below (λ s. f s) 8) (odd_below (λ s. f (8 + s)) 8)) (differ b (bit_at (x 3) j == 1))) (part 2 16 refl)
    ∙ ap (λ b. differ (differ (odd_below (λ s. f s) 8) (odd_below (λ s. f (8 + s)) 8)) (differ (odd_below (λ s. f (16 + s)) 8) b)) (part 3 24 refl)
    ∙ sym (odd_thirty_two f))

-- ---- the group in the matrix

module _ (rows wide lo : ℕ) (words new : List ℕ) (leads : List (Option ℕ)) (fits : lo + 32 ≤ rows) (are : AreGroupLeads wide words lo 32 leads)
    (adds : AddsGroup rows wide lo leads 0 rows words new)
    (alone : (g h c : ℕ) → lo ≤ g → g < lo + 32 → lo ≤ h → h < lo + 32 → g ≢ h → IsLead (64 * wide) (bit_matrix wide words g) c → bit_matrix wide words h c ≡ false) where
  abbrev m : ℕ → ℕ → Bool
  m = bit_matrix wide words

  abbrev hit : ℕ → ℕ → Bool
  hit = hit_of wide words lo leads

  inside : (g r : ℕ) → lo ≤ r → r < lo + 32 → hit g r ≡ false
  inside g r from_lo to_hi = ap (λ b. not b && has_lead wide words r (get_or leads (g - lo) None)) (within_yes lo (lo + 32) r from_lo to_hi)

  outside : (r : ℕ) → (r < lo) ⊎ (lo + 32 ≤ r) → within lo (lo + 32) r ≡ false
  outside r (inl before) = within_low lo (lo + 32) r before
  outside r (inr after) = within_high lo (lo + 32) r after

  row_of : (g : ℕ) → lo ≤ g → g < lo + 32 → (o : Option ℕ) → get_or leads (g - lo) None ≡ o
      → MatchOption o ((k : ℕ) → k < 64 * wide → m g k ≡ false) (λ c. IsLead (64 * wide) (m g) c) → GroupRow rows (64 * wide) lo 32 m hit g
  row_of g from_lo to_hi None is empty =
      bare empty (λ r. ap (λ o. not (within lo (lo + 32) r) && has_lead wide words r o) is ∙ and-false (not (within lo (lo + 32) r)))
  row_of g from_lo to_hi (Some c) is lead =
      led c lead (λ h h_from h_to other. alone g h c from_lo to_hi h_from h_to (λ e. other (sym e)) lead)
      (λ r r_less side. ap (λ o. not (within lo (lo + 32) r) && has_lead wide words r o) is ∙ ap (λ b. not b && m r c) (outside r side))

  each : (g : ℕ) → lo ≤ g → g < lo + 32 → GroupRow rows (64 * wide) lo 32 m hit g
  each g from_lo to_hi =
      let back : lo + (g - lo) ≡ g = omega arith in
      row_of g from_lo to_hi (get_or leads (g - lo) None) refl
      (subst (λ q. MatchOption (get_or leads (g - lo) None) ((k : ℕ) → k < 64 * wide → m q k ≡ false) (λ c. IsLead (64 * wide) (m q) c)) back (are (g - lo) (omega arith)))

  same : (r k : ℕ) → r < rows → k < 64 * wide → bit_matrix wide new r k ≡ added lo m hit 32 r k
  same r k r_less less =
      bits_added wide words new lo leads r k
      (adds r (k / 64) r_less (omega arith)
      ∙ ap (λ b. cond b (added_word wide words lo leads r (k / 64)) (word_of wide words r (k / 64))) (within_yes 0 rows r (omega arith) r_less))

  -- with the group added, whose rows lack each other's least columns, the XORs of sets of rows are the same
  pub new_sums : SameSums rows (64 * wide) m (bit_matrix wide new)
  new_sums =
      sums_through rows (64 * wide) m (added lo m hit 32) (bit_matrix wide new) (group_sums rows (64 * wide) lo 32 m hit fits inside each)
      (entries_sums rows (64 * wide) (added lo m hit 32) (bit_matrix wide new) (λ r k r_less less. sym (same r k r_less less)))
    where
      entries_half : (rows cols : ℕ) (a b : ℕ → ℕ → Bool) → ((r k : ℕ) → r < rows → k < cols → a r k ≡ b r k) → (v : ℕ → Bool) → IsSumOfRows rows cols a v → IsSumOfRows rows cols b v
      entries_half rows cols a b e v h =
          (h.0, λ k less. h.1 k less ∙ odd_below-same (λ i. h.0 i && a i k) (λ i. h.0 i && b i k) rows (λ i i_less. ap (λ x. h.0 i && x) (e i k i_less less)))

      entries_sums : (rows cols : ℕ) (a b : ℕ → ℕ → Bool) → ((r k : ℕ) → r < rows → k < cols → a r k ≡ b r k) → SameSums rows cols a b
      entries_sums rows cols a b e v = (entries_half rows cols a b e v, entries_half rows cols b a (λ r k r_less less. sym (e r k r_less less)) v)

  -- with such a group added, the least columns of the first lo + 32 rows are alone if those of the first lo were
  pub new_reduced : ReducedTo lo rows (64 * wide) m → ReducedTo (lo + 32) rows (64 * wide) (bit_matrix wide new)
  new_reduced before p j c p_less j_less other h =
      same j c j_less h.below
      ∙ group_reduced rows (64 * wide) lo 32 m hit fits inside each before p j c p_less j_less other
      (lead_same (64 * wide) (bit_matrix wide new p) (added lo m hit 32 p) c (λ k less. same p k (omega arith) less) h)

pub leads_inside : (wide : ℕ) (words : List ℕ) (lo : ℕ) (leads : List (Option ℕ)) → AreGroupLeads wide words lo 32 leads → AreInside wide leads
leads_inside wide words lo leads are s c less is = at (get_or leads s None) is (are s less)
  where
    at : (o : Option ℕ) → o ≡ Some c
        → MatchOption o ((k : ℕ) → k < 64 * wide → is_bit words ((lo + s) * wide) k ≡ false) (λ c. IsLead (64 * wide) (is_bit words ((lo + s) * wide)) c) → c < 64 * wide
    at None is h = absurd (cc)
    at (Some d) is h = (let one : d ≡ c = cc in subst (λ x. x < 64 * wide) one h.below)

-- ---- groups one after the other

pub leaves_none : (rows cols : ℕ) (m : ℕ → ℕ → Bool) → LeavesReduced rows cols 0 m m
leaves_none rows cols m = record { sums = sums_same rows cols m; reduced = reduced_none rows cols m }

-- a step that keeps the sums, and reduces the first `next` rows where the first n are reduced, leads on from n
-- to `next`
pub leaves_more : (rows cols n next : ℕ) (old now new : ℕ → ℕ → Bool) → LeavesReduced rows cols n old now → SameSums rows cols now new
    → (ReducedTo n rows cols now → ReducedTo next rows cols new) → LeavesReduced rows cols next old new
leaves_more rows cols n next old now new before sums reduced =
    record { sums = sums_through rows cols old now new before.sums sums; reduced = reduced before.reduced }

-- where the sums are kept and the least columns of all rows are alone, the rows are a reduction
pub leaves_all : (rows cols n : ℕ) (old new : ℕ → ℕ → Bool) → rows ≤ n → LeavesReduced rows cols n old new → IsReduction rows cols old new
leaves_all rows cols n old new all leaves =
    record { same_sums = leaves.sums; reduced = λ i j c i_less j_less other lead. leaves.reduced i j c (omega arith) j_less other lead }

-- ---- rows of a group that are reduced among themselves

module _ (rows cols lo : ℕ) (old new : ℕ → ℕ → Bool) (fits : lo + 32 ≤ rows)
    (others : (r k : ℕ) → r < rows → (r < lo) ⊎ (lo + 32 ≤ r) → k < cols → new r k ≡ old r k)
    (reduction : IsReduction 32 cols (λ s k. old (lo + s) k) (λ s k. new (lo + s) k)) where
  -- a sum in three parts
  in_parts : (m : ℕ → ℕ → Bool) (p : ℕ → Bool) (k : ℕ)
      → sum_of_rows rows m p k
      ≡ differ (differ (odd_below (λ i. p i && m i k) lo) (odd_below (λ s. p (lo + s) && m (lo + s) k) 32)) (odd_below (λ t. p (lo + 32 + t) && m (lo + 32 + t) k) (rows - (lo + 32)))
  in_parts m p k =
      ap (odd_below (λ i. p i && m i k)) (let z : rows ≡ lo + 32 + (rows - (lo + 32)) = omega arith in z)
      ∙ odd_split (λ i. p i && m i k) (lo + 32) (rows - (lo + 32))
      ∙ ap (λ b. differ b (odd_below (λ t. p (lo + 32 + t) && m (lo + 32 + t) k) (rows - (lo + 32)))) (odd_split (λ i. p i && m i k) lo 32)

  half : (a b : ℕ → ℕ → Bool) → ((r k : ℕ) → r < rows → (r < lo) ⊎ (lo + 32 ≤ r) → k < cols → b r k ≡ a r k)
      → ((v : ℕ → Bool) → IsSumOfRows 32 cols (λ s k. a (lo + s) k) v → IsSumOfRows 32 cols (λ s k. b (lo + s) k) v)
      → (v : ℕ → Bool) → IsSumOfRows rows cols a v → IsSumOfRows rows cols b v
  half a b same through v h =
      let p = h.0 in
      let inner = through (λ k. odd_below (λ s. p (lo + s) && a (lo + s) k) 32) ((λ s. p (lo + s)), λ k less. refl) in
      let q = inner.0 in
      let r : ℕ → Bool = λ i. cond (within lo (lo + 32) i) (q (i - lo)) (p i) in (
        r,
        λ k less.
            h.1 k less
            ∙ in_parts a p k
            ∙ ap (λ x. differ (differ x (odd_below (λ s. p (lo + s) && a (lo + s) k) 32)) (odd_below (λ t. p (lo + 32 + t) && a (lo + 32 + t) k) (rows - (lo + 32))))
            (odd_below-same (λ i. p i && a i k) (λ i. r i && b i k) lo
            (λ i i_less.
            ap (λ x. p i && x) (sym (same i k (omega arith) (inl i_less) less))
            ∙ ap (λ t. cond t (q (i - lo)) (p i) && b i k) (sym (within_low lo (lo + 32) i i_less))))
            ∙ ap (λ x. differ (differ (odd_below (λ i. r i && b i k) lo) x) (odd_below (λ t. p (lo + 32 + t) && a (lo + 32 + t) k) (rows - (lo + 32))))
            (inner.1 k less
            ∙ odd_below-same (λ s. q s && b (lo + s) k) (λ s. r (lo + s) && b (lo + s) k) 32
            (λ s s_less.
            (let back : lo + s - lo ≡ s = omega arith in
            ap (λ j. q j && b (lo + s) k) (sym back)
            ∙ ap (λ t. cond t (q (lo + s - lo)) (p (lo + s)) && b (lo + s) k) (sym (within_yes lo (lo + 32) (lo + s) (omega arith) (omega arith))))))
            ∙ ap (differ (differ (odd_below (λ i. r i && b i k) lo) (odd_below (λ s. r (lo + s) && b (lo + s) k) 32)))
            (odd_below-same (λ t. p (lo + 32 + t) && a (lo + 32 + t) k) (λ t. r (lo + 32 + t) && b (lo + 32 + t) k) (rows - (lo + 32))
            (λ t t_less.
            ap (λ x. p (lo + 32 + t) && x) (sym (same (lo + 32 + t) k (omega arith) (inr (omega arith)) less))
            ∙ ap (λ x. cond x (q (lo + 32 + t - lo)) (p (lo + 32 + t)) && b (lo + 32 + t) k) (sym (within_high lo (lo + 32) (lo + 32 + t) (omega arith)))))
            ∙ sym (in_parts b r k),
      )

  kept : ReducedTo lo rows cols old → ReducedTo lo rows cols new
  kept before p j c p_less j_less other lead =
      let was : IsLead cols (old p) c = lead_same cols (new p) (old p) c (λ k less. others p k (omega arith) (inl p_less) less) lead in
      elim (cases_lt j lo) [
        | inl low ↦ others j c j_less (inl low) was.below ∙ before p j c p_less j_less other was
        | inr from ↦ elim (cases_lt j (lo + 32)) [
          | inr past ↦ others j c j_less (inr past) was.below ∙ before p j c p_less j_less other was
          | inl within_it ↦
              (let s : ℕ = j - lo in
              let back : lo + s ≡ j = omega arith in
              let sum = (reduction.same_sums (λ k. new (lo + s) k)).1 (row_is_sum_of_rows 32 cols (λ s k. new (lo + s) k) s (omega arith)) in
              ap (λ x. new x c) (sym back)
              ∙ sum.1 c was.below
              ∙ odd_below-none (λ i. sum.0 i && old (lo + i) c) 32
              (λ i i_less. ap (λ b. sum.0 i && b) (before p (lo + i) c p_less (omega arith) (λ e. omega arith) was) ∙ and-false (sum.0 i)))
        ]
      ]

  pub group_reduces : ReducesGroup rows cols lo old new
  group_reduces = record {
    sums = λ v. (
      half old new others (λ u. (reduction.same_sums u).0) v,
      half new old (λ r k r_less side less. sym (others r k r_less side less)) (λ u. (reduction.same_sums u).1) v,
    );
    kept = kept;
    alone = λ g h c g_from g_to h_from h_to other lead.
        (let s : ℕ = g - lo in
        let t : ℕ = h - lo in
        let g_back : lo + s ≡ g = omega arith in
        let h_back : lo + t ≡ h = omega arith in
        ap (λ x. new x c) (sym h_back)
        ∙ reduction.reduced s t c (omega arith) (omega arith) (λ e. other (sym g_back ∙ ap (λ x. lo + x) e ∙ h_back)) (subst (λ x. IsLead cols (new x) c) (sym g_back) lead));
  }

-- ---- the group's words in the middle of all

mid_here : (xs ys : List ℕ) (a n i : ℕ) → a + n ≤ length xs → length ys ≡ n → i < n → get_or (take a xs ++ (ys ++ drop n (drop a xs))) (a + i) 0 ≡ get_or ys i 0
mid_here xs ys a n i room long less =
    let front : length (take a xs) ≡ a = length-take-le a xs (omega arith) in
    ap (λ k. get_or (take a xs ++ (ys ++ drop n (drop a xs))) (k + i) 0) (sym front)
    ∙ get_or-append-add (take a xs) (ys ++ drop n (drop a xs)) i 0
    ∙ get_or_append_left ys (drop n (drop a xs)) 0 i (omega arith)

mid_before : (xs ys : List ℕ) (a n i : ℕ) → a + n ≤ length xs → i < a → get_or (take a xs ++ (ys ++ drop n (drop a xs))) i 0 ≡ get_or xs i 0
mid_before xs ys a n i room less =
    let front : length (take a xs) ≡ a = length-take-le a xs (omega arith) in
    get_or_append_left (take a xs) (ys ++ drop n (drop a xs)) 0 i (omega arith) ∙ get_or-take a xs i 0 less

mid_after : (xs ys : List ℕ) (a n i : ℕ) → a + n ≤ length xs → length ys ≡ n → a + n ≤ i → get_or (take a xs ++ (ys ++ drop n (drop a xs))) i 0 ≡ get_or xs i 0
mid_after xs ys a n i room long past =
    let front : length (take a xs) ≡ a = length-take-le a xs (omega arith) in
    let j : ℕ = i - a - n in
    let place : length (take a xs) + (length ys + j) ≡ i = omega arith in
    let back : a + (n + j) ≡ i = omega arith in
    ap (λ k. get_or (take a xs ++ (ys ++ drop n (drop a xs))) k 0) (sym place)
    ∙ get_or-append-add (take a xs) (ys ++ drop n (drop a xs)) (length ys + j) 0
    ∙ get_or-append-add ys (drop n (drop a xs)) j 0
    ∙ get_or-drop n (drop a xs) j 0 ∙ get_or-drop a xs (n + j) 0 ∙ ap (λ k. get_or xs k 0) back

-- the words of thirty-two rows from row lo on, taken out of those of all rows, are n = 32 * wide
pub middle_long : (rows wide lo n : ℕ) (words : List ℕ) → lo + 32 ≤ rows → length words ≡ rows * wide → n ≡ 32 * wide → length (take n (drop (lo * wide) words)) ≡ n
middle_long rows wide lo n words fits long is =
    let end : (lo + 32) * wide ≤ rows * wide = mul-le-mul_right wide fits in
    length-take-le n (drop (lo * wide) words) (let l = length-drop (lo * wide) words in omega arith)

-- where the words of thirty-two rows from lo on are replaced by those of a reduction of them, that group of all rows
-- is reduced
pub middle_reduces : (rows wide lo n : ℕ) (words inner : List ℕ) → lo + 32 ≤ rows → length words ≡ rows * wide → n ≡ 32 * wide → length inner ≡ n
    → IsReduction 32 (64 * wide) (bit_matrix wide (take n (drop (lo * wide) words))) (bit_matrix wide inner)
    → ReducesGroup rows (64 * wide) lo (bit_matrix wide words) (bit_matrix wide (take (lo * wide) words ++ (inner ++ drop n (drop (lo * wide) words))))
middle_reduces rows wide lo n words inner fits long is inner_long reduction =
    let a = lo * wide in
    let new = take a words ++ (inner ++ drop n (drop a words)) in
    let end : (lo + 32) * wide ≤ rows * wide = mul-le-mul_right wide fits in
    let room : a + n ≤ length words = omega arith in
    let first : (s k : ℕ) → s < 32 → k < 64 * wide → bit_matrix wide (take n (drop a words)) s k ≡ bit_matrix wide words (lo + s) k =
    λ s k s_less less.
    (let m : (s + 1) * wide ≤ 32 * wide = (let z : s + 1 ≤ 32 = omega arith in mul-le-mul_right wide z) in
    let place : a + (s * wide + k / 64) ≡ (lo + s) * wide + k / 64 = omega arith in
    ap (λ x. bit_at x (k % 64) == 1) (get_or-take n (drop a words) (s * wide + k / 64) 0 (omega arith) ∙ get_or-drop a words (s * wide + k / 64) 0 ∙ ap (λ i. get_or words i 0) place)) in
    let last : (s k : ℕ) → s < 32 → k < 64 * wide → bit_matrix wide inner s k ≡ bit_matrix wide new (lo + s) k =
    λ s k s_less less.
    (let m : (s + 1) * wide ≤ 32 * wide = (let z : s + 1 ≤ 32 = omega arith in mul-le-mul_right wide z) in
    let place : a + (s * wide + k / 64) ≡ (lo + s) * wide + k / 64 = omega arith in
    ap (λ x. bit_at x (k % 64) == 1) (sym (mid_here words inner a n (s * wide + k / 64) room inner_long (omega arith)) ∙ ap (λ i. get_or new i 0) place)) in
    group_reduces rows (64 * wide) lo (bit_matrix wide words) (bit_matrix wide new) fits
    (λ r k r_less side less. ap (λ x. bit_at x (k % 64) == 1) (elim side [
      | inl before ↦
          (let m : (r + 1) * wide ≤ lo * wide = (let z : r + 1 ≤ lo = omega arith in mul-le-mul_right wide z) in
          mid_before words inner a n (r * wide + k / 64) room (omega arith))
      | inr after ↦
          (let m : (lo + 32) * wide ≤ r * wide = mul-le-mul_right wide after in
          mid_after words inner a n (r * wide + k / 64) room inner_long (omega arith))
    ]))
    (reduction_along 32 (64 * wide) (bit_matrix wide (take n (drop a words))) (λ s k. bit_matrix wide words (lo + s) k) (bit_matrix wide inner) (λ s k. bit_matrix wide new (lo + s) k) first last reduction)
  where
    sums_along : (rows cols : ℕ) (a b : ℕ → ℕ → Bool) → ((s k : ℕ) → s < rows → k < cols → a s k ≡ b s k) → (v : ℕ → Bool) → IsSumOfRows rows cols a v → IsSumOfRows rows cols b v
    sums_along rows cols a b e v h =
        (h.0, λ k less. h.1 k less ∙ odd_below-same (λ i. h.0 i && a i k) (λ i. h.0 i && b i k) rows (λ i i_less. ap (λ x. h.0 i && x) (e i k i_less less)))

    reduction_along : (rows cols : ℕ) (a b c d : ℕ → ℕ → Bool) → ((s k : ℕ) → s < rows → k < cols → a s k ≡ b s k) → ((s k : ℕ) → s < rows → k < cols → c s k ≡ d s k)
        → IsReduction rows cols a c → IsReduction rows cols b d
    reduction_along rows cols a b c d ab cd h = record {
      same_sums = λ v. (
        λ x. sums_along rows cols c d cd v ((h.same_sums v).0 (sums_along rows cols b a (λ s k s_less less. sym (ab s k s_less less)) v x)),
        λ x. sums_along rows cols a b ab v ((h.same_sums v).1 (sums_along rows cols d c (λ s k s_less less. sym (cd s k s_less less)) v x)),
      );
      reduced = λ i j e i_less j_less other lead.
          sym (cd j e j_less lead.below) ∙ h.reduced i j e i_less j_less other (lead_same cols (d i) (c i) e (λ k less. sym (cd i k i_less less)) lead);
    }
