-- Sums of data by XOR: what is in a sum twice cancels, so a sum is that of the nodes that are in it an odd
-- number of times.
use Rattle.std.proofs.Common.{◌≡◌, ◌≢◌, ℕ, suc, zero, ◌≤◌, ◌⊎◌, inl, inr, Bool, true, false, not, cond, List, [], ◌∷◌, ◌++◌, map, filter, fold, length, replicate, arith, refl, sym, ◌∙◌, ap}
use Rattle.std.specs.Prelude.{◌==◌, All}
use Rattle.std.proofs.lemmas.Bool.{cases_lt}
use Rattle.std.proofs.lemmas.Bool.Decides.{nat_tests}
use Rattle.std.proofs.lemmas.List.{length-replicate}
use Rattle.std.proofs.lemmas.List.Elements.{filter-append}
use Rattle.aea_lattice.specs.Data.{xor_bytes, xor_all}
use Rattle.aea_lattice.specs.Strands.{nodes_to}
use Rattle.aea_lattice.proofs.Sums.{xor_bytes-cancel, xor_bytes-comm, xor_bytes-assoc, xor_bytes-zeros, length-xor_bytes, length-fold}

-- the sum of the data of some nodes
abbrev pub sum_of : ℕ → (ℕ → List ℕ) → List ℕ → List ℕ
sum_of w datum nodes = xor_all w (map datum nodes)

-- each datum has w bytes
pub record IsWide (w : ℕ) (datum : ℕ → List ℕ) : Type 0 where
  pub each : (k : ℕ) → length (datum k) ≡ w

pub length-sum_of : (w : ℕ) (datum : ℕ → List ℕ) (nodes : List ℕ) → IsWide w datum → length (sum_of w datum nodes) ≡ w
length-sum_of w datum nodes wide = length-fold w nodes datum (replicate w 0) (length-replicate w 0) wide.each

zeros_behind : (w : ℕ) (ys : List ℕ) → length ys ≡ w → xor_bytes ys (replicate w 0) ≡ ys
zeros_behind w ys long = xor_bytes-comm ys (replicate w 0) ∙ xor_bytes-zeros w ys long

fold_from : (w : ℕ) (datum : ℕ → List ℕ) → IsWide w datum → (nodes : List ℕ) (start : List ℕ) → length start ≡ w → fold xor_bytes start (map datum nodes) ≡ xor_bytes start (sum_of w datum nodes)
fold_from w datum wide [] start long = sym (zeros_behind w start long)
fold_from w datum wide (k ∷ nodes) start long =
    let zeros = xor_bytes-zeros w (datum k) (wide.each k) in
    fold_from w datum wide nodes (xor_bytes start (datum k)) (length-xor_bytes start (datum k) (long ∙ sym (wide.each k)) ∙ wide.each k)
    ∙ xor_bytes-assoc start (datum k) (sum_of w datum nodes)
    ∙ ap (xor_bytes start) (sym (ap (λ s. fold xor_bytes s (map datum nodes)) zeros ∙ fold_from w datum wide nodes (datum k) (wide.each k)))

pub sum_of-cons : (w : ℕ) (datum : ℕ → List ℕ) (k : ℕ) (nodes : List ℕ) → IsWide w datum → sum_of w datum (k ∷ nodes) ≡ xor_bytes (datum k) (sum_of w datum nodes)
sum_of-cons w datum k nodes wide =
    ap (λ s. fold xor_bytes s (map datum nodes)) (xor_bytes-zeros w (datum k) (wide.each k)) ∙ fold_from w datum wide nodes (datum k) (wide.each k)

-- where each datum has w bytes, the sum of two lists of nodes together is the XOR of their sums
pub sum_of-append : (w : ℕ) (datum : ℕ → List ℕ) (ks ns : List ℕ) → IsWide w datum → sum_of w datum (ks ++ ns) ≡ xor_bytes (sum_of w datum ks) (sum_of w datum ns)
sum_of-append w datum [] ns wide = sym (xor_bytes-zeros w (sum_of w datum ns) (length-sum_of w datum ns wide))
sum_of-append w datum (k ∷ ks) ns wide =
    sum_of-cons w datum k (ks ++ ns) wide
    ∙ ap (xor_bytes (datum k)) (sum_of-append w datum ks ns wide)
    ∙ sym (xor_bytes-assoc (datum k) (sum_of w datum ks) (sum_of w datum ns))
    ∙ ap (λ s. xor_bytes s (sum_of w datum ns)) (sym (sum_of-cons w datum k ks wide))

-- a test with one node's result flipped
abbrev flipped : (ℕ → Bool) → ℕ → ℕ → Bool
flipped p j k = cond (j == k) (not (p k)) (p k)

filter_one : (p : ℕ → Bool) (k : ℕ) (v : Bool) → p k ≡ v → filter p (k ∷ []) ≡ cond v (k ∷ []) []
filter_one p k true e = rw e
filter_one p k false e = rw e

filter_alike : (p q : ℕ → Bool) (n : ℕ) → ((k : ℕ) → 1 ≤ k → k ≤ n → p k ≡ q k) → filter p (nodes_to n) ≡ filter q (nodes_to n)
filter_alike p q zero alike = refl
filter_alike p q (suc n) alike =
    filter-append p (nodes_to n) (suc n ∷ [])
    ∙ ap (λ xs. xs ++ filter p (suc n ∷ [])) (filter_alike p q n (λ k first last. alike k first (omega arith)))
    ∙ ap (λ xs. filter q (nodes_to n) ++ xs) (filter_one p (suc n) (q (suc n)) (alike (suc n) (omega arith) (omega arith)) ∙ sym (filter_one q (suc n) (q (suc n)) refl))
    ∙ sym (filter-append q (nodes_to n) (suc n ∷ []))

same_node : (j : ℕ) → (j == j) ≡ true
same_node j = grind (arith, nat_tests)

other_node : (j k : ℕ) → j ≢ k → (j == k) ≡ false
other_node j k differ = grind (arith, nat_tests)

-- the sum of one node more or less
one_flipped : (w : ℕ) (datum : ℕ → List ℕ) (j : ℕ) (v : Bool) → IsWide w datum → sum_of w datum (cond (not v) (j ∷ []) []) ≡ xor_bytes (datum j) (sum_of w datum (cond v (j ∷ []) []))
one_flipped w datum j true wide =
    let long = wide.each j in
    let once : sum_of w datum (j ∷ []) ≡ datum j = xor_bytes-zeros w (datum j) long in
    sym (ap (xor_bytes (datum j)) once
    ∙ sym (ap (λ s. xor_bytes s (datum j)) (xor_bytes-zeros w (datum j) long))
    ∙ xor_bytes-cancel (replicate w 0) (datum j) (length-replicate w 0 ∙ sym long))
one_flipped w datum j false wide = sum_of-cons w datum j [] wide

between : (xs ys zs : List ℕ) → xor_bytes xs (xor_bytes ys zs) ≡ xor_bytes ys (xor_bytes xs zs)
between xs ys zs = sym (xor_bytes-assoc xs ys zs) ∙ ap (λ s. xor_bytes s zs) (xor_bytes-comm xs ys) ∙ xor_bytes-assoc ys xs zs

flipped_here : (p : ℕ → Bool) (j : ℕ) → flipped p j j ≡ not (p j)
flipped_here p j = rw (same_node j)

flipped_elsewhere : (p : ℕ → Bool) (j k : ℕ) → j ≢ k → flipped p j k ≡ p k
flipped_elsewhere p j k differ = rw (other_node j k differ)

this_or_before : (j n : ℕ) → j ≤ suc n → (j ≡ suc n) ⊎ (j ≤ n)
this_or_before j n most = elim (cases_lt n j) [ inl h ↦ inl (omega arith) | inr h ↦ inr h ]

flipped_step : (w : ℕ) (datum : ℕ → List ℕ) (p : ℕ → Bool) (j n : ℕ) → IsWide w datum → 1 ≤ j → (j ≡ suc n) ⊎ (j ≤ n)
    → (j ≤ n → sum_of w datum (filter (flipped p j) (nodes_to n)) ≡ xor_bytes (datum j) (sum_of w datum (filter p (nodes_to n))))
    → xor_bytes (sum_of w datum (filter (flipped p j) (nodes_to n))) (sum_of w datum (filter (flipped p j) (suc n ∷ [])))
    ≡ xor_bytes (datum j) (xor_bytes (sum_of w datum (filter p (nodes_to n))) (sum_of w datum (filter p (suc n ∷ []))))
flipped_step w datum p j n wide first (inl here) before =
    let last_one : filter (flipped p j) (suc n ∷ []) ≡ cond (not (p (suc n))) (suc n ∷ []) [] =
    filter_one (flipped p j) (suc n) (not (p (suc n))) (ap (λ m. flipped p m (suc n)) here ∙ flipped_here p (suc n)) in
    let rest : filter (flipped p j) (nodes_to n) ≡ filter p (nodes_to n) = filter_alike (flipped p j) p n (λ k low high. flipped_elsewhere p j k (omega arith)) in
    let before_it = filter_one p (suc n) (p (suc n)) refl in
    ap (λ s. xor_bytes (sum_of w datum s) (sum_of w datum (filter (flipped p j) (suc n ∷ [])))) rest
    ∙ ap (λ s. xor_bytes (sum_of w datum (filter p (nodes_to n))) (sum_of w datum s)) last_one
    ∙ ap (xor_bytes (sum_of w datum (filter p (nodes_to n)))) (one_flipped w datum (suc n) (p (suc n)) wide)
    ∙ between (sum_of w datum (filter p (nodes_to n))) (datum (suc n)) (sum_of w datum (cond (p (suc n)) (suc n ∷ []) []))
    ∙ ap (λ m. xor_bytes (datum m) (xor_bytes (sum_of w datum (filter p (nodes_to n))) (sum_of w datum (cond (p (suc n)) (suc n ∷ []) [])))) (sym here)
    ∙ ap (λ s. xor_bytes (datum j) (xor_bytes (sum_of w datum (filter p (nodes_to n))) (sum_of w datum s))) (sym before_it)
flipped_step w datum p j n wide first (inr within) before =
    let last_one : filter (flipped p j) (suc n ∷ []) ≡ filter p (suc n ∷ []) =
    filter_one (flipped p j) (suc n) (p (suc n)) (flipped_elsewhere p j (suc n) (omega arith)) ∙ sym (filter_one p (suc n) (p (suc n)) refl) in
    ap (λ s. xor_bytes (sum_of w datum (filter (flipped p j) (nodes_to n))) (sum_of w datum s)) last_one
    ∙ ap (λ s. xor_bytes s (sum_of w datum (filter p (suc n ∷ [])))) (before within)
    ∙ xor_bytes-assoc (datum j) (sum_of w datum (filter p (nodes_to n))) (sum_of w datum (filter p (suc n ∷ [])))

-- flipping one node's result adds its datum
pub sum_of-flipped : (w : ℕ) (datum : ℕ → List ℕ) (p : ℕ → Bool) (j n : ℕ) → IsWide w datum → 1 ≤ j → j ≤ n → sum_of w datum (filter (flipped p j) (nodes_to n)) ≡ xor_bytes (datum j) (sum_of w datum (filter p (nodes_to n)))
sum_of-flipped w datum p j zero wide first last = absurd (omega arith)
sum_of-flipped w datum p j (suc n) wide first last =
    ap (sum_of w datum) (filter-append (flipped p j) (nodes_to n) (suc n ∷ []))
    ∙ sum_of-append w datum (filter (flipped p j) (nodes_to n)) (filter (flipped p j) (suc n ∷ [])) wide
    ∙ flipped_step w datum p j n wide first (this_or_before j n last) (λ within. sum_of-flipped w datum p j n wide first within)
    ∙ ap (xor_bytes (datum j)) (sym (ap (sum_of w datum) (filter-append p (nodes_to n) (suc n ∷ [])) ∙ sum_of-append w datum (filter p (nodes_to n)) (filter p (suc n ∷ [])) wide))

-- whether a node is in the list an odd number of times
abbrev pub is_odd_in : List ℕ → ℕ → Bool
is_odd_in [] k = false
is_odd_in (j ∷ nodes) k = cond (j == k) (not (is_odd_in nodes k)) (is_odd_in nodes k)

none_pass : (n : ℕ) → filter (λ k. false) (nodes_to n) ≡ []
none_pass zero = refl
none_pass (suc n) = filter-append (λ k. false) (nodes_to n) (suc n ∷ []) ∙ ap (λ xs. xs ++ []) (none_pass n)

-- a sum is that of the nodes that are in it an odd number of times
pub sum_of-odd : (w : ℕ) (datum : ℕ → List ℕ) (nodes : List ℕ) (n : ℕ) → IsWide w datum → All (λ k. (1 ≤ k) × (k ≤ n)) nodes → sum_of w datum nodes ≡ sum_of w datum (filter (is_odd_in nodes) (nodes_to n))
sum_of-odd w datum [] n wide inside = ap (sum_of w datum) (sym (none_pass n))
sum_of-odd w datum (j ∷ nodes) n wide inside =
    let here = inside 0 j (omega arith) in
    sum_of-cons w datum j nodes wide
    ∙ ap (xor_bytes (datum j)) (sum_of-odd w datum nodes n wide (λ k d below. inside (suc k) d (omega arith)))
    ∙ sym (sum_of-flipped w datum (is_odd_in nodes) j n wide here.0 here.1)
