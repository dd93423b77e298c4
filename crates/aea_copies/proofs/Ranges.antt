-- Ranges of a list that lie one after the other.
use Rattle.std.proofs.Common.{◌≡◌, ℕ, ◌+◌, ◌-◌, min, List, ◌++◌, length, take, drop, sym, ap, ◌∙◌, arith}
use Rattle.std.proofs.lemmas.List.{length-drop, take-append-drop, drop-drop, drop-take, take-take, take_min}

-- a range is two, one after the other
pub range_both : (xs : List ℕ) (at a b : ℕ) → take (a + b) (drop at xs) ≡ take a (drop at xs) ++ take b (drop (at + a) xs)
range_both xs at a b =
    take_sum a b (drop at xs)
    ∙ ap (λ (l : List ℕ). take a (drop at xs) ++ take b l) (drop-drop a at xs)
  where
    take_sum : (n m : ℕ) (l : List ℕ) → take (n + m) l ≡ take n l ++ take m (drop n l)
    take_sum n m l =
        sym (take-append-drop n (take (n + m) l))
        ∙ ap (λ (r : List ℕ). r ++ drop n (take (n + m) l)) (take-take n (n + m) l (omega arith))
        ∙ ap (λ (r : List ℕ). take n l ++ r) (drop-take n m l)

-- all from a place on is a range, and what follows it
pub rest_both : (xs : List ℕ) (at n next : ℕ) → at + n ≡ next → drop at xs ≡ take n (drop at xs) ++ drop next xs
rest_both xs at n next e = sym (take-append-drop n (drop at xs)) ∙ ap (λ (l : List ℕ). take n (drop at xs) ++ l) (drop-drop n at xs ∙ ap (λ (k : ℕ). drop k xs) e)

-- what one read gives
pub read_front : (file buf : List ℕ) (at k n : ℕ) → length buf ≡ n → k ≡ min (length buf) (length file - at) → take k buf ≡ take k (drop at file) → take k buf ≡ take n (drop at file)
read_front file buf at k n long count bytes =
    let same : k ≡ min n (length (drop at file)) = omega (arith, long, count, length-drop at file) in
    bytes ∙ ap (λ (j : ℕ). take j (drop at file)) same ∙ take_min n (drop at file)
