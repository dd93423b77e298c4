-- The list of fences within its array.
use Rattle.std.proofs.Common.{◌≡◌, ℕ, zero, suc, ◌+◌, ◌-◌, ◌<◌, List, [], ◌∷◌, take, drop, length, replicate, get_or, refl, sym, ◌∙◌, ap, arith}
use Rattle.std.proofs.Math.ListN.{set}
use Rattle.std.proofs.lemmas.List.{drop-drop, drop-replicate, drop-set-lt}
use Rattle.aea_lattice.specs.Fences.{last_fence}

-- in a list longer than k, the last of the first k + 1 items is the one at place k, counted from 0
pub last-take : (xs : List ℕ) (k : ℕ) → k < length xs → last_fence (take (suc k) xs) ≡ get_or xs k 0
last-take [] k inside = absurd (omega arith)
last-take (x ∷ xs) zero inside = refl
last-take (x ∷ []) (suc k) inside = absurd (omega arith)
last-take (x ∷ y ∷ ys) (suc k) inside = last-take (y ∷ ys) k (omega arith)

-- where zeros follow the first k items, zeros follow the first k + 1 when the one at place k has been set
pub zeros-set : (xs : List ℕ) (n k i x : ℕ) → i ≡ k → drop k xs ≡ replicate (n - k) 0 → drop (k + 1) (set xs i x) ≡ replicate (n - (k + 1)) 0
zeros-set xs n k i x at zeros =
    let less : n - k - 1 ≡ n - (k + 1) = omega arith in
    drop-set-lt (k + 1) xs i x (omega arith)
    ∙ sym (drop-drop 1 k xs)
    ∙ ap (drop 1) zeros
    ∙ drop-replicate 1 (n - k) 0
    ∙ ap (λ j. replicate j 0) less
