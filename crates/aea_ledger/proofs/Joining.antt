-- Two pieces that lie one after the other at the front of zeros.
use Rattle.std.proofs.Common.{◌≡◌, ℕ, zero, suc, ◌+◌, ◌-◌, ◌<◌, List, [], ◌∷◌, ◌++◌, length, take, drop, replicate, refl, sym, ◌∙◌, ap, ap₂, arith, length-append, append_assoc}
use Rattle.std.proofs.Math.Seq.{take-append-add}
use Rattle.std.proofs.lemmas.List.{drop-replicate}
use Rattle.aea_ledger.specs.Stops.{closed}

-- a first zero of some
first_zero : (n : ℕ) → 0 < n → take {A = ℕ} 1 (replicate n 0) ≡ 0 ∷ []
first_zero zero some = absurd (omega arith)
first_zero (suc n) some = refl

-- with one zero more they are a body and a closed gate
pub closed_front : (room : ℕ) (front rest a b back : List ℕ) → a ≡ front → b ≡ rest → back ≡ drop (length front) (replicate room 0) → length front + length rest < room
    → take (length front + (length rest + 1)) (a ++ (b ++ drop (length rest) back)) ≡ closed front rest
closed_front room front rest a b back front_is rest_is zeros short =
    let left : drop (length rest) back ≡ replicate (room - length front - length rest) 0 =
    ap (drop (length rest)) (zeros ∙ drop-replicate (length front) room 0) ∙ drop-replicate (length rest) (room - length front) 0 in
    let whole : a ++ (b ++ drop (length rest) back) ≡ (front ++ rest) ++ replicate (room - length front - length rest) 0 =
    ap₂ (λ (x y : List ℕ). x ++ y) front_is (ap₂ (λ (x y : List ℕ). x ++ y) rest_is left) ∙ sym (append_assoc front rest (replicate (room - length front - length rest) 0)) in
    let size : length front + (length rest + 1) ≡ length (front ++ rest) + 1 = omega (arith, length-append front rest) in
    ap₂ (λ (n : ℕ) (l : List ℕ). take n l) size whole
    ∙ take-append-add (front ++ rest) (replicate (room - length front - length rest) 0) 1
    ∙ ap (λ (l : List ℕ). (front ++ rest) ++ l) (first_zero (room - length front - length rest) (omega (arith, short)))
    ∙ append_assoc front rest (0 ∷ [])
