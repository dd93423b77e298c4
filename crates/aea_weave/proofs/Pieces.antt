-- Blocks within a list of bytes.
use Rattle.std.proofs.Common.{◌≡◌, ℕ, zero, suc, ◌+◌, ◌-◌, ◌*◌, ◌<◌, ◌≤◌, inl, inr, List, [], ◌∷◌, ◌++◌, take, drop, length, replicate, get_or, refl, sym, ◌∙◌, ap, arith, append_assoc}
use Rattle.std.proofs.Math.ListN.{set}
use Rattle.std.proofs.Math.Nat.{mul-le-mul_right}
use Rattle.std.proofs.Math.Seq.{take-add}
use Rattle.std.proofs.lemmas.Bool.{cases_lt}
use Rattle.std.proofs.lemmas.List.{drop-drop, take_at, drop_at, length-drop, length-take, take-replicate, drop-replicate}
use Rattle.aea_weave.specs.Stored.{pieces}

-- the list in which the part of w bytes at a is the block
abbrev pub put_block : ℕ → ℕ → List ℕ → List ℕ → List ℕ
put_block a w bytes block = take a bytes ++ (block ++ drop w (drop a bytes))

put_block-later : (w b : ℕ) (bytes block : List ℕ) → put_block (w + b) w bytes block ≡ take w bytes ++ put_block b w (drop w bytes) block
put_block-later w b bytes block =
    ap (λ t. t ++ (block ++ drop w (drop (w + b) bytes))) (take-add w b bytes)
    ∙ ap (λ d. (take w bytes ++ take b (drop w bytes)) ++ (block ++ drop w d)) (sym (drop-drop b w bytes))
    ∙ append_assoc (take w bytes) (take b (drop w bytes)) (block ++ drop w (drop b (drop w bytes)))

pieces-front : (w n : ℕ) (front rest : List ℕ) → length front ≡ w → pieces w (suc n) (front ++ rest) ≡ front ∷ pieces w n rest
pieces-front w n front rest long =
    ap (λ t. t ∷ pieces w n (drop w (front ++ rest))) (take_at front rest w long)
    ∙ ap (λ d. front ∷ pieces w n d) (drop_at front rest w long)

-- a block is written at a place
pub pieces-put : (w n k a : ℕ) (bytes block : List ℕ) → a ≡ k * w → length bytes ≡ n * w → k < n → length block ≡ w
    → pieces w n (put_block a w bytes block) ≡ set (pieces w n bytes) k block
pieces-put w zero k a bytes block at long inside wide = absurd (omega arith)
pieces-put w (suc n) zero a bytes block at long inside wide =
    let start : a ≡ 0 = omega arith in
    ap (λ b. pieces w (suc n) (put_block b w bytes block)) start ∙ pieces-front w n block (drop w bytes) wide
pieces-put w (suc n) (suc k) a bytes block at long inside wide =
    let start : a ≡ w + k * w = omega arith in
    let front : length (take w bytes) ≡ w = omega (arith, length-take w bytes) in
    let rest : length (drop w bytes) ≡ n * w = omega (arith, length-drop w bytes) in
    ap (λ b. pieces w (suc n) (put_block b w bytes block)) start
    ∙ ap (pieces w (suc n)) (put_block-later w (k * w) bytes block)
    ∙ pieces-front w n (take w bytes) (put_block (k * w) w (drop w bytes) block) front
    ∙ ap (λ ps. take w bytes ∷ ps) (pieces-put w n k (k * w) (drop w bytes) block refl rest (omega arith) wide)

-- the block at a place
pub pieces-get : (w n k a : ℕ) (bytes : List ℕ) → a ≡ k * w → k < n → get_or (pieces w n bytes) k [] ≡ take w (drop a bytes)
pieces-get w zero k a bytes at inside = absurd (omega arith)
pieces-get w (suc n) zero a bytes at inside = let start : 0 ≡ a = omega arith in ap (λ b. take w (drop b bytes)) start
pieces-get w (suc n) (suc k) a bytes at inside =
    let start : w + k * w ≡ a = omega arith in
    pieces-get w n k (k * w) (drop w bytes) refl (omega arith)
    ∙ ap (take w) (drop-drop (k * w) w bytes)
    ∙ ap (λ b. take w (drop b bytes)) start

-- each of the n pieces of w bytes of n * w zeros is w zeros
pub pieces-zeros : (w n k : ℕ) → k < n → get_or (pieces w n (replicate (n * w) 0)) k [] ≡ replicate w 0
pieces-zeros w n k inside =
    let most : (k + 1) * w ≤ n * w = mul-le-mul_right w (omega arith) in
    pieces-get w n k (k * w) (replicate (n * w) 0) refl inside
    ∙ ap (take w) (drop-replicate (k * w) (n * w) 0)
    ∙ take-replicate w (n * w - k * w) 0 (omega arith)

-- the first n pieces of any bytes are n
pub length-pieces : (w n : ℕ) (bytes : List ℕ) → length (pieces w n bytes) ≡ n
length-pieces w zero bytes = refl
length-pieces w (suc n) bytes = ap suc (length-pieces w n (drop w bytes))

-- a place among n blocks, and its bytes
pub place-below : (w n k : ℕ) → 1 ≤ w → k * w + w ≤ n * w → k < n
place-below w n k some within = elim (cases_lt k n) [
  | inl h ↦ h
  | inr past ↦ let most : n * w ≤ k * w = mul-le-mul_right w past in absurd (omega arith)
]

-- the piece k of w bytes ends within n pieces, where k is less than n
pub block-within : (w n k : ℕ) → k < n → k * w + w ≤ n * w
block-within w n k inside = let most : (k + 1) * w ≤ n * w = mul-le-mul_right w (omega arith) in omega arith

-- the w bytes at a place are w bytes, where the list goes on so far
pub length-block : (w a : ℕ) (bytes : List ℕ) → a + w ≤ length bytes → length (take w (drop a bytes)) ≡ w
length-block w a bytes within =
    let rest : length (drop a bytes) ≡ length bytes - a = length-drop a bytes in
    omega (arith, length-take w (drop a bytes))
