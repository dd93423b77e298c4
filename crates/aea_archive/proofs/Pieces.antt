-- The data blocks of an object's bytes.
use Rattle.std.proofs.Common.{◌≡◌, ⊎_elim, ℕ, zero, suc, ◌+◌, ◌-◌, ◌*◌, ◌^◌, ◌<◌, ◌≤◌, List, [], ◌∷◌, ◌++◌, length, take, drop, replicate, All, refl, sym, ◌∙◌, ap, arith, length-append}
use Rattle.std.specs.List.{flat_map}
use Rattle.std.proofs.lemmas.Bool.{cases_lt}
use Rattle.std.proofs.lemmas.List.{append_assoc, length-take, length-drop, length-replicate, take-append-le, take-append-drop, drop_all, take-replicate, replicate-append-replicate}
use Rattle.std.proofs.lemmas.List.Elements.{All-cons, All-take, All-drop, All-append, All-replicate}
use Rattle.std.proofs.Math.Seq.{take-append-add}
use Rattle.aea_lattice.specs.Data.{IsBytes}
use Rattle.aea_records.specs.TableLaws.{AreBytes}
use Rattle.aea_archive.specs.Next.{cut_blocks}

-- there are so many
pub cut-length : (size n : ℕ) (bytes : List ℕ) → length (cut_blocks size n bytes) ≡ n
cut-length size zero bytes = refl
cut-length size (suc n) bytes = let rest = cut-length size n (drop size bytes) in omega (arith, rest)

-- the first of them
first-bytes : (size : ℕ) (bytes : List ℕ) → AreBytes bytes → IsBytes size (take size (bytes ++ replicate size 0))
first-bytes size bytes are = record {
  wide = omega (arith, length-take size (bytes ++ replicate size 0), length-append bytes (replicate size 0), length-replicate {A = ℕ} size 0);
  each = All-take (λ (b : ℕ). b < 2 ^ 8) size (bytes ++ replicate size 0)
      (All-append (λ (b : ℕ). b < 2 ^ 8) bytes (replicate size 0) are (All-replicate (λ (b : ℕ). b < 2 ^ 8) size 0 (omega arith)));
}

-- each has the bytes of a block
pub cut-bytes : (size n : ℕ) (bytes : List ℕ) → AreBytes bytes → All (IsBytes size) (cut_blocks size n bytes)
cut-bytes size zero bytes are = λ k d inside. absurd (omega (arith, inside))
cut-bytes size (suc n) bytes are =
    All-cons (IsBytes size) (take size (bytes ++ replicate size 0)) (cut_blocks size n (drop size bytes)) (first-bytes size bytes are)
    (cut-bytes size n (drop size bytes) (All-drop (λ (b : ℕ). b < 2 ^ 8) size bytes are))

-- one after the other they are the bytes and then zeros
pub cut-joined : (size n : ℕ) (bytes : List ℕ) → length bytes ≤ n * size → flat_map (λ d. d) (cut_blocks size n bytes) ≡ bytes ++ replicate (n * size - length bytes) 0
cut-joined size zero [] few = let e : 0 ≡ 0 * size - 0 = omega arith in ap (λ (k : ℕ). replicate k 0) e
cut-joined size zero (b ∷ bytes) few = absurd (omega (arith, few))
cut-joined size (suc n) bytes few =
    let rest = cut-joined size n (drop size bytes) (omega (arith, few, length-drop size bytes)) in
    ap (λ (l : List ℕ). take size (bytes ++ replicate size 0) ++ l) rest
    ∙ ⊎_elim
    (λ short.
    -- the last block with bytes
    let none : drop size bytes ≡ [] = drop_all size bytes (omega (arith, short)) in
    let front : take size (bytes ++ replicate size 0) ≡ bytes ++ replicate (size - length bytes) 0 =
    ap (λ (k : ℕ). take k (bytes ++ replicate size 0)) (let e : size ≡ length bytes + (size - length bytes) = omega (arith, short) in e)
    ∙ take-append-add bytes (replicate size 0) (size - length bytes)
    ∙ ap (λ (l : List ℕ). bytes ++ l) (take-replicate (size - length bytes) size 0 (omega arith)) in
    let sum : size - length bytes + (n * size - length (drop size bytes)) ≡ suc n * size - length bytes = omega (arith, short, few, length-drop size bytes) in
    ap (λ (l : List ℕ). l ++ (drop size bytes ++ replicate (n * size - length (drop size bytes)) 0)) front
    ∙ ap (λ (l : List ℕ). (bytes ++ replicate (size - length bytes) 0) ++ (l ++ replicate (n * size - length (drop size bytes)) 0)) none
    ∙ append_assoc bytes (replicate (size - length bytes) 0) (replicate (n * size - length (drop size bytes)) 0)
    ∙ ap (λ (l : List ℕ). bytes ++ l) (replicate-append-replicate (size - length bytes) (n * size - length (drop size bytes)) 0)
    ∙ ap (λ (k : ℕ). bytes ++ replicate k 0) sum)
    (λ full.
    let sum : n * size - length (drop size bytes) ≡ suc n * size - length bytes = omega (arith, full, few, length-drop size bytes) in
    ap (λ (l : List ℕ). l ++ (drop size bytes ++ replicate (n * size - length (drop size bytes)) 0)) (take-append-le size bytes (replicate size 0) full)
    ∙ sym (append_assoc (take size bytes) (drop size bytes) (replicate (n * size - length (drop size bytes)) 0))
    ∙ ap (λ (l : List ℕ). l ++ replicate (n * size - length (drop size bytes)) 0) (take-append-drop size bytes)
    ∙ ap (λ (k : ℕ). bytes ++ replicate k 0) sum)
    (cases_lt (length bytes) size)
