-- The blocks of bytes that are read piece by piece.
use Rattle.std.proofs.Common.{◌≡◌, ℕ, zero, suc, ◌+◌, ◌-◌, ◌*◌, ◌/◌, ◌<◌, ◌≤◌, List, [], ◌∷◌, ◌++◌, length, take, drop, replicate, refl, sym, ◌∙◌, ap, arith, length-append, length-drop}
use Rattle.std.proofs.lemmas.Nat.{div_below, div-mul-add, le-div}
use Rattle.std.proofs.lemmas.Bool.Decides.{nat_tests}
use Rattle.aea_lattice.specs.declared.shape.Shape.{Shape}
use Rattle.aea_records.specs.Format.{nodes_for}
use Rattle.aea_archive.specs.Next.{cut_blocks, object_blocks}

-- a list has its first bytes where it is long enough, whatever follows it
take-front : (n : ℕ) (xs ys : List ℕ) → n ≤ length xs → take n (xs ++ ys) ≡ take n xs
take-front zero xs ys few = refl
take-front (suc n) [] ys few = absurd (omega arith)
take-front (suc n) (x ∷ xs) ys few = ap (λ (l : List ℕ). x ∷ l) (take-front n xs ys (omega arith))

drop-front : (n : ℕ) (xs ys : List ℕ) → n ≤ length xs → drop n (xs ++ ys) ≡ drop n xs ++ ys
drop-front zero xs ys few = refl
drop-front (suc n) [] ys few = absurd (omega arith)
drop-front (suc n) (x ∷ xs) ys few = drop-front n xs ys (omega arith)

-- whole blocks, and one piece more
pub cut-push : (size n : ℕ) (bytes piece : List ℕ) → length bytes ≡ n * size
    → cut_blocks size (suc n) (bytes ++ piece) ≡ cut_blocks size n bytes ++ take size (piece ++ replicate size 0) ∷ []
cut-push size zero [] piece long = refl
cut-push size zero (x ∷ bytes) piece long = absurd (omega arith)
cut-push size (suc n) bytes piece long =
    let more : (suc n) * size ≡ size + n * size = omega arith in
    let whole : size ≤ length bytes = omega (arith, long, more) in
    let rest : length (drop size bytes) ≡ n * size = omega (arith, long, more, length-drop size bytes) in
    let front : take size ((bytes ++ piece) ++ replicate size 0) ≡ take size (bytes ++ replicate size 0) =
    take-front size (bytes ++ piece) (replicate size 0) (omega (arith, whole, length-append bytes piece)) ∙ take-front size bytes piece whole
    ∙ sym (take-front size bytes (replicate size 0) whole) in
    ap (λ (l : List ℕ). l ∷ cut_blocks size (suc n) (drop size (bytes ++ piece))) front
    ∙ ap (λ (l : List (List ℕ)). take size (bytes ++ replicate size 0) ∷ l)
    (ap (cut_blocks size (suc n)) (drop-front size bytes piece whole) ∙ cut-push size n (drop size bytes) piece rest)

-- how many nodes whole blocks and a piece take
pub nodes-none : (size : ℕ) → 1 ≤ size → (0 + size - 1) / size ≡ 0
nodes-none size some =
    let below = div_below (0 + size - 1) size 1 some (omega (arith, some)) in
    omega (arith, below)

-- n whole blocks and a piece of at least one byte and at most a block take n + 1 nodes
pub nodes-push : (size n k : ℕ) → 1 ≤ k → k ≤ size → (n * size + k + size - 1) / size ≡ n + 1
nodes-push size n k some most =
    let is : n * size + k + size - 1 ≡ (n + 1) * size + (k - 1) = (let e : (n + 1) * size ≡ n * size + size = omega arith in omega (arith, e, some)) in
    ap (λ (x : ℕ). x / size) is ∙ div-mul-add (n + 1) size (k - 1) (omega (arith, some, most))

-- n whole blocks of at least one byte take n nodes
pub nodes-whole : (size n : ℕ) → 1 ≤ size → (n * size + size - 1) / size ≡ n
nodes-whole size n some =
    let is : n * size + size - 1 ≡ n * size + (size - 1) = omega (arith, some) in
    ap (λ (x : ℕ). x / size) is ∙ div-mul-add n size (size - 1) (omega (arith, some))

take_zeros : (n m : ℕ) → n ≤ m → take {A = ℕ} n (replicate m 0) ≡ replicate n 0
take_zeros zero m few = refl
take_zeros (suc n) zero few = absurd (omega arith)
take_zeros (suc n) (suc m) few = ap (λ (l : List ℕ). 0 ∷ l) (take_zeros n m (omega arith))

filled-more : (size : ℕ) (piece : List ℕ) (m : ℕ) → size ≤ m → length piece ≤ size → take size (piece ++ replicate m 0) ≡ piece ++ replicate (size - length piece) 0
filled-more size [] m few short = take_zeros size m few ∙ (let e : size ≡ size - length {A = ℕ} [] = omega arith in ap (λ (n : ℕ). replicate n 0) e)
filled-more zero (x ∷ piece) m few short = absurd (omega arith)
filled-more (suc size) (x ∷ piece) m few short =
    let e : size - length piece ≡ suc size - length (x ∷ piece) = omega arith in
    ap (λ (l : List ℕ). x ∷ l) (filled-more size piece m (omega arith) (omega (arith, short)) ∙ ap (λ (n : ℕ). piece ++ replicate n 0) e)

-- a piece with zeros after it is its first block
pub filled : (size : ℕ) (piece : List ℕ) → length piece ≤ size → take size (piece ++ replicate size 0) ≡ piece ++ replicate (size - length piece) 0
filled size piece short = filled-more size piece size (omega arith) short

-- a block of an archive has at least 16 bytes
pub some_bytes : (shape : Shape) → 16 ≤ shape.block
some_bytes shape = let h = shape.in_profile in grind (arith, nat_tests)

-- bytes of length 0 are none
pub nil_of : (bytes : List ℕ) → length bytes ≡ 0 → bytes ≡ []
nil_of [] none = refl
nil_of (x ∷ bytes) none = absurd (omega arith)

-- no bytes take no node, and a piece takes one
pub nodes_none : (shape : Shape) (k : ℕ) → k ≡ 0 → nodes_for shape k ≡ 0
nodes_none shape k none = ap (λ (n : ℕ). (n + shape.block - 1) / shape.block) none ∙ nodes-none shape.block (let some = some_bytes shape in omega (arith, some))

-- at least one byte and at most a block take one node
pub nodes_one : (shape : Shape) (k : ℕ) → 1 ≤ k → k ≤ shape.block → nodes_for shape k ≡ 1
nodes_one shape k some most =
    let e : k + shape.block - 1 ≡ 0 * shape.block + k + shape.block - 1 = omega arith in
    ap (λ (n : ℕ). n / shape.block) e ∙ nodes-push shape.block 0 k some most

-- an object without bytes has no blocks
pub no_blocks : (shape : Shape) (bytes : List ℕ) → length bytes ≡ 0 → object_blocks shape bytes ≡ []
no_blocks shape bytes none = ap (λ (n : ℕ). cut_blocks shape.block n bytes) (nodes_none shape (length bytes) none)

-- an object of at least one byte and at most a block has one block, its bytes filled with zeros
pub one_block : (shape : Shape) (bytes : List ℕ) → 1 ≤ length bytes → length bytes ≤ shape.block → object_blocks shape bytes ≡ take shape.block (bytes ++ replicate shape.block 0) ∷ []
one_block shape bytes some most = ap (λ (n : ℕ). cut_blocks shape.block n bytes) (nodes_one shape (length bytes) some most)

-- more bytes than so many blocks hold take a node more
pub nodes-past : (shape : Shape) (n k : ℕ) → n * shape.block < k → n + 1 ≤ nodes_for shape k
nodes-past shape n k past =
    let some = some_bytes shape in
    let e : (n + 1) * shape.block ≡ n * shape.block + shape.block = omega arith in
    le-div (n + 1) (k + shape.block - 1) shape.block (omega (arith, some)) (omega (arith, e, past, some))
