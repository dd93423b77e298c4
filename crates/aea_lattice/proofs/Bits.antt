-- Blocks by their bits.
use Rattle.std.proofs.Common.{◌≡◌, ℕ, zero, suc, ◌+◌, ◌*◌, ◌/◌, ◌%◌, ◌^◌, ◌<◌, Bool, ◌==◌, List, [], ◌∷◌, get_or, length, bit_xor, refl, sym, ◌∙◌, ap, subst, arith}
use Rattle.std.specs.Int.{bit_at}
use Rattle.std.proofs.Math.Nat.{pow-suc, add_comm, add-zero, add-suc}
use Rattle.std.proofs.Common.{lit<}
use Rattle.std.proofs.lemmas.Nat.Bits.{bit_at_xor, bit_at-lt, bit_at-suc, bit_at_lowest}
use Rattle.std.proofs.lemmas.Bool.{true≢false, false≢true}
use Rattle.aea_lattice.specs.Parity.{differ}
use Rattle.aea_lattice.specs.Data.{xor_bytes}

-- of two numbers below 2 ^ n, one that has the bits of the other is the other
bits_same : (n a b : ℕ) → a < 2 ^ n → b < 2 ^ n → ((i : ℕ) → bit_at a i ≡ bit_at b i) → a ≡ b
bits_same zero a b ha hb h = omega arith
bits_same (suc n) a b ha hb h =
    let two : 2 ^ suc n ≡ 2 ^ n * 2 = pow-suc 2 n in
    let low : a % 2 ≡ b % 2 = sym (bit_at_lowest a) ∙ h 0 ∙ bit_at_lowest b in
    let high : a / 2 ≡ b / 2 = bits_same n (a / 2) (b / 2) (omega arith) (omega arith) (λ i. sym (bit_at-suc a i) ∙ h (suc i) ∙ bit_at-suc b i) in
    omega arith

-- the bit i of the byte j
abbrev pub bit_in : ℕ → ℕ → List ℕ → Bool
bit_in j i bytes = bit_at (get_or bytes j 0) i == 1

-- the sum of two numbers below 2 is odd exactly where just one of the two is 1
pub bit_test : (x y : ℕ) → x < 2 → y < 2 → ((x + y) % 2 == 1) ≡ differ (x == 1) (y == 1)
bit_test zero zero hx hy = refl
bit_test zero (suc zero) hx hy = refl
bit_test zero (suc (suc y)) hx hy = absurd (omega arith)
bit_test (suc zero) zero hx hy = refl
bit_test (suc zero) (suc zero) hx hy = refl
bit_test (suc zero) (suc (suc y)) hx hy = absurd (omega arith)
bit_test (suc (suc x)) y hx hy = absurd (omega arith)

-- what is at a place of the XOR of two lists of one width is the XOR of what is there in the two
-- (0 past the end)
pub get_or-xor : (xs ys : List ℕ) (j : ℕ) → length xs ≡ length ys → get_or (xor_bytes xs ys) j 0 ≡ bit_xor (get_or xs j 0) (get_or ys j 0)
get_or-xor [] [] j long = refl
get_or-xor [] (y ∷ ys) j long = absurd (omega arith)
get_or-xor (x ∷ xs) [] j long = absurd (omega arith)
get_or-xor (x ∷ xs) (y ∷ ys) zero long = refl
get_or-xor (x ∷ xs) (y ∷ ys) (suc j) long = get_or-xor xs ys j (omega arith)

-- a bit of the XOR of two lists of one width is set exactly where just one of the two has it set
pub bit_in-xor : (j i : ℕ) (xs ys : List ℕ) → length xs ≡ length ys → bit_in j i (xor_bytes xs ys) ≡ differ (bit_in j i xs) (bit_in j i ys)
bit_in-xor j i xs ys long =
    ap (λ x. bit_at x i == 1) (get_or-xor xs ys j long)
    ∙ ap (λ x. x == 1) (bit_at_xor (get_or xs j 0) (get_or ys j 0) i)
    ∙ bit_test (bit_at (get_or xs j 0) i) (bit_at (get_or ys j 0) i) (bit_at-lt (get_or xs j 0) i) (bit_at-lt (get_or ys j 0) i)

-- blocks of one width with the same bytes are one
pub bytes_same : (xs ys : List ℕ) → length xs ≡ length ys → ((j : ℕ) → get_or xs j 0 ≡ get_or ys j 0) → xs ≡ ys
bytes_same [] [] long h = refl
bytes_same [] (y ∷ ys) long h = absurd (omega arith)
bytes_same (x ∷ xs) [] long h = absurd (omega arith)
bytes_same (x ∷ xs) (y ∷ ys) long h = ap (λ z. z ∷ xs) (h 0) ∙ ap (λ zs. y ∷ zs) (bytes_same xs ys (omega arith) (λ j. h (suc j)))

-- two numbers below 2 are equal where both or neither of them are 1
pub test_bits : (x y : ℕ) → x < 2 → y < 2 → (x == 1) ≡ (y == 1) → x ≡ y
test_bits zero zero hx hy h = refl
test_bits zero (suc zero) hx hy h = absurd (false≢true h)
test_bits zero (suc (suc y)) hx hy h = absurd (omega arith)
test_bits (suc zero) zero hx hy h = absurd (true≢false h)
test_bits (suc zero) (suc zero) hx hy h = refl
test_bits (suc zero) (suc (suc y)) hx hy h = absurd (omega arith)
test_bits (suc (suc x)) y hx hy h = absurd (omega arith)

-- a number is below some power of two
below_power : (a : ℕ) → a < 2 ^ a
below_power zero = lit< tt
below_power (suc a) = let h = below_power a in let two : 2 ^ suc a ≡ 2 ^ a * 2 = pow-suc 2 a in omega arith

-- two numbers with the same bits are equal
pub bits_equal : (a b : ℕ) → ((i : ℕ) → bit_at a i ≡ bit_at b i) → a ≡ b
bits_equal a b h =
    bits_same (a + b) a b (smaller a b) (subst (λ n. b < 2 ^ n) (add_comm b a) (smaller b a)) h
  where
    smaller : (a b : ℕ) → a < 2 ^ (a + b)
    smaller a zero = subst (λ n. a < 2 ^ n) (sym (add-zero a)) (below_power a)
    smaller a (suc b) = let h = smaller a b in let two : 2 ^ (a + suc b) ≡ 2 ^ (a + b) * 2 = ap (λ n. 2 ^ n) (add-suc a b) ∙ pow-suc 2 (a + b) in omega arith
