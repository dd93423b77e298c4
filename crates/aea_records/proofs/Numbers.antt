-- Numbers in bytes.
use Rattle.std.proofs.Common.{◌≡◌, ℕ, zero, suc, ◌+◌, ◌/◌, ◌^◌, ◌<◌, ◌≤◌, List, [], ◌∷◌, ◌++◌, length, take, drop, get_or, refl, sym, ap, ◌∙◌, arith, inl, inr}
use Rattle.std.specs.Int.{byte_at, bytes_high_first, Width, w8, w16, w32, w64, byte_len, from_be_bytes, to_be_bytes}
use Rattle.std.proofs.lemmas.Bool.{cases_lt}
use Rattle.std.proofs.lemmas.List.{get_or_past}
use Rattle.std.proofs.lemmas.List.Elements.{All-get_or, All-nil, All-cons}
use Rattle.std.proofs.lemmas.Nat.{be_bytes_2, be_bytes_4, be_bytes_8, from_be_bytes-to_be_bytes_2, from_be_bytes-to_be_bytes_4, from_be_bytes-to_be_bytes_8}
use Rattle.aea_records.specs.TableLaws.{AreBytes}
use Rattle.aea_records.specs.Tables.{bytes_at}
use Rattle.aea_records.specs.Faults.{number_at}
use Rattle.aea_records.proofs.Stretches.{part-AreBytes, length-bytes_at, part_splits, front-bytes_at}

-- one byte is the number that it spells
one_byte : (bytes : List ℕ) → length bytes ≡ 1 → get_or bytes 0 0 < 256 → to_be_bytes w8 (from_be_bytes w8 bytes) ≡ bytes
one_byte [] len small = absurd (omega (arith, len))
one_byte (x ∷ []) len small = ap (λ (n : ℕ). n ∷ []) (omega (arith, small))
one_byte (x ∷ y ∷ bytes) len small = absurd (omega (arith, len))

-- each byte is below 256, and so is what is read past the end
byte_below : (bytes : List ℕ) → AreBytes bytes → (i : ℕ) → get_or bytes i 0 < 256
byte_below bytes fits i =
    elim (cases_lt i (length bytes)) [
      | inl lt ↦ All-get_or (λ b. b < 2 ^ 8) bytes i 0 lt fits
      | inr le ↦ rw (get_or_past bytes i 0 le) (omega arith)
    ]

-- the bytes of a number are bytes
byte_small : (k n : ℕ) → byte_at k n < 2 ^ 8
byte_small zero n = omega arith
byte_small (suc k) n = let m : ℕ = n / 256 ^ suc k in omega arith

bytes_small : (k n : ℕ) → AreBytes (bytes_high_first k n)
bytes_small zero n = All-nil (λ b. b < 2 ^ 8)
bytes_small (suc k) n = All-cons (λ b. b < 2 ^ 8) (byte_at k n) (bytes_high_first k n) (byte_small k n) (bytes_small k n)

are_bytes : (w : Width) (n : ℕ) → AreBytes (to_be_bytes w n)
are_bytes w n = bytes_small (byte_len w) n

-- numbers below a limit have one spelling of this width
pub record IsWide (w : Width) (limit : ℕ) : Type 0 where
  pub len : (n : ℕ) → length (to_be_bytes w n) ≡ byte_len w
  pub back : (bytes : List ℕ) → length bytes ≡ byte_len w → AreBytes bytes → to_be_bytes w (from_be_bytes w bytes) ≡ bytes
  pub again : (n : ℕ) → n < limit → from_be_bytes w (to_be_bytes w n) ≡ n
  pub are : (n : ℕ) → n < limit → AreBytes (to_be_bytes w n)
  pub below : (bytes : List ℕ) → AreBytes bytes → from_be_bytes w bytes < limit

-- numbers of 1 byte, of 2, of 4 and of 8 have
pub wide8 : IsWide w8 (2 ^ 8)
wide8 = record {
  len = λ n. refl;
  back = λ bytes len fits. one_byte bytes len (byte_below bytes fits 0);
  again = λ n lt. omega (arith, lt);
  are = λ n lt. are_bytes w8 n;
  below = λ bytes fits. omega (arith, byte_below bytes fits 0);
}

-- 2 bytes spell the numbers below 2^16, each in one way
pub wide16 : IsWide w16 (2 ^ 16)
wide16 = record {
  len = λ n. refl;
  back = λ bytes len fits. be_bytes_2 bytes _ len (byte_below bytes fits) refl;
  again = λ n lt. from_be_bytes-to_be_bytes_2 n lt;
  are = λ n lt. are_bytes w16 n;
  below = λ bytes fits. omega (arith, byte_below bytes fits 0, byte_below bytes fits 1);
}

-- 4 bytes spell the numbers below 2^32, each in one way
pub wide32 : IsWide w32 (2 ^ 32)
wide32 = record {
  len = λ n. refl;
  back = λ bytes len fits. be_bytes_4 bytes _ len (byte_below bytes fits) refl;
  again = λ n lt. from_be_bytes-to_be_bytes_4 n lt;
  are = λ n lt. are_bytes w32 n;
  below = λ bytes fits. omega (arith, byte_below bytes fits 0, byte_below bytes fits 1, byte_below bytes fits 2, byte_below bytes fits 3);
}

-- 8 bytes spell the numbers below 2^64, each in one way
pub wide64 : IsWide w64 (2 ^ 64)
wide64 = record {
  len = λ n. refl;
  back = λ bytes len fits. be_bytes_8 bytes _ len (byte_below bytes fits) refl;
  again = λ n lt. from_be_bytes-to_be_bytes_8 n lt;
  are = λ n lt. are_bytes w64 n;
  below = λ bytes fits. omega (
    arith,
    byte_below bytes fits 0,
    byte_below bytes fits 1,
    byte_below bytes fits 2,
    byte_below bytes fits 3,
    byte_below bytes fits 4,
    byte_below
        bytes fits 5,
    byte_below bytes fits 6,
    byte_below bytes fits 7,
  );
}

-- a number within a front of bytes is below the limit, and its part is its spelling
pub number_splits : (w : Width) (limit : ℕ) (wide : IsWide w limit) (bytes : List ℕ) (at next size : ℕ) → at + byte_len w ≡ next → next ≤ size
    → next ≤ length bytes → AreBytes (take size bytes)
    → (number_at w at bytes < limit) × (drop at bytes ≡ to_be_bytes w (number_at w at bytes) ++ drop next bytes)
number_splits w limit wide bytes at next size sum front within fits =
    let are = part-AreBytes bytes at (byte_len w) size (omega arith) fits in
    let same = wide.back (bytes_at (byte_len w) at bytes) (length-bytes_at bytes at (byte_len w) (omega arith)) are in (
      wide.below (bytes_at (byte_len w) at bytes) are,
      part_splits bytes at (byte_len w) next sum ∙ ap (λ (l : List ℕ). l ++ drop next bytes) (sym same),
    )

-- a number that ends within a front is one of the front
pub front-number_at : (w : Width) (bytes : List ℕ) (at size : ℕ) → at + byte_len w ≤ size → number_at w at (take size bytes) ≡ number_at w at bytes
front-number_at w bytes at size h = ap (from_be_bytes w) (front-bytes_at bytes at (byte_len w) size h)
