-- A SHA-256 is 32 bytes.
use Rattle.std.proofs.Common.{ℕ, zero, suc, ◌/◌, ◌%◌, ◌<◌, ◌^◌, List, slice_index, arith}
use Rattle.std.specs.Prelude.{All}
use Rattle.std.specs.Int.{w32, to_be_bytes, byte_at, bytes_high_first}
use Rattle.std.proofs.lemmas.List.Elements.{All-nil, All-cons, All-append}
use Rattle.sha2.specs.Sha256.{sha256, digest_bytes, final_hash, initial_hash_256}
use Rattle.sha2.proofs.Facts256.{length-sha256}
use Rattle.aea_lattice.specs.Data.{IsBytes}

abbrev Small : List ℕ → Type 0
Small bytes = All (λ x. x < 2 ^ 8) bytes

one_small : (n : ℕ) → n % 256 < 2 ^ 8
one_small n = omega arith

word_small : (n : ℕ) → Small (to_be_bytes w32 n)
word_small n zero d below = one_small (n / 16777216)
word_small n (suc zero) d below = one_small (n / 65536)
word_small n (suc (suc zero)) d below = one_small (n / 256)
word_small n (suc (suc (suc zero))) d below = one_small n
word_small n (suc (suc (suc (suc k)))) d below = absurd (omega (arith, below))

-- the bytes of a number are bytes
at_small : (k n : ℕ) → byte_at k n < 2 ^ 8
at_small zero n = one_small n
at_small (suc k) n = one_small (n / 256 ^ suc k)

pub high_small : (k n : ℕ) → Small (bytes_high_first k n)
high_small zero n = All-nil (λ x. x < 2 ^ 8)
high_small (suc k) n = All-cons (λ x. x < 2 ^ 8) (byte_at k n) (bytes_high_first k n) (at_small k n) (high_small k n)

bytes_small : (h : List ℕ) (n : ℕ) → Small (digest_bytes h n)
unfolding digest_bytes
bytes_small h zero = All-nil (λ x. x < 2 ^ 8)
bytes_small h (suc n) = All-append (λ x. x < 2 ^ 8) (digest_bytes h n) (to_be_bytes w32 (slice_index h n)) (bytes_small h n) (word_small (slice_index h n))

pub digest_wide : (m : List ℕ) → IsBytes 32 (sha256 m)
unfolding sha256
digest_wide m = record { wide = length-sha256 m; each = bytes_small (final_hash initial_hash_256 m) 8 }
