-- Truth values packed into words of 64 bits.
use Rattle.std.specs.Prelude.{ℕ, ◌+◌, ◌/◌, ◌%◌, Bool, ◌==◌, List, map, get_or}
use Rattle.std.specs.List.{range_with_len}
use Rattle.std.specs.Int.{bit_at}

-- the number of words that n truth values take
abbrev pub words_for : ℕ → ℕ
words_for n = (n + 63) / 64

-- the bit of a word at this place, counted from the lowest, as a truth value
abbrev pub has_bit : ℕ → ℕ → Bool
has_bit word place = bit_at word place == 1

-- truth value k: bit k mod 64 of word k div 64
abbrev pub is_bit : List ℕ → ℕ → Bool
is_bit words k = has_bit (get_or words (k / 64) 0) (k % 64)

-- the first n truth values
abbrev pub bits_of : ℕ → List ℕ → List Bool
bits_of n words = map (is_bit words) (range_with_len 0 n)
