-- The generator of a rehearsal: numbers of 64 bits, each the next one of the number before. From the number that it is
-- given, each step makes the next state.
use Rattle.std.specs.Prelude.{ℕ, zero, suc, ◌+◌, ◌*◌, ◌/◌, ◌%◌, ◌^◌, Bool, nat_lt, List, [], ◌∷◌, ◌++◌}

-- the state after one step
unfoldable pub next_state : ℕ → ℕ
next_state x = (x * 6364136223846793005 + 1442695040888963407) % 2 ^ 64

-- the state after so many steps
abbrev pub state_after : ℕ → ℕ → ℕ
state_after x zero = x
state_after x (suc k) = next_state (state_after x k)

-- the byte that a state gives: its top one
unfoldable pub byte_of : ℕ → ℕ
byte_of x = x / 2 ^ 56

-- the bytes of the first k steps, a byte each
abbrev pub bytes_from : ℕ → ℕ → List ℕ
bytes_from x zero = []
bytes_from x (suc k) = bytes_from x k ++ byte_of (state_after x (suc k)) ∷ []

-- whether a state strikes, so many times in a thousand
unfoldable pub strikes : ℕ → ℕ → Bool
strikes permille x = nat_lt ((x / 2 ^ 32) % 1000) permille
