-- The states of the generator, one after the other.
use Rattle.std.proofs.Common.{◌≡◌, ℕ, zero, suc, ◌+◌, ◌%◌, ◌/◌, ◌*◌, ◌∷◌, ◌++◌, [], sym, ◌∙◌, ap, add-one, add-zero, add-suc, arith}
use Rattle.std.proofs.Math.Nat.{mod-add-div, add-mul-mod_self_left}
use Rattle.aea_rehearse.specs.Generator.{next_state, state_after, byte_of, bytes_from}

-- two steps of a sum are taken modulo m as one
pub mod_of_sum : (m a b : ℕ) → (a % m + b) % m ≡ (a + b) % m
mod_of_sum m a b =
    let whole : a % m + b + m * (a / m) ≡ a + b = omega (arith, mod-add-div a m) in
    sym (add-mul-mod_self_left (a % m + b) m (a / m)) ∙ ap (λ x. x % m) whole

-- the state after one more step
pub state-one : (x k : ℕ) → state_after x (k + 1) ≡ next_state (state_after x k)
state-one x k = rw add-one

-- and the bytes with one more
pub bytes-one : (x k : ℕ) → bytes_from x (k + 1) ≡ bytes_from x k ++ byte_of (next_state (state_after x k)) ∷ []
bytes-one x k = rw add-one

-- steps after steps
pub state-more : (x j k : ℕ) → state_after (state_after x j) k ≡ state_after x (j + k)
state-more x j zero = rw add-zero
state-more x j (suc k) = rw add-suc (ap next_state (state-more x j k))
