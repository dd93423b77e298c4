-- Records end at one place.
use Rattle.std.proofs.Common.{◌≡◌, ◌≢◌, ◌≤◌, ℕ, zero, suc, List, get_or, refl, sym, ◌∙◌, ap, arith}
use Rattle.aea_disk.specs.Ends.{Reaches, EndsAt, behind}

-- records lead on
pub reaches_le : (b : List ℕ) (before k from last : ℕ) → Reaches b before k from last → from ≤ last
reaches_le b before zero from last is = omega (arith, is)
reaches_le b before (suc k) from last is = let rest = reaches_le b (suc before) k (behind b from) last is.1 in omega (arith, rest)

-- from one gate on, as many whole records are before each gate that is not open
pub alike : (bytes : List ℕ) (before m n : ℕ) (from a b : ℕ) → Reaches bytes before m from a → Reaches bytes before n from b → get_or bytes a 0 ≢ 1 → get_or bytes b 0 ≢ 1 → (m ≡ n) × (a ≡ b)
alike bytes before zero zero from a b one two shut_a shut_b = (refl, sym one ∙ two)
alike bytes before zero (suc n) from a b one two shut_a shut_b = absurd (shut_a (ap (λ (i : ℕ). get_or bytes i 0) (sym one) ∙ two.0.opened))
alike bytes before (suc m) zero from a b one two shut_a shut_b = absurd (shut_b (ap (λ (i : ℕ). get_or bytes i 0) (sym two) ∙ one.0.opened))
alike bytes before (suc m) (suc n) from a b one two shut_a shut_b = let rest = alike bytes (suc before) m n (behind bytes from) a b one.1 two.1 shut_a shut_b in (ap suc rest.0, rest.1)

-- the records of a file end at one place, and are counted once
pub ends_once : (bytes : List ℕ) (m n : ℕ) (one : EndsAt bytes m) (two : EndsAt bytes n) → (one.records ≡ two.records) × (m ≡ n)
ends_once bytes m n one two = alike bytes 0 one.records two.records 17 m n one.reaches two.reaches one.shut two.shut
