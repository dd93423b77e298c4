use Rattle.std.proofs.Common.{◌≡◌, ℕ, ◌<◌, ◌≤◌, ◌⊎◌, ◌+◌, ◌*◌, get_or}
use Rattle.aea_gauss_words.specs.Tables.{place_of, is_hit}
use Rattle.aea_gauss_words.proofs.picks.pick_row.Given as goal

abbrev pub invariant-loop-t : goal.invariant-loop-t
invariant-loop-t l =
    ((t : ℕ) → t < l.t → get_or l.picks (4 * l.i + t) 0 ≡ place_of (λ s. is_hit l.wide l.words l.lo l.leads l.row (8 * t + s)) 8)
    × ((k : ℕ) → (k < 4 * l.i) ⊎ (4 * l.i + 4 ≤ k) → get_or l.picks k 0 ≡ get_or l.fn.picks k 0)
