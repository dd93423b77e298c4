use Rattle.std.proofs.Common.{◌≡◌, ℕ, ◌*◌, ◌<◌, false}
use Rattle.aea_gauss_words.specs.Words.{is_bit}
use Rattle.aea_gauss_words.proofs.rows.lead.Given as goal

abbrev pub invariant-loop-at : goal.invariant-loop-at
invariant-loop-at l = (k : ℕ) → k < 64 * l.at → is_bit l.words l.start k ≡ false
