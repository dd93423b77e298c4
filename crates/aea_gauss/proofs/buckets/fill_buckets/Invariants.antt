use Rattle.std.proofs.Common.{◌≡◌, ℕ, ◌<◌, ◌==◌, [], length, get_or, take}
use Rattle.aea_gauss.specs.Parts.{items_at}
use Rattle.aea_gauss.proofs.buckets.fill_buckets.Given as goal

abbrev pub invariant-loop-k : goal.invariant-loop-k
invariant-loop-k g l =
    (length l.buckets ≡ length l.fn.buckets)
    × ((c : ℕ) → c < length l.fn.buckets → get_or l.buckets c [] ≡ items_at (λ j. get_or l.labels j 0 == c) (take l.k l.items))
