-- What was taken from a source.
use Rattle.std.proofs.Common.{ℕ, ◌+◌, ◌≤◌, List, [], ◌++◌, Option, arith}
use Rattle.std.proofs.lemmas.List.{length-append}
use Rattle.std.proofs.KnownBytes.{Consumes-nil, Consumes-trans}
use Rattle.aea_io.specs.Taken.{TakesAtMost}

-- nothing was taken
pub TakesAtMost-none : (a : Option (List ℕ)) (n : ℕ) → TakesAtMost a a n
TakesAtMost-none a n = ([], Consumes-nil a, omega arith)

-- a greater bound
pub TakesAtMost-more : (a b : Option (List ℕ)) (m n : ℕ) → TakesAtMost a b m → m ≤ n → TakesAtMost a b n
TakesAtMost-more a b m n taken more = (taken.0, taken.1, omega (arith, taken.2))

-- bytes that were taken one after another
pub TakesAtMost-then : (a b c : Option (List ℕ)) (m n : ℕ) → TakesAtMost a b m → TakesAtMost b c n → TakesAtMost a c (m + n)
TakesAtMost-then a b c m n first then =
    (first.0 ++ then.0, Consumes-trans a b c first.0 then.0 first.1 then.1, simp length-append (omega (arith, first.2, then.2)))
