use Rattle.std.proofs.Common.{◌≡◌, take, length}
use Rattle.aea_gauss_words.specs.Words.{is_bit}
use Rattle.aea_readings.specs.Small.{own_column, equations_at}
use Rattle.aea_gauss.proofs.read.read_equations.Given as goal

abbrev pub invariant-loop-row : goal.invariant-loop-row
invariant-loop-row l = l.list ≡ equations_at (λ j. is_bit l.words l.begin (own_column l.count (length l.equations) j)) (take l.row l.equations)
