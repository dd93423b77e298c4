-- The space of the output that replies take.
use Rattle.std.proofs.Common.{◌≡◌, ◌-◌, ◌+◌, ℕ, List, [], ◌++◌, length, Some, Result, ◌∙◌, ap, arith, length-append}
use Rattle.aea_io.specs.Pages.{Prints}
use Rattle.aea_io.specs.Streams.{SinkState}
use Rattle.aea_session.specs.Looks.{TakesSpace}

-- nothing was written
pub space_none : (a : SinkState) → TakesSpace a a 0
space_none a room revealed enough = let same : room ≡ room - 0 = omega arith in revealed ∙ ap Some same

-- some bytes, and then others
pub space_joined : (a b d : SinkState) (xs ys : List ℕ) → TakesSpace a b (length xs) → TakesSpace b d (length ys) → TakesSpace a d (length (xs ++ ys))
space_joined a b d xs ys first second room revealed enough =
    let long = length-append xs ys in
    let here = first room revealed (omega (arith, long, enough)) in
    let both : (room - length xs) - length ys ≡ room - length (xs ++ ys) = omega (arith, long) in
    second (room - length xs) here (omega (arith, long, enough)) ∙ ap Some both

-- what was printed, with nothing gathered before and after
pub space_printed : {T E : Type 0} {a b : SinkState} {result : Result T E} {text : List ℕ} → Prints a [] b [] result text → TakesSpace a b (length text)
space_printed {T} {E} {a} {b} {result} {text} prints room revealed enough =
    let left = prints.left room revealed enough in
    let sum : left.0 + length text ≡ room + 0 = left.2 in
    let rest : left.0 ≡ room - length text = omega (arith, sum) in
    left.1 ∙ ap Some rest
