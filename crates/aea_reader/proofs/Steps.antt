-- One step of reading a line: a piece of what is ahead is moved to it.
use Rattle.std.proofs.Common.{◌≡◌, ℕ, suc, ◌+◌, ◌<◌, ◌≤◌, List, [], ◌∷◌, ◌++◌, length, length-append, Bool, true, false, Option, arith, sym, ◌∙◌, ap, subst}
use Rattle.std.specs.Io.KnownBytes.{Consumes, IsAtEnd}
use Rattle.std.proofs.lemmas.List.{append-nil}
use Rattle.aea_report.specs.Faults.{greatest_line}
use Rattle.aea_reader.specs.Pieces.{behind, Moves, Gathers, HasLine}
use Rattle.aea_reader.specs.declared.lines.LineEnd.TheVariants.{Newline, Last, TooLong}
use Rattle.aea_reader.proofs.Pieces.{gathers_as, gathers_more}

moved_true : (line ahead grown after : List ℕ) (met : Bool) → Moves line ahead grown after met → met ≡ true → line ++ ahead ≡ grown ++ 10 ∷ after
moved_true line ahead grown after met moves is = subst (λ m. line ++ ahead ≡ grown ++ behind m after) is moves.are

moved_false : (line ahead grown after : List ℕ) (met : Bool) → Moves line ahead grown after met → met ≡ false → line ++ ahead ≡ grown
moved_false line ahead grown after met moves is =
    subst (λ m. line ++ ahead ≡ grown ++ behind m after) is moves.are ∙ ap (λ xs. grown ++ xs) (moves.rest is) ∙ append-nil grown

-- a newline was met
pub step_ended : (from : List ℕ) (old new : Option (List ℕ)) (line ahead grown after : List ℕ) (met : Bool) → Gathers from old new (line ++ ahead) → Moves line ahead grown after met
    → met ≡ true → length line + length ahead ≤ greatest_line + 1 → HasLine from old new grown after Newline
step_ended from old new line ahead grown after met g moves is short =
    let are = moved_true line ahead grown after met moves is in
    let size : length line + length ahead ≡ length grown + suc (length after) = sym (length-append line ahead) ∙ ap length are ∙ length-append grown (10 ∷ after) in
    (gathers_as from old new (line ++ ahead) (grown ++ 10 ∷ after) are g, omega arith)

-- all was moved
pub step_on : (from : List ℕ) (old new : Option (List ℕ)) (line ahead grown after : List ℕ) (met : Bool) → Gathers from old new (line ++ ahead) → Moves line ahead grown after met
    → met ≡ false → Gathers from old new grown
step_on from old new line ahead grown after met g moves is =
    gathers_as from old new (line ++ ahead) grown (moved_false line ahead grown after met moves is) g

pub step_size : (line ahead grown after : List ℕ) (met : Bool) → Moves line ahead grown after met → met ≡ false → length line + length ahead ≡ length grown
step_size line ahead grown after met moves is = sym (length-append line ahead) ∙ ap length (moved_false line ahead grown after met moves is)

-- and the line has its first byte that is too many
pub step_long : (from : List ℕ) (old new : Option (List ℕ)) (line ahead grown after : List ℕ) (met : Bool) → Gathers from old new (line ++ ahead) → Moves line ahead grown after met
    → met ≡ false → length line + length ahead ≤ greatest_line + 1 → greatest_line < length grown → HasLine from old new grown after TooLong
step_long from old new line ahead grown after met g moves is short long =
    let size = step_size line ahead grown after met moves is in
    (step_on from old new line ahead grown after met g moves is, moves.rest is, omega arith)

-- or more was taken
pub step_more : (from : List ℕ) (old mid new : Option (List ℕ)) (line ahead grown after more : List ℕ) (met : Bool) → Gathers from old mid (line ++ ahead) → Moves line ahead grown after met
    → met ≡ false → Consumes mid new more → Gathers from old new (grown ++ more)
step_more from old mid new line ahead grown after more met g moves is took =
    gathers_more from old mid new grown more (step_on from old mid line ahead grown after met g moves is) took

-- or there is no more
pub step_last : (from : List ℕ) (old mid new : Option (List ℕ)) (line ahead grown after more : List ℕ) (met : Bool) → Gathers from old mid (line ++ ahead) → Moves line ahead grown after met
    → met ≡ false → length grown ≤ greatest_line → Consumes mid new more → more ≡ [] → IsAtEnd new → HasLine from old new grown more Last
step_last from old mid new line ahead grown after more met g moves is short took none end =
    (gathers_as from old new (grown ++ more) grown (ap (λ xs. grown ++ xs) none ∙ append-nil grown) (step_more from old mid new line ahead grown after more met g moves is took), none, end, short)
