-- How a run shows why it is refused, from the streams that it took its frames of.
use Rattle.std.proofs.Common.{◌≡◌, ℕ, ◌+◌, List, [], ◌∷◌, ◌++◌, length, refl, ◌∙◌, ap, subst, arith, Option, None, Some, false, true, append-nil}
use Rattle.std.specs.Prelude.{IsSome, unwrap_or}
use Rattle.std.specs.Io.KnownBytes.{Consumes, IsAtEnd}
use Rattle.aea_io.specs.Taken.{Counts}

-- The input and what is left of it, where it is known: these bytes were taken.
pub record AreRevealed (left rest : Option (List ℕ)) (bytes : List ℕ) : Type 0 where
  pub input : List ℕ
  pub input_is : left ≡ Some input
  pub given : unwrap_or left [] ≡ input
  pub stream : List ℕ
  pub stream_is : rest ≡ Some stream
  pub parts : input ≡ bytes ++ stream

pub are_revealed : (left rest : Option (List ℕ)) (bytes : List ℕ) → IsSome left → Consumes left rest bytes → AreRevealed left rest bytes
are_revealed None rest bytes some taken = let h : false ≡ true = some in cc
are_revealed (Some xs) None bytes some taken = absurd taken
are_revealed (Some xs) (Some ys) bytes some taken = record { input = xs; input_is = refl; given = refl; stream = ys; stream_is = refl; parts = taken }

-- where the source was read to its end, as many bytes were counted as it had
pub counted_all : (rest after : Option (List ℕ)) (stream : List ℕ) (at next n : ℕ) → rest ≡ Some stream → Counts rest after at next n → IsAtEnd after → next ≡ at + length stream
counted_all None after stream at next n is counts end = let h : None ≡ Some stream = is in cc
counted_all (Some xs) None stream at next n is counts end = absurd counts.taken
counted_all (Some xs) (Some ys) stream at next n is counts end =
    let same : xs ≡ stream = cc in
    let all : xs ≡ counts.bytes = counts.taken ∙ ap (λ (l : List ℕ). counts.bytes ++ l) end ∙ append-nil counts.bytes in
    omega (arith, counts.counted, ap length all, ap length same)

-- where no byte was counted, none was taken
pub counted_none : (rest after : Option (List ℕ)) (at next n : ℕ) → Counts rest after at next n → next ≡ at → Consumes rest after []
counted_none rest after at next n counts same = subst (Consumes rest after) (nothing counts.bytes (let c = counts.counted in omega (arith, c, same))) counts.taken
  where
    nothing : (bytes : List ℕ) → length bytes ≡ 0 → bytes ≡ []
    nothing [] none = refl
    nothing (x ∷ xs) none = absurd (omega (arith, none))
