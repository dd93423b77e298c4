-- A copy that was made anew, by what is answered.
use Rattle.std.proofs.Common.{None, Some}
use Rattle.std.specs.Prelude.{Option, MatchOption, IfSome}

-- there is an answer, so what it says
pub made_whole : {A : Type 0} (P : A → Type 0) (Q : Type 0) (found : Option A) → MatchOption found ⊥ (λ w. P w × Q) → Q
made_whole P Q None made = absurd made
made_whole P Q (Some w) made = made.1

-- and what is known wherever there is one
pub made_some : {A : Type 0} (P : A → Type 0) (Q : Type 0) (found : Option A) → MatchOption found ⊥ P → IfSome found (λ w. Q) → Q
made_some P Q None made some = absurd made
made_some P Q (Some w) made some = some
