-- What is said of an answer, in each case of it.
use Rattle.std.proofs.Common.{◌≡◌, Option, Some, None, Err, sym, subst}
use Rattle.std.specs.Prelude.{MatchOption, IfSome, IfNone, Result, MatchResult}

-- of one that is there
pub some_of : {A : Type 0} (P : Type 0) (Q : A → Type 0) (o : Option A) → MatchOption o P Q → IfSome o Q
some_of P Q None m = tt
some_of P Q (Some x) m = m

-- of one that is not
pub none_of : {A : Type 0} (P : Type 0) (Q : A → Type 0) (o : Option A) → MatchOption o P Q → IfNone o P
none_of P Q None m = m
none_of P Q (Some x) m = tt

-- and where it is known that it is not
pub at_none : {A : Type 0} (o : Option A) (P : Type 0) → o ≡ None → IfNone o P → P
at_none o P e h = subst (λ x. IfNone x P) e h

-- one that is not says less too
pub none_weaker : {A : Type 0} (o : Option A) (P Q : Type 0) → (P → Q) → IfNone o P → IfNone o Q
none_weaker None P Q f h = f h
none_weaker (Some x) P Q f h = tt

-- of a fault
pub at_exit : {T E : Type 0} (r : Result T E) (P : T → Type 0) (Q : E → Type 0) (fault : E) → r ≡ Err fault → Q fault → MatchResult r P Q
at_exit r P Q fault e h = subst (λ x. MatchResult x P Q) (sym e) h
