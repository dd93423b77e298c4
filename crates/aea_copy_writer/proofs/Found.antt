-- Clauses of a result that may be none.
use Rattle.std.proofs.Common.{Result, Ok, Err, Option, Some, None, IfOk, IfSome, IfNone}

pub found_both : {A E : Type 0} (r : Result (Option A) E) (P Q T : A → Type 0) → ((x : A) → P x → Q x → T x) → IfOk r (λ f. IfSome f P) → IfOk r (λ f. IfSome f Q) → IfOk r (λ f. IfSome f T)
found_both (Ok (Some x)) P Q T join p q = join x p q
found_both (Ok None) P Q T join p q = tt
found_both (Err e) P Q T join p q = tt

pub found_all : {A E : Type 0} (r : Result (Option A) E) (P Q S T : A → Type 0) → ((x : A) → P x → Q x → S x → T x) → IfOk r (λ f. IfSome f P) → IfOk r (λ f. IfSome f Q) → IfOk r (λ f. IfSome f S) → IfOk r (λ f. IfSome f T)
found_all (Ok (Some x)) P Q S T join p q s = join x p q s
found_all (Ok None) P Q S T join p q s = tt
found_all (Err e) P Q S T join p q s = tt

pub none_weaker : {A E : Type 0} (r : Result (Option A) E) (P Q : Type 0) → (P → Q) → IfOk r (λ f. IfNone f P) → IfOk r (λ f. IfNone f Q)
none_weaker (Ok (Some x)) P Q weaker p = tt
none_weaker (Ok None) P Q weaker p = weaker p
none_weaker (Err e) P Q weaker p = tt

pub found_weaker : {A E : Type 0} (r : Result (Option A) E) (P T : A → Type 0) → ((x : A) → P x → T x) → IfOk r (λ f. IfSome f P) → IfOk r (λ f. IfSome f T)
found_weaker (Ok (Some x)) P T weaker p = weaker x p
found_weaker (Ok None) P T weaker p = tt
found_weaker (Err e) P T weaker p = tt
