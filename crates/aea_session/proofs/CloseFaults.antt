-- Faults that are passed on.
use Rattle.std.proofs.Common.{◌≡◌, Result, Ok, Err, sym, ◌∙◌, ap}

-- what is Ok is no fault
pub ok_no_fault : {T E : Type 0} {result : Result T E} {v : T} {e : E} → result ≡ Ok v → result ≡ Err e → ⊥
ok_no_fault ok is = absurd (cc)

-- a result that is one fault and another
pub met_fault : {T E : Type 0} {result : Result T E} {met is other : E} → result ≡ Err met → met ≡ is → result ≡ Err other → (let one : Result T E = Err is in one ≡ Err other)
met_fault {T} {E} {result} {met} {is} {other} was same also = sym (was ∙ ap Err same) ∙ also

-- the fault of a result, or another one
abbrev err_in : {T E : Type 0} → E → Result T E → E
err_in other (Ok x) = other
err_in other (Err e) = e

-- faults of equal results are equal, and so they are in results of another kind
pub fault_as : {T U E : Type 0} (x y : E) → ◌≡◌ {A = Result T E} (Err x) (Err y) → ◌≡◌ {A = Result U E} (Err x) (Err y)
fault_as x y e = ap (λ f. Err f) (ap (err_in x) e)
