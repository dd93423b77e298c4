-- Faults that are passed on.
use Rattle.std.proofs.Common.{◌≡◌, Result, Ok, Err, ap}
use Rattle.aea_append.specs.declared.fault.PutFault.{PutFault}

-- the fault of a result, or another one
abbrev err_in : {T : Type 0} → PutFault → Result T PutFault → PutFault
err_in other (Ok x) = other
err_in other (Err e) = e

-- faults of equal results are equal
fault_is : {T : Type 0} (x y : PutFault) → ◌≡◌ {A = Result T PutFault} (Err x) (Err y) → x ≡ y
fault_is x y e = ap (err_in x) e

-- and so they are in results of another kind
pub fault_as : {T U : Type 0} (x y : PutFault) → ◌≡◌ {A = Result T PutFault} (Err x) (Err y) → ◌≡◌ {A = Result U PutFault} (Err x) (Err y)
fault_as x y e = ap (λ (f : PutFault). Err f) (fault_is x y e)
