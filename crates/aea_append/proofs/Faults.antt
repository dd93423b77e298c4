-- Faults that are passed on.
use Rattle.std.proofs.Common.{◌≡◌, ◌⊎◌, inl, inr, ℕ, Result, Ok, Err, sym, ◌∙◌, ap}
use Rattle.aea_append.specs.declared.fault.PutFault.{PutFault}
use Rattle.aea_append.specs.declared.fault.PutFault.TheVariants.{Full, ReadFault}
use Rattle.aea_append.specs.Causes.{IsHeadRefused}

-- the fault of a result, or another one
abbrev err_in : {T : Type 0} → PutFault → Result T PutFault → PutFault
err_in other (Ok x) = other
err_in other (Err e) = e

-- faults of equal results are equal
pub fault_is : {T : Type 0} (x y : PutFault) → ◌≡◌ {A = Result T PutFault} (Err x) (Err y) → x ≡ y
fault_is x y e = ap (err_in x) e

-- and so they are in results of another kind
pub fault_as : {T U : Type 0} (x y : PutFault) → ◌≡◌ {A = Result T PutFault} (Err x) (Err y) → ◌≡◌ {A = Result U PutFault} (Err x) (Err y)
fault_as x y e = ap (λ (f : PutFault). Err f) (fault_is x y e)

-- what is Ok is no fault
pub ok_no_fault : {T E : Type 0} {result : Result T E} {v : T} {e : E} → result ≡ Ok v → result ≡ Err e → ⊥
ok_no_fault ok is = absurd (cc)

-- a result that is one fault and another
pub met_fault : {T E : Type 0} {result : Result T E} {met is other : E} → result ≡ Err met → met ≡ is → result ≡ Err other → (let one : Result T E = Err is in one ≡ Err other)
met_fault {T} {E} {result} {met} {is} {other} was same also = sym (was ∙ ap Err same) ∙ also

-- what is Ok is no refusal of too many bytes or of a damaged last parity
pub ok_not_over : {T : Type 0} {r : Result T PutFault} {x : T} {k : ℕ} → r ≡ Ok x → (r ≡ Err (Full k)) ⊎ IsHeadRefused r → ⊥
ok_not_over ok (inl full) = absurd (cc)
ok_not_over ok (inr (inl head)) = absurd (let e = head.1 in cc)
ok_not_over ok (inr (inr (inl disk))) = absurd (cc)
ok_not_over ok (inr (inr (inr memory))) = absurd (cc)

-- nor is a read that failed
pub read_not_over : {T : Type 0} {r : Result T PutFault} {k : ℕ} → r ≡ Err ReadFault → (r ≡ Err (Full k)) ⊎ IsHeadRefused r → ⊥
read_not_over read (inl full) = absurd (cc)
read_not_over read (inr (inl head)) = absurd (let e = head.1 in cc)
read_not_over read (inr (inr (inl disk))) = absurd (cc)
read_not_over read (inr (inr (inr memory))) = absurd (cc)
