-- What is bad from a gate on.
use Rattle.std.proofs.Common.{◌≡◌, ◌≢◌, ℕ, ◌+◌, Bool, true, false, ◌&&◌, ◌==◌, List, ◌∷◌, ◌++◌, length, drop, Result, Ok, None, Some, refl, ap, ◌∙◌, arith}
use Rattle.std.specs.Prelude.{if◌then◌else◌}
use Rattle.std.proofs.lemmas.Bool.{eq-eqb, ne_eqb}
use Rattle.aea_lattice.specs.declared.shape.Shape.{Shape}
use Rattle.aea_records.specs.Tables.{judge}
use Rattle.aea_records.proofs.Judging.{spelled_is_judged}
use Rattle.aea_records.specs.Format.{Record, Object, Joined, Fence, Raise, open_gate, greatest_objects, stored_of, entry, body}
use Rattle.aea_records.specs.Known.{Known, known_of}
use Rattle.aea_records.specs.Fields.{record_fields}
use Rattle.aea_records.specs.Grammar.{IsNext}
use Rattle.aea_records.specs.Faults.{bad_of, is_full, gate_fault}
use Rattle.aea_records.proofs.Objects.{next_is_spelled}

-- nothing is bad from a closed gate on
pub closed_gate : (shape : Shape) (known : Known) (gate : ℕ) (after : List ℕ) → gate ≢ open_gate → gate_fault shape known (gate ∷ after) ≡ None
closed_gate shape known gate after closed = rw (ne_eqb gate open_gate closed)

-- after an open gate
pub opened_gate : (shape : Shape) (known : Known) (gate : ℕ) (after : List ℕ) → gate ≡ open_gate
    → gate_fault shape known (gate ∷ after) ≡ (if is_full known (gate ∷ after) then Some 0 else bad_of (judge (record_fields shape known) 1 (gate ∷ after)))
opened_gate shape known gate after opened = rw (eq-eqb gate open_gate opened)

none_full : (a b : Bool) → a ≡ false → (a && b) ≡ false
none_full false b e = refl
none_full true b e = absurd (let f : true ≡ false = e in cc)

-- where a record is next the ledger is not too full for it
pub not_full : (shape : Shape) (earlier : List Record) (r : Record) (rest : List ℕ) → IsNext shape earlier r → is_full (known_of earlier) (entry r ++ rest) ≡ false
not_full shape earlier (Object o) rest next = none_full (length (stored_of earlier) == greatest_objects) _ (ne_eqb (length (stored_of earlier)) greatest_objects (λ e. absurd (let f = next.stored.few in omega (arith, e, f))))
not_full shape earlier (Joined o parts) rest next = none_full (length (stored_of earlier) == greatest_objects) _ (ne_eqb (length (stored_of earlier)) greatest_objects (λ e. absurd (let f = next.stored.few in omega (arith, e, f))))
not_full shape earlier (Fence node) rest next = last (length (stored_of earlier) == greatest_objects)
  where
    last : (a : Bool) → (a && false) ≡ false
    last true = refl
    last false = refl
not_full shape earlier Raise rest next = last (length (stored_of earlier) == greatest_objects)
  where
    last : (a : Bool) → (a && false) ≡ false
    last true = refl
    last false = refl

-- a record that is next is judged to be this one
pub next_judged : (shape : Shape) (earlier : List Record) (r : Record) (rest bytes : List ℕ) → IsNext shape earlier r → bytes ≡ entry r ++ rest
    → judge (record_fields shape (known_of earlier)) 1 bytes ≡ Ok (r, 1 + length (body r))
next_judged shape earlier r rest bytes next spelling =
    spelled_is_judged Record (record_fields shape (known_of earlier)) (body r) rest bytes 1 r (next_is_spelled shape earlier r next)
    (omega (arith, ap length spelling)) (ap (drop 1) spelling)

-- and nothing is bad from its gate on
pub next_gate : (shape : Shape) (earlier : List Record) (r : Record) (rest : List ℕ) → IsNext shape earlier r → gate_fault shape (known_of earlier) (entry r ++ rest) ≡ None
next_gate shape earlier r rest next =
    opened_gate shape (known_of earlier) open_gate (body r ++ rest) refl
    ∙ ap (λ (b : Bool). if b then Some 0 else bad_of (judge (record_fields shape (known_of earlier)) 1 (entry r ++ rest))) (not_full shape earlier r rest next)
    ∙ ap (λ (x : Result (Record × ℕ) ℕ). bad_of x) (next_judged shape earlier r rest (entry r ++ rest) next refl)
