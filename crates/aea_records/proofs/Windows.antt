-- A head is judged by its first 315 bytes.
use Rattle.std.proofs.Common.{◌≡◌, ℕ, ◌+◌, ◌≤◌, true, sym, subst, arith, inl, inr}
use Rattle.std.specs.Prelude.{nat_le}
use Rattle.std.specs.Int.{w8, w16, w32, w64, from_be_bytes}
use Rattle.std.proofs.lemmas.Bool.{and_parts, leb-true}
use Rattle.aea_lattice.specs.declared.shape.Shape.{Shape}
use Rattle.aea_records.specs.Tables.{Table, Part, Late, End, IsWithin}
use Rattle.aea_records.proofs.Turns.{fronts_are_judged_alike}
use Rattle.aea_records.specs.Format.{Stored}
use Rattle.aea_records.specs.Known.{Known}
use Rattle.aea_records.specs.Fields.{Head, is_kind, kind_fields, head_fields, front_fields, object_fields, joined_fields, stored_with}
use Rattle.aea_records.proofs.Rests.{HeadsAreShort}
use Rattle.aea_records.proofs.Fronts.{kinds}

front_within : (known : Known) (next : Stored → Table (ℕ × Head)) → ((long : ℕ) → long ≤ 255 → (o : Stored) → IsWithin (next o) (8 + long + 8 + 32 + 4) 315) → IsWithin (front_fields known next) 6 315
front_within known next more = (
  omega arith,
  λ two good.
      let long : ℕ = from_be_bytes w16 two in
      let short : from_be_bytes w16 two ≤ 255 = leb-true (from_be_bytes w16 two) 255 (and_parts (nat_le 1 (from_be_bytes w16 two)) (nat_le (from_be_bytes w16 two) 255) good).1 in (
        omega (arith, short),
        λ name new. (
          omega (arith, short),
          λ size all. (
            omega (arith, short),
            λ digest each.
                (omega (arith, short), λ first is. more (from_be_bytes w16 two) short (stored_with name (from_be_bytes w64 size) digest (from_be_bytes w32 first))),
          ),
        ),
      ),
)

kind_within : (shape : Shape) (known : Known) (bytes kind : ℕ) → is_kind known kind ≡ true → IsWithin (kind_fields shape known bytes kind) 6 315
kind_within shape known bytes kind is =
    elim (kinds known kind is) [
      | inl one ↦ subst (λ (k : ℕ). IsWithin (kind_fields shape known bytes k) 6 315) (sym one) (front_within known (object_fields shape known bytes) (λ long short o. (omega (arith, short), λ count good. tt)))
      | inr (inl two) ↦ subst (λ (k : ℕ). IsWithin (kind_fields shape known bytes k) 6 315) (sym two) (omega arith, λ node good. tt)
      | inr (inr (inl three)) ↦ subst (λ (k : ℕ). IsWithin (kind_fields shape known bytes k) 6 315) (sym three.0) (front_within known (joined_fields known bytes) (λ long short o. (omega (arith, short), λ count good. (omega (arith, short), λ parts few. tt))))
      | inr (inr (inr four)) ↦ subst (λ (k : ℕ). IsWithin (kind_fields shape known bytes k) 6 315) (sym four) (omega arith, λ limit good. tt)
    ]

-- the fields of a record up to the first that may be long are judged in the first 315 bytes from its gate on, or
-- more, as in all of them
pub heads_are_short : HeadsAreShort
heads_are_short shape known bytes size long =
    fronts_are_judged_alike (ℕ × Head) (head_fields shape known) bytes 1 size
    (grow (head_fields shape known) 1 315 size long (omega arith, λ kind is. (omega arith, λ more all. kind_within shape known (from_be_bytes w32 more) (from_be_bytes w8 kind) is)))
  where
    grow : {A : Type 0} (table : Table A) (at end size : ℕ) → end ≤ size → IsWithin table at end → IsWithin table at size
    grow (Part n test next) at end size h within = (omega (arith, within.0, h), λ part good. grow (next part) (at + n) end size h (within.1 part good))
    grow (Late place good next) at end size h within = grow next at end size h within
    grow (End a) at end size h within = tt
