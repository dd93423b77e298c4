-- Records are short, and there are not many.
use Rattle.std.proofs.Common.{◌≡◌, ◌≢◌, ◌+◌, ◌^◌, ◌<◌, Bool, true, false, ◌||◌, List, [], ◌∷◌, ◌++◌, length, All, refl, ap, arith}
use Rattle.std.specs.List.{list_any}
use Rattle.std.proofs.lemmas.List.{length-append}
use Rattle.std.proofs.lemmas.List.Elements.{All-append, All-nil, All-cons}
use Rattle.aea_lattice.specs.declared.shape.Shape.{Shape}
use Rattle.aea_records.specs.Format.{Record, Object, Joined, Fence, Raise, raised_limit, limit_when, is_raise, stored_of, fences_of, rest_of}
use Rattle.aea_records.specs.Grammar.{IsNext, AreRecords}
use Rattle.aea_records.specs.Laws.{RecordsAreShort}
use Rattle.aea_records.proofs.Behind.{stored-push}
use Rattle.aea_records.proofs.OneMore.{fences_of-push, raised-push}
use Rattle.aea_records.proofs.Counts.{along, raises, raises-small, object_size, joined_size, few_fences, records_are_few}

-- each record is of an object, a fence or a raise
record AreCounted (records : List Record) : Type 0 where
  each : All (λ r. length (rest_of r) < 2 ^ 28) records
  kinds : length records ≡ length (stored_of records) + length (fences_of records) + raises (list_any is_raise records)

short_next : (shape : Shape) (earlier : List Record) (r : Record) → IsNext shape earlier r → length (rest_of r) < 2 ^ 28
short_next shape earlier (Object o) next = omega (arith, object_size shape earlier o next.stored)
short_next shape earlier (Joined o parts) next = omega (arith, joined_size shape earlier o parts next)
short_next shape earlier (Fence node) next = omega arith
short_next shape earlier Raise next = omega arith

raises_with : (b : Bool) → raises (b || false) ≡ raises b
raises_with true = refl
raises_with false = refl

raises_once : (b : Bool) → limit_when b ≢ raised_limit → raises (b || true) ≡ raises b + 1
raises_once true h = absurd (h refl)
raises_once false h = refl

kinds_next : (shape : Shape) (earlier : List Record) (r : Record) → IsNext shape earlier r → length earlier ≡ length (stored_of earlier) + length (fences_of earlier) + raises (list_any is_raise earlier)
    → length (earlier ++ r ∷ []) ≡ length (stored_of (earlier ++ r ∷ [])) + length (fences_of (earlier ++ r ∷ [])) + raises (list_any is_raise (earlier ++ r ∷ []))
kinds_next shape earlier (Object o) next kinds =
    omega (arith, kinds, length-append earlier (Object o ∷ []), stored-push earlier (Object o), ap length (fences_of-push earlier (Object o)), length-append (fences_of earlier) [], ap raises (raised-push earlier (Object o)), raises_with (list_any is_raise earlier))
kinds_next shape earlier (Joined o parts) next kinds =
    omega (arith, kinds, length-append earlier (Joined o parts ∷ []), stored-push earlier (Joined o parts), ap length (fences_of-push earlier (Joined o parts)), length-append (fences_of earlier) [], ap raises (raised-push earlier (Joined o parts)), raises_with (list_any is_raise earlier))
kinds_next shape earlier (Fence node) next kinds =
    omega (arith, kinds, length-append earlier (Fence node ∷ []), stored-push earlier (Fence node), ap length (fences_of-push earlier (Fence node)), length-append (fences_of earlier) (node ∷ []), ap raises (raised-push earlier (Fence node)), raises_with (list_any is_raise earlier))
kinds_next shape earlier Raise next kinds =
    omega (arith, kinds, length-append earlier (Raise ∷ []), stored-push earlier Raise, ap length (fences_of-push earlier Raise), length-append (fences_of earlier) [], ap raises (raised-push earlier Raise), raises_once (list_any is_raise earlier) next)

counted : (shape : Shape) (records : List Record) → AreRecords shape records → AreCounted records
counted shape records valid =
    along shape AreCounted
    (λ (earlier : List Record) (r : Record) (before : AreCounted earlier) (next : IsNext shape earlier r). record {
      each = All-append (λ (q : Record). length (rest_of q) < 2 ^ 28) earlier (r ∷ []) before.each (All-cons (λ (q : Record). length (rest_of q) < 2 ^ 28) r [] (short_next shape earlier r next) (All-nil (λ (q : Record). length (rest_of q) < 2 ^ 28)));
      kinds = kinds_next shape earlier r next before.kinds;
    })
    [] records (record { each = All-nil (λ (q : Record). length (rest_of q) < 2 ^ 28); kinds = refl }) valid

-- no record of a ledger is long, and there are not many: a ledger's gates show where records end, and within the
-- limits of a copy
pub records_are_short : RecordsAreShort
records_are_short shape records valid =
    let c = counted shape records valid in
    record {
      each = c.each;
      few = omega (arith, c.kinds, (records_are_few shape records valid).objects, few_fences shape records valid, raises-small (list_any is_raise records));
    }
