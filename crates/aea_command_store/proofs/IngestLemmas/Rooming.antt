-- The space for one more frame, once some were stored: where the ledger that is then there ends, what is counted there, and
-- that the disk has space to sync it.
use Rattle.std.proofs.Common.{◌≡◌, ◌≢◌, ℕ, zero, suc, ◌+◌, ◌*◌, List, [], ◌∷◌, ◌++◌, length, get_or, All, refl, sym, ◌∙◌, ap, arith, length-append}
use Rattle.std.specs.Int.{w16, w32, w64, to_be_bytes}
use Rattle.std.specs.List.{flat_map}
use Rattle.std.proofs.lemmas.List.Concat.{flat_map-append}
use Rattle.std.proofs.lemmas.List.Elements.{All-head, All-tail}
use Rattle.aea_lattice.specs.Data.{IsBytes}
use Rattle.aea_lattice.specs.declared.shape.Shape.{Shape}
use Rattle.aea_disk.specs.Ends.{EndsAt, Reaches, behind}
use Rattle.aea_disk.specs.State.{State, Passes}
use Rattle.aea_records.specs.Format.{Record, Stored, Object, front, rest_of, header, entry, spelled}
use Rattle.aea_records.specs.Grammar.{IsLedger, MayBeStored}
use Rattle.aea_ledger.specs.Taking.{FitsAdding}
use Rattle.aea_ledger.proofs.Ends.{ledger_ends}
use Rattle.aea_append.specs.Causes.{next_end}

-- ---- the records of one file

-- from one gate on, as many whole records lie before each gate that is not open
alike : (bytes : List ℕ) (before m n : ℕ) (from a b : ℕ) → Reaches bytes before m from a → Reaches bytes before n from b → get_or bytes a 0 ≢ 1 → get_or bytes b 0 ≢ 1 → m ≡ n
alike bytes before zero zero from a b one two shut_a shut_b = refl
alike bytes before zero (suc n) from a b one two shut_a shut_b = absurd (shut_a (ap (λ (i : ℕ). get_or bytes i 0) (sym one) ∙ two.0.opened))
alike bytes before (suc m) zero from a b one two shut_a shut_b = absurd (shut_b (ap (λ (i : ℕ). get_or bytes i 0) (sym two) ∙ one.0.opened))
alike bytes before (suc m) (suc n) from a b one two shut_a shut_b = ap suc (alike bytes (suc before) m n (behind bytes from) a b one.1 two.1 shut_a shut_b)

ends_alike : (bytes : List ℕ) (m n : ℕ) (one : EndsAt bytes m) (two : EndsAt bytes n) → one.records ≡ two.records
ends_alike bytes m n one two = alike bytes 0 one.records two.records 17 m n one.reaches two.reaches one.shut two.shut

-- ---- the space for records

module _ (old now : State) (shape other : Shape) (records : List Record) (end last : ℕ) (before : IsLedger (old.files 0) shape records end) (time : Passes old now) where
  -- what is space for some records and one more is space for the one, where the others are there
  pub adding_after : (added : List Record) → IsLedger (now.files 0) other (records ++ added) last → now.keeps (now.files 0) → (next : ℕ) → FitsAdding old (length added + 1) next → FitsAdding now 1 next
  adding_after added after kept next fit =
      let first = ledger_ends (old.files 0) shape records end before in
      let here = ledger_ends (now.files 0) other (records ++ added) last after in
      record {
        room = time.room 0 (next + 1) fit.room;
        now = kept;
        then = λ bytes at one two count.
            let many : one.records ≡ length records + length added = ends_alike (now.files 0) at last one here.ends ∙ here.count ∙ length-append records added in
            time.syncs bytes (fit.then bytes end first.ends two (omega (arith, count, many, first.count)));
      }

  -- where the one is there too, there is space to sync
  pub kept_after : (r : Record) → IsLedger (now.files 0) other (records ++ r ∷ []) last → FitsAdding old 1 last → now.keeps (now.files 0)
  kept_after r after fit =
      let first = ledger_ends (old.files 0) shape records end before in
      let here = ledger_ends (now.files 0) other (records ++ r ∷ []) last after in
      let many : length (records ++ r ∷ []) ≡ length records + 1 = length-append records (r ∷ []) ∙ omega arith in
      time.syncs (now.files 0) (fit.then (now.files 0) end first.ends here.ends (omega (arith, here.count, first.count, many)))

-- ---- where a ledger ends after one more object

digests_long : (ds : List (List ℕ)) → All (IsBytes 32) ds → length (flat_map (λ d. d) ds) ≡ 32 * length ds
digests_long [] each = let e : 0 ≡ 32 * 0 = omega arith in e
digests_long (d ∷ ds) each =
    let one = (All-head (IsBytes 32) d ds each).wide in
    let rest = digests_long ds (All-tail (IsBytes 32) d ds each) in
    omega (arith, one, rest, length-append d (flat_map (λ (x : List ℕ). x) ds))

six : (a b c d e f : List ℕ) → length a ≡ 2 → length c ≡ 8 → length d ≡ 32 → length e ≡ 4 → length f ≡ 4 → length (a ++ b ++ c ++ d ++ e ++ f) ≡ 50 + length b
six a b c d e f pa pc pd pe pf = simp (length-append) (omega arith)

front_long : (o : Stored) → length o.digest ≡ 32 → length (front o) ≡ 50 + length o.name
front_long o wide = six (to_be_bytes w16 (length o.name)) o.name (to_be_bytes w64 o.size) o.digest (to_be_bytes w32 o.first) (to_be_bytes w32 o.count) refl refl wide refl refl

entry_long : (shape : Shape) (earlier : List Record) (o : Stored) → MayBeStored shape earlier o → length (entry (Object o)) ≡ 56 + length o.name + 32 * (o.count * (1 + shape.alpha))
entry_long shape earlier o may =
    let rest : length (rest_of (Object o)) ≡ 50 + length o.name + 32 * (o.count * (1 + shape.alpha)) =
    length-append (front o) (flat_map (λ (d : List ℕ). d) o.digests) ∙ omega (arith, front_long o may.digest.wide, digests_long o.digests may.each, ap (λ (n : ℕ). 32 * n) may.digests) in
    let size : length (entry (Object o)) ≡ 6 + length (rest_of (Object o)) = omega (arith, length-append (to_be_bytes w32 (length (rest_of (Object o)))) (rest_of (Object o))) in
    omega (arith, size, rest)

-- records with others after them
pub spelled_long : (shape : Shape) (records added : List Record) → length (spelled shape (records ++ added)) ≡ length (spelled shape records) + length (flat_map entry added)
spelled_long shape records added =
    ap (λ (l : List ℕ). length (header shape ++ l)) (flat_map-append entry records added)
    ∙ omega (arith, length-append (header shape) (flat_map entry records ++ flat_map entry added), length-append (flat_map entry records) (flat_map entry added), length-append (header shape) (flat_map entry records))

pub spelled_next : (shape : Shape) (records : List Record) (o : Stored) → MayBeStored shape records o → length (spelled shape (records ++ Object o ∷ [])) ≡ next_end (length (spelled shape records)) (length o.name) (o.count * (1 + shape.alpha))
spelled_next shape records o may =
    let one : length (flat_map entry (Object o ∷ [])) ≡ length (entry (Object o)) = length-append (entry (Object o)) [] ∙ omega arith in
    omega (arith, spelled_long shape records (Object o ∷ []), one, entry_long shape records o may)
