-- One reading, and one outcome, of what follows the header.
use Rattle.std.proofs.Common.{◌≡◌, ◌≢◌, ◌⊎◌, ℕ, zero, suc, ◌+◌, ◌^◌, ◌<◌, ◌≤◌, Bool, true, false, ◌&&◌, ◌||◌, ◌==◌, List, [], ◌∷◌, ◌++◌, length, drop, Result, Ok, Err, None, Some, refl, sym, ap, subst, ◌∙◌, append_assoc, arith, inl, inr}
use Rattle.std.specs.Prelude.{slice_index, if◌then◌else◌}
use Rattle.std.specs.List.{flat_map}
use Rattle.std.proofs.lemmas.Bool.{cases_eq}
use Rattle.std.proofs.lemmas.List.{append_cancel_left, append-nil, length-append, length-drop}
use Rattle.std.proofs.lemmas.List.Elements.{All-drop}
use Rattle.std.proofs.lemmas.List.Concat.{flat_map-append}
use Rattle.aea_lattice.specs.declared.shape.Shape.{Shape}
use Rattle.aea_records.specs.Tables.{Spells, judge}
use Rattle.aea_records.specs.TableLaws.{AreBytes}
use Rattle.aea_records.proofs.Judging.{judged_is_spelled}
use Rattle.aea_records.proofs.Turns.{each_has_one_text}
use Rattle.aea_records.specs.Format.{Record, Object, Joined, Fence, Raise, open_gate, greatest_objects, stored_of, stored_in, entry, body}
use Rattle.aea_records.specs.Known.{Known, known_of}
use Rattle.aea_records.specs.Fields.{record_fields}
use Rattle.aea_records.specs.Grammar.{IsNext, MayFollow, AreRecords}
use Rattle.aea_records.specs.Faults.{bad_of, is_full, gate_fault}
use Rattle.aea_records.proofs.Rests.{AreBehind, IsBadBehind, HaveOneReading, RecordsAreNotBad, AreBadAtOnePlace, EachAreOneOrBad}
use Rattle.aea_records.proofs.Objects.{next_is_spelled}
use Rattle.aea_records.proofs.Read.{spelled_is_next}
use Rattle.aea_records.proofs.OneMore.{MayFollow-push, stored_of-push}
use Rattle.aea_records.proofs.Gates.{closed_gate, opened_gate, next_gate}

-- after these records, and by what is there, one more is next
record GoesOn (shape : Shape) (earlier : List Record) (rest : List ℕ) : Type 0 where
  r : Record
  next : IsNext shape earlier r
  after : List ℕ
  spelling : rest ≡ entry r ++ after

abbrev Compared : Shape → List Record → List Record → List Record → List ℕ → List ℕ → Type 0
Compared shape earlier records others x y =
    ((records ≡ others) × (x ≡ y)) ⊎ (GoesOn shape (earlier ++ others) y ⊎ GoesOn shape (earlier ++ records) x)

begin_with : (r : Record) (records : List Record) (x : List ℕ) → flat_map entry (r ∷ records) ++ x ≡ entry r ++ (flat_map entry records ++ x)
begin_with r records x = append_assoc (entry r) (flat_map entry records) x

one_more : (shape : Shape) (earlier : List Record) (r : Record) (records others : List Record) (x y : List ℕ)
    → Compared shape (earlier ++ r ∷ []) records others x y → Compared shape earlier (r ∷ records) (r ∷ others) x y
one_more shape earlier r records others x y c =
    elim c [
      | inl same ↦ inl (ap (λ (l : List Record). r ∷ l) same.0, same.1)
      | inr (inl on) ↦ inr (inl (subst (λ (e : List Record). GoesOn shape e y) (append_assoc earlier (r ∷ []) others) on))
      | inr (inr on) ↦ inr (inr (subst (λ (e : List Record). GoesOn shape e x) (append_assoc earlier (r ∷ []) records) on))
    ]

compare : (shape : Shape) (earlier records others : List Record) (x y : List ℕ) → MayFollow shape earlier records → MayFollow shape earlier others
    → flat_map entry records ++ x ≡ flat_map entry others ++ y → Compared shape earlier records others x y
compare shape earlier [] [] x y follow follows same = inl (refl, same)
compare shape earlier [] (q ∷ others) x y follow follows same =
    inr (inr (record {
      r = q;
      next = subst (λ (e : List Record). IsNext shape e q) (sym (append-nil earlier)) follows.0;
      after = flat_map entry others ++ y;
      spelling = same ∙ begin_with q others y;
    }))
compare shape earlier (r ∷ records) [] x y follow follows same =
    inr (inl (record {
      r = r;
      next = subst (λ (e : List Record). IsNext shape e r) (sym (append-nil earlier)) follow.0;
      after = flat_map entry records ++ x;
      spelling = sym same ∙ begin_with r records x;
    }))
compare shape earlier (r ∷ records) (q ∷ others) x y follow follows same =
    let texts : entry r ++ (flat_map entry records ++ x) ≡ entry q ++ (flat_map entry others ++ y) = sym (begin_with r records x) ∙ same ∙ begin_with q others y in
    let bodies : body r ++ (flat_map entry records ++ x) ≡ body q ++ (flat_map entry others ++ y) = ap (drop 1) texts in
    let one : q ≡ r = sym (each_has_one_text Record (record_fields shape (known_of earlier)) (body r) (body q) (flat_map entry records ++ x) (flat_map entry others ++ y) r q
    (next_is_spelled shape earlier r follow.0) (next_is_spelled shape earlier q follows.0) bodies).0 in
    let rest : flat_map entry records ++ x ≡ flat_map entry others ++ y =
    append_cancel_left (entry r) (flat_map entry records ++ x) (flat_map entry others ++ y)
    (texts ∙ ap (λ (e : Record). entry e ++ (flat_map entry others ++ y)) one) in
    let more = compare shape (earlier ++ r ∷ []) records others x y follow.1
    (subst (λ (e : Record). MayFollow shape (earlier ++ e ∷ []) others) one follows.1) rest in
    subst (λ (e : Record). Compared shape earlier (r ∷ records) (e ∷ others) x y) (sym one) (one_more shape earlier r records others x y more)

-- no record is next after a closed gate
closed_ends : (shape : Shape) (earlier : List Record) (gate : ℕ) (after : List ℕ) → gate ≢ open_gate → GoesOn shape earlier (gate ∷ after) → ⊥
closed_ends shape earlier gate after closed on = closed (ap (λ (l : List ℕ). slice_index l 0) on.spelling)

-- nothing is not some number
pub none_is_not_some : (n : ℕ) → None ≡ Some n → ⊥
none_is_not_some n e = absurd cc

-- numbers are the same where the options that hold them are
pub same_some : (m n : ℕ) → Some m ≡ Some n → m ≡ n
same_some m n e = cc

-- nothing is bad where a record is next
on_is_good : (shape : Shape) (earlier : List Record) (rest : List ℕ) (fault : ℕ) → GoesOn shape earlier rest
    → gate_fault shape (known_of earlier) rest ≡ Some fault → ⊥
on_is_good shape earlier rest fault on bad =
    none_is_not_some fault (sym (ap (gate_fault shape (known_of earlier)) on.spelling ∙ next_gate shape earlier on.r on.after on.next) ∙ bad)

-- after the header, the same bytes are not two lists of records that a closed gate ends
pub have_one_reading : HaveOneReading
have_one_reading shape records others rest mine theirs =
    elim (compare shape [] records others (mine.gate ∷ mine.after) (theirs.gate ∷ theirs.after) mine.valid theirs.valid (sym mine.spelling ∙ theirs.spelling)) [
      | inl same ↦ same.0
      | inr (inl on) ↦ absurd (closed_ends shape others theirs.gate theirs.after theirs.closed on)
      | inr (inr on) ↦ absurd (closed_ends shape records mine.gate mine.after mine.closed on)
    ]

-- after the header, records that a closed gate ends are bad at no place
pub records_are_not_bad : RecordsAreNotBad
records_are_not_bad shape records rest at mine bad =
    elim (compare shape [] records bad.records (mine.gate ∷ mine.after) bad.more mine.valid bad.valid (sym mine.spelling ∙ bad.spelling)) [
      | inl same ↦ none_is_not_some bad.fault
          (sym (closed_gate shape (known_of bad.records) mine.gate mine.after mine.closed) ∙ ap (gate_fault shape (known_of bad.records)) same.1 ∙ bad.bad)
      | inr (inl on) ↦ on_is_good shape bad.records bad.more bad.fault on bad.bad
      | inr (inr on) ↦ closed_ends shape records mine.gate mine.after mine.closed on
    ]

-- after the header, no bytes are bad at two places
pub are_bad_at_one_place : AreBadAtOnePlace
are_bad_at_one_place shape rest at other mine theirs =
    elim (compare shape [] mine.records theirs.records mine.more theirs.more mine.valid theirs.valid (sym mine.spelling ∙ theirs.spelling)) [
      | inl same ↦
          let faults : mine.fault ≡ theirs.fault = same_some mine.fault theirs.fault (sym mine.bad ∙ (λ i. gate_fault shape (known_of (same.0 i)) (same.1 i)) ∙ theirs.bad) in
          mine.place ∙ (λ i. length (flat_map entry (same.0 i)) + faults i) ∙ sym theirs.place
      | inr (inl on) ↦ absurd (on_is_good shape theirs.records theirs.more theirs.fault on theirs.bad)
      | inr (inr on) ↦ absurd (on_is_good shape mine.records mine.more mine.fault on mine.bad)
    ]

-- ---- one or the other

-- one more record adds at most one object
pub stored-push : (records : List Record) (r : Record) → length (stored_of (records ++ r ∷ [])) ≡ length (stored_of records) + length (stored_in r)
stored-push records r =
    ap length (stored_of-push records r) ∙ length-append (stored_of records) (stored_in r)

-- there are not too many objects
pub few-next : (shape : Shape) (earlier : List Record) (r : Record) → IsNext shape earlier r → length (stored_of earlier) ≤ greatest_objects → length (stored_of (earlier ++ r ∷ [])) ≤ greatest_objects
few-next shape earlier (Object o) next few = omega (arith, stored-push earlier (Object o), next.stored.few)
few-next shape earlier (Joined o parts) next few = omega (arith, stored-push earlier (Joined o parts), next.stored.few)
few-next shape earlier (Fence node) next few = omega (arith, stored-push earlier (Fence node), few)
few-next shape earlier Raise next few = omega (arith, stored-push earlier Raise, few)

cases_bool : (b : Bool) → (b ≡ true) ⊎ (b ≡ false)
cases_bool true = inl refl
cases_bool false = inr refl

cases_judged : (x : Result (Record × ℕ) ℕ) → ((at : ℕ) × (x ≡ Err at)) ⊎ ((p : Record × ℕ) × (x ≡ Ok p))
cases_judged (Ok p) = inr (p, refl)
cases_judged (Err at) = inl (at, refl)

abbrev OneOrBad : Shape → List ℕ → Type 0
OneOrBad shape rest = ((records : List Record) × AreBehind shape records rest) ⊎ ((at : ℕ) × IsBadBehind shape rest at)

bad_there : (shape : Shape) (rest : List ℕ) (records : List Record) (more : List ℕ) (fault : ℕ) → AreRecords shape records → rest ≡ flat_map entry records ++ more
    → gate_fault shape (known_of records) more ≡ Some fault → OneOrBad shape rest
bad_there shape rest records more fault valid spelling bad =
    inr (length (flat_map entry records) + fault, record { records = records; valid = valid; more = more; spelling = spelling; fault = fault; bad = bad; place = refl })

-- a kind that is judged by its text alone
pub first_kept : (xs ys : List ℕ) → 1 ≤ length xs → slice_index xs 0 ≡ slice_index (xs ++ ys) 0
first_kept [] ys some = absurd (omega (arith, some))
first_kept (x ∷ xs) ys some = refl

pub by_kind : (known : Known) (g h : ℕ) (xs ys : List ℕ) → slice_index xs 0 ≡ slice_index ys 0 → is_full known (g ∷ xs) ≡ is_full known (h ∷ ys)
by_kind known g h xs ys same = λ i. known.objects == greatest_objects && (same i == 1 || (same i == 3 && known.raised))

same_kind : (shape : Shape) (records : List Record) (gate : ℕ) (after text : List ℕ) (end : ℕ) (r : Record) → gate ≡ open_gate
    → Spells (record_fields shape (known_of records)) text r → after ≡ text ++ drop end (gate ∷ after)
    → is_full (known_of records) (open_gate ∷ text) ≡ is_full (known_of records) (gate ∷ after)
same_kind shape records gate after text end r opened spells spelling =
    let wide : length spells.0 ≡ 1 = spells.3 in
    let some : 1 ≤ length text = omega (arith, ap length spells.2, length-append spells.0 spells.1, wide) in
    let front : slice_index text 0 ≡ slice_index after 0 = first_kept text (drop end (gate ∷ after)) some ∙ ap (λ (l : List ℕ). slice_index l 0) (sym spelling) in
    by_kind (known_of records) open_gate gate text after front

-- from a gate on, where what is left has fewer bytes than the bound
from_gate : (bound : ℕ) (shape : Shape) (rest : List ℕ) (records : List Record) (more : List ℕ) → AreRecords shape records → length (stored_of records) ≤ greatest_objects
    → rest ≡ flat_map entry records ++ more → AreBytes more → length more < bound → OneOrBad shape rest
from_gate zero shape rest records more valid few spelling are below = absurd (omega (arith, below))
from_gate (suc bound) shape rest records [] valid few spelling are below = bad_there shape rest records [] 0 valid spelling refl
from_gate (suc bound) shape rest records (gate ∷ after) valid few spelling are below =
    elim (cases_eq gate open_gate) [
      | inr closed ↦ inl (records, record { valid = valid; gate = gate; closed = closed; after = after; spelling = spelling })
      | inl opened ↦
          let is = opened_gate shape (known_of records) gate after opened in
          elim (cases_bool (is_full (known_of records) (gate ∷ after))) [
            | inl full ↦ bad_there shape rest records (gate ∷ after) 0 valid spelling
                (is ∙ ap (λ (b : Bool). if b then Some 0 else bad_of (judge (record_fields shape (known_of records)) 1 (gate ∷ after))) full)
            | inr room ↦
                let not_full = is ∙ ap (λ (b : Bool). if b then Some 0 else bad_of (judge (record_fields shape (known_of records)) 1 (gate ∷ after))) room in
                elim (cases_judged (judge (record_fields shape (known_of records)) 1 (gate ∷ after))) [
                  | inl bad ↦ bad_there shape rest records (gate ∷ after) bad.0 valid spelling (not_full ∙ ap (λ (x : Result (Record × ℕ) ℕ). bad_of x) bad.1)
                  | inr found ↦
                      let text = judged_is_spelled Record (record_fields shape (known_of records)) (gate ∷ after) 1 found.0.1 found.0.0 are (omega arith) found.1 in
                      let r : Record = found.0.0 in
                      let front : is_full (known_of records) (open_gate ∷ text.text) ≡ is_full (known_of records) (gate ∷ after) = same_kind shape records gate after text.text found.0.1 found.0.0 opened text.spells text.spelling in
                      let read = spelled_is_next shape records text.text found.0.0 few (front ∙ room) text.are text.spells in
                      let more_is : gate ∷ after ≡ entry found.0.0 ++ drop found.0.1 (gate ∷ after) =
                      (λ i. opened i ∷ text.spelling i) ∙ ap (λ (l : List ℕ). open_gate ∷ (l ++ drop found.0.1 (gate ∷ after))) read.1 in
                      from_gate bound shape rest (records ++ found.0.0 ∷ []) (drop found.0.1 (gate ∷ after))
                      (MayFollow-push shape [] records found.0.0 valid read.0)
                      (few-next shape records found.0.0 read.0 few)
                      (spelling ∙ ap (λ (l : List ℕ). flat_map entry records ++ l) more_is ∙ sym (append_assoc (flat_map entry records) (entry found.0.0) (drop found.0.1 (gate ∷ after)))
                      ∙ ap (λ (l : List ℕ). l ++ drop found.0.1 (gate ∷ after)) (sym (flat_map-append entry records (found.0.0 ∷ []) ∙ ap (λ (l : List ℕ). flat_map entry records ++ l) (append-nil (entry found.0.0)))))
                      (All-drop (λ b. b < 2 ^ 8) found.0.1 (gate ∷ after) are)
                      (omega (arith, below, text.place, length-drop found.0.1 (gate ∷ after), text.within))
                ]
          ]
    ]

-- after the header, any bytes are records that a closed gate ends, or bad at some place
pub each_are_one_or_bad : EachAreOneOrBad
each_are_one_or_bad shape rest are = from_gate (suc (length rest)) shape rest [] rest tt (omega arith) refl are (omega arith)
