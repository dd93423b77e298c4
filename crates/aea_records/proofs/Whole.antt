-- One reading, and one outcome, of whole files.
use Rattle.std.proofs.Common.{◌≡◌, ◌⊎◌, ℕ, ◌+◌, ◌^◌, ◌<◌, List, ◌++◌, ◌∷◌, length, drop, Option, None, Some, refl, sym, ap, subst, ◌∙◌, append_assoc, arith, inl, inr}
use Rattle.std.specs.List.{flat_map}
use Rattle.std.proofs.lemmas.List.{drop_at, length-append}
use Rattle.std.proofs.lemmas.List.Elements.{All-take, All-drop}
use Rattle.aea_lattice.specs.declared.shape.Shape.{Shape}
use Rattle.aea_records.specs.Format.{Record, header, entry, spelled}
use Rattle.aea_records.specs.Grammar.{IsLedger}
use Rattle.aea_records.specs.Faults.{first_bad, header_fields, IsBadHeaderAt, IsBadRecordAt}
use Rattle.aea_records.specs.Laws.{HasOneReading, LedgersAreNotBad, IsBadAtOnePlace, EachIsOneOrBad}
use Rattle.aea_records.proofs.Rests.{AreBehind, IsBadBehind}
use Rattle.aea_records.proofs.Headers.{IsHeader, spelled_header, one_shape, header_spells}
use Rattle.aea_records.proofs.Behind.{none_is_not_some, same_some, have_one_reading, records_are_not_bad, are_bad_at_one_place, each_are_one_or_bad}

-- the header of what a ledger's spelling begins
header_of : (shape : Shape) (records : List Record) (rest bytes : List ℕ) → bytes ≡ spelled shape records ++ rest → IsHeader shape bytes
header_of shape records rest bytes spelling =
    spelled_header shape (flat_map entry records ++ rest) bytes (spelling ∙ append_assoc (header shape) (flat_map entry records) rest)

-- what follows the header
behind : (shape : Shape) (records : List Record) (rest bytes : List ℕ) → bytes ≡ spelled shape records ++ rest → drop 17 bytes ≡ flat_map entry records ++ rest
behind shape records rest bytes spelling =
    ap (drop 17) (spelling ∙ append_assoc (header shape) (flat_map entry records) rest) ∙ drop_at (header shape) (flat_map entry records ++ rest) 17 refl

ledger_behind : (bytes : List ℕ) (shape : Shape) (records : List Record) (end : ℕ) → IsLedger bytes shape records end → AreBehind shape records (drop 17 bytes)
ledger_behind bytes shape records end ledger = record {
  valid = ledger.valid;
  gate = ledger.gate;
  closed = ledger.closed;
  after = ledger.after;
  spelling = behind shape records (ledger.gate ∷ ledger.after) bytes ledger.spelling;
}

bad_behind : (bytes : List ℕ) (at : ℕ) (bad : IsBadRecordAt bytes at) → IsBadBehind bad.shape (drop 17 bytes) (length (flat_map entry bad.records) + bad.fault)
bad_behind bytes at bad = record {
  records = bad.records;
  valid = bad.valid;
  more = bad.rest;
  spelling = behind bad.shape bad.records bad.rest bytes bad.spelling;
  fault = bad.fault;
  bad = bad.bad;
  place = refl;
}

-- two spellings in the same bytes have one shape
same_header : (a b : Shape) (records others : List Record) (x y bytes : List ℕ) → bytes ≡ spelled a records ++ x → bytes ≡ spelled b others ++ y → a ≡ b
same_header a b records others x y bytes mine theirs = one_shape a b bytes (header_of a records x bytes mine) (header_of b others y bytes theirs)

-- ---- one reading

-- no file is a ledger of two shapes, of two lists of records, or with two ends
pub one_reading : HasOneReading
one_reading bytes shape other records others end last mine theirs =
    let shapes : shape ≡ other = same_header shape other records others (mine.gate ∷ mine.after) (theirs.gate ∷ theirs.after) bytes mine.spelling theirs.spelling in
    let same : records ≡ others =
    have_one_reading shape records others (drop 17 bytes) (ledger_behind bytes shape records end mine)
    (subst (λ (s : Shape). AreBehind s others (drop 17 bytes)) (sym shapes) (ledger_behind bytes other others last theirs)) in
    (shapes, (same, mine.place ∙ (λ i. length (spelled (shapes i) (same i))) ∙ sym theirs.place))

-- ---- a ledger is not bad

good_header : (shape : Shape) (records : List Record) (rest bytes : List ℕ) (at : ℕ) → bytes ≡ spelled shape records ++ rest → IsBadHeaderAt bytes at → ⊥
good_header shape records rest bytes at spelling bad = none_is_not_some at (sym (header_of shape records rest bytes spelling).passes ∙ bad)

good_records : (bytes : List ℕ) (shape : Shape) (records : List Record) (end at : ℕ) → IsLedger bytes shape records end → IsBadRecordAt bytes at → ⊥
good_records bytes shape records end at mine bad =
    let shapes : bad.shape ≡ shape = same_header bad.shape shape bad.records records bad.rest (mine.gate ∷ mine.after) bytes bad.spelling mine.spelling in
    records_are_not_bad shape records (drop 17 bytes) (length (flat_map entry bad.records) + bad.fault) (ledger_behind bytes shape records end mine)
    (subst (λ (s : Shape). IsBadBehind s (drop 17 bytes) (length (flat_map entry bad.records) + bad.fault)) shapes (bad_behind bytes at bad))

-- a ledger is bad at no place
pub not_bad : LedgersAreNotBad
not_bad bytes shape records end at mine bad =
    elim bad.bad [
      | inl head ↦ good_header shape records (mine.gate ∷ mine.after) bytes at mine.spelling head
      | inr behind ↦ good_records bytes shape records end at mine behind
    ]

-- ---- one bad place

long_spelled : (shape : Shape) (records : List Record) → length (spelled shape records) ≡ 17 + length (flat_map entry records)
long_spelled shape records = length-append (header shape) (flat_map entry records)

one_bad_record : (bytes : List ℕ) (at other : ℕ) → IsBadRecordAt bytes at → IsBadRecordAt bytes other → at ≡ other
one_bad_record bytes at other mine theirs =
    let shapes : theirs.shape ≡ mine.shape = same_header theirs.shape mine.shape theirs.records mine.records theirs.rest mine.rest bytes theirs.spelling mine.spelling in
    let same : length (flat_map entry mine.records) + mine.fault ≡ length (flat_map entry theirs.records) + theirs.fault =
    are_bad_at_one_place mine.shape (drop 17 bytes) (length (flat_map entry mine.records) + mine.fault) (length (flat_map entry theirs.records) + theirs.fault) (bad_behind bytes at mine)
    (subst (λ (s : Shape). IsBadBehind s (drop 17 bytes) (length (flat_map entry theirs.records) + theirs.fault)) shapes (bad_behind bytes other theirs)) in
    omega (arith, mine.place, theirs.place, long_spelled mine.shape mine.records, long_spelled theirs.shape theirs.records, same)

-- no file is bad at two places
pub one_place : IsBadAtOnePlace
one_place bytes at other mine theirs =
    elim mine.bad [
      | inl head ↦ elim theirs.bad [
        | inl heads ↦ same_some at other (sym head ∙ heads)
        | inr behind ↦ absurd (good_header behind.shape behind.records behind.rest bytes at behind.spelling head)
      ]
      | inr front ↦ elim theirs.bad [
        | inl heads ↦ absurd (good_header front.shape front.records front.rest bytes other front.spelling heads)
        | inr behind ↦ one_bad_record bytes at other front behind
      ]
    ]

-- ---- a ledger or bad

cases_first : (o : Option ℕ) → (o ≡ None) ⊎ ((at : ℕ) × (o ≡ Some at))
cases_first None = inl refl
cases_first (Some at) = inr (at, refl)

-- what follows a header, after it
in_front : (shape : Shape) (records : List Record) (rest more bytes : List ℕ) → bytes ≡ header shape ++ rest → rest ≡ flat_map entry records ++ more → bytes ≡ spelled shape records ++ more
in_front shape records rest more bytes spelling is =
    spelling ∙ ap (λ (l : List ℕ). header shape ++ l) is ∙ sym (append_assoc (header shape) (flat_map entry records) more)

-- a file of bytes whose header is open is a ledger, or bad at some place
pub one_or_bad : EachIsOneOrBad
one_or_bad bytes fits opened =
    elim (cases_first (first_bad (header_fields bytes))) [
      | inr bad ↦ inr (bad.0, record { header = opened; bad = inl bad.1 })
      | inl good ↦
          let is = header_spells bytes opened (All-take (λ b. b < 2 ^ 8) 17 bytes fits) good in
          elim (each_are_one_or_bad is.shape (drop 17 bytes) (All-drop (λ b. b < 2 ^ 8) 17 bytes fits)) [
            | inl found ↦
                let ledger = found.1 in
                inl (record {
                  shape = is.shape;
                  records = found.0;
                  end = length (spelled is.shape found.0);
                  ledger = record {
                    valid = ledger.valid;
                    gate = ledger.gate;
                    closed = ledger.closed;
                    after = ledger.after;
                    spelling = in_front is.shape found.0 (drop 17 bytes) (ledger.gate ∷ ledger.after) bytes is.spelling ledger.spelling;
                    place = refl;
                  };
                })
            | inr found ↦
                let bad = found.1 in
                inr (
                  length (spelled is.shape bad.records) + bad.fault,
                  record {
                    header = opened;
                    bad = inr (record {
                      shape = is.shape;
                      records = bad.records;
                      valid = bad.valid;
                      rest = bad.more;
                      spelling = in_front is.shape bad.records (drop 17 bytes) bad.more bytes is.spelling bad.spelling;
                      fault = bad.fault;
                      bad = bad.bad;
                      place = refl;
                    });
                  },
                )
          ]
    ]
