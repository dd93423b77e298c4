-- Ledgers of one text.
use Rattle.std.proofs.Common.{◌≡◌, ℕ, ◌+◌, ◌<◌, ◌^◌, true, false, List, [], ◌∷◌, ◌++◌, length, map, All, refl, sym, ap, ◌∙◌, arith}
use Rattle.std.specs.Int.{w32, to_be_bytes, from_be_bytes}
use Rattle.std.specs.List.{flat_map}
use Rattle.std.proofs.lemmas.List.{length-append, take_at}
use Rattle.std.proofs.lemmas.List.Elements.{All-head, All-tail}
use Rattle.std.proofs.lemmas.Nat.{from_be_bytes-to_be_bytes_4}
use Rattle.aea_lattice.specs.declared.shape.Shape.{Shape}
use Rattle.aea_records.specs.Format.{Record, rest_of, header, entry, spelled}
use Rattle.aea_ledger.specs.Stops.{HasLedger}
use Rattle.aea_copies.specs.Format.{text_of}
use Rattle.aea_copies.specs.Grammar.{IsRecordPiece}
use Rattle.aea_copies.specs.Kept.{HasText}
use Rattle.aea_records.specs.Laws.{RecordsAreShort}
use Rattle.aea_mirror.specs.Shown.{KeepsLedgers}
use Rattle.aea_copies.proofs.Agreeing.{AreKinds, kinds_of}
use Rattle.aea_copies.proofs.Judged.{kinds_end_once}
use Rattle.aea_mirror.proofs.Keeping.{keeps_texts}

-- the pieces of a ledger: its header, and each record with its open gate
pub pieces_of : Shape → List Record → List (List ℕ)
pieces_of shape records = header shape ∷ map entry records

text_pieces : (shape : Shape) (records : List Record) → text_of (header shape ∷ map entry records) ≡ spelled shape records
text_pieces shape records = ap (λ (l : List ℕ). header shape ++ l) (joined records)
  where
    joined : (rs : List Record) → flat_map (λ p. p) (map entry rs) ≡ flat_map entry rs
    joined [] = refl
    joined (r ∷ rs) = ap (λ (l : List ℕ). entry r ++ l) (joined rs)

-- a record is so short that an entry of a copy can have it
abbrev IsShort : Record → Type 0
IsShort r = length (rest_of r) < 2 ^ 28

entry_kind : (r : Record) → IsShort r → IsRecordPiece (entry r)
entry_kind r short =
    let number = to_be_bytes w32 (length (rest_of r)) in
    record {
      long = omega (arith, length-append number (rest_of r), four (length (rest_of r)));
      gate = refl;
      size =
          ap (λ (l : List ℕ). from_be_bytes w32 l + 6) (take_at number (rest_of r) 4 (four (length (rest_of r))))
          ∙ ap (λ (n : ℕ). n + 6) (from_be_bytes-to_be_bytes_4 (length (rest_of r)) (omega (arith, short)))
          ∙ omega (arith, length-append number (rest_of r), four (length (rest_of r)));
    }
  where
    four : (n : ℕ) → length (to_be_bytes w32 n) ≡ 4
    four n = refl

entry_kinds : (rs : List Record) → All IsShort rs → AreKinds false (map entry rs)
entry_kinds [] short = tt
entry_kinds (r ∷ rs) short = (entry_kind r (All-head IsShort r rs short), entry_kinds rs (All-tail IsShort r rs short))

ledger_kinds : (shape : Shape) (rs : List Record) → All IsShort rs → AreKinds true (header shape ∷ map entry rs)
ledger_kinds shape rs short = (record { long = refl; gate = refl }, entry_kinds rs short)

-- bytes that are the same up to a gate that ends them are a ledger of the same records
pub same_ledger : (shape : Shape) (records : List Record) (pieces : List (List ℕ)) (old new : List ℕ) → AreKinds true pieces → All IsShort records
    → HasText (text_of pieces) old → HasText (text_of pieces) new → HasLedger shape records old → HasLedger shape records new
same_ledger shape records pieces old new are short one two ledger =
    let spelling : text_of pieces ++ one.gate ∷ one.after ≡ text_of (header shape ∷ map entry records) ++ ledger.gate ∷ ledger.after =
    sym one.spelling ∙ ledger.spelling ∙ ap (λ (l : List ℕ). l ++ ledger.gate ∷ ledger.after) (sym (text_pieces shape records)) in
    let same : pieces ≡ header shape ∷ map entry records =
    kinds_end_once pieces (header shape ∷ map entry records) one.gate ledger.gate one.after ledger.after are (ledger_kinds shape records short) one.closed ledger.closed spelling in
    record {
      valid = ledger.valid;
      gate = two.gate;
      closed = two.closed;
      after = two.after;
      spelling = two.spelling ∙ ap (λ (l : List ℕ). l ++ two.gate ∷ two.after) (ap text_of same ∙ text_pieces shape records);
      place = ledger.place;
    }

pub keeps_ledgers : RecordsAreShort → KeepsLedgers
keeps_ledgers short files left new pieces damaged adopted kept =
    let texts = keeps_texts files left new pieces damaged adopted kept in (
      texts.0,
      texts.1,
      λ shape records ledger.
          same_ledger shape records pieces (texts.0 0) (new 0) (kinds_of true pieces kept.good.valid) (short shape records ledger.valid).each texts.2 texts.3 ledger,
    )
