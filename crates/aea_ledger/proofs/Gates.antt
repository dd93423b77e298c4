-- What a reader finds at a gate.
use Rattle.std.proofs.Common.{◌≡◌, ℕ, ◌+◌, ◌^◌, ◌≤◌, List, ◌++◌, length, take, drop, min, refl, sym, ap, subst, ◌∙◌, arith}
use Rattle.std.specs.Prelude.{slice_index}
use Rattle.std.proofs.lemmas.List.{length-take, take_min, drop_more, get_or-take}
use Rattle.aea_records.specs.Format.{Record, spelled}
use Rattle.aea_records.specs.Known.{Known, known_of}
use Rattle.aea_records.specs.Grammar.{IsLedger}
use Rattle.aea_records.specs.Faults.{gate_fault, IsBadAt}
use Rattle.aea_records.specs.Laws.{ReadersKnow, RecordsAreFew}
use Rattle.aea_records.specs.Reads.{known_in, found_at, head_end, IsSmall, GoesOn, IsClosed, IsHead, IsBadWindow}
use Rattle.aea_records.specs.declared.heads.Found.{Found}
use Rattle.aea_ledger.specs.Reads.{Ahead, IsAhead}
use Rattle.aea_ledger.specs.Readings.{HasRead, AreIn, IsReading, IsWhole, IsAtHead}
use Rattle.aea_ledger.specs.declared.reader.Reader.{Reader}
use Rattle.aea_ledger.proofs.Steps.{bad_at}

-- the reader with another cursor
abbrev pub with_cursor : Reader → Ahead → Reader
with_cursor r cursor = record r { input = record { cursor = cursor; hasher = r.input.hasher } }

-- a reader that has read these records has read them with another cursor at the same place too
pub read_on : (old : Reader) (cursor : Ahead) (records : List Record) → cursor.place ≡ old.input.cursor.place → HasRead old records → HasRead (with_cursor old cursor) records
read_on old cursor records place read = record {
  valid = read.valid;
  lattice = read.lattice;
  objects = read.objects;
  raised = read.raised;
  digests = read.digests;
  holds = read.holds;
  place = place ∙ read.place;
}

-- and they are those of the same file under another name, where the bytes of this cursor are the file's at its
-- place
pub revealed_on : (old : Reader) (cursor : Ahead) (records : List Record) (file other : List ℕ) → cursor.place ≡ old.input.cursor.place → file ≡ other → IsAhead cursor other → AreIn old records file → AreIn (with_cursor old cursor) records other
revealed_on old cursor records file other place same ahead revealed = record {
  long = subst (λ (l : List ℕ). 18 ≤ length l) same revealed.long;
  spelling = sym same ∙ revealed.spelling ∙ (λ i. spelled old.shape records ++ drop (sym place i) (same i));
  ahead = ahead;
}

-- what the reader knows is what is known of the records
pub knows : (r : Reader) (records : List Record) → ReadersKnow → HasRead r records → known_in r.catalog.objects r.lattice.n r.lattice.fences r.raised ≡ known_of records
knows r records law read =
    (λ i. known_in (read.objects i) (read.lattice.n i) (read.lattice.fences_are i) (read.raised i)) ∙ law r.shape records read.valid

-- what was read is not long
pub place_small : (r : Reader) (records : List Record) → RecordsAreFew → HasRead r records → r.input.cursor.place ≤ 2 ^ 45
place_small r records law read =
    let few = law r.shape records read.valid in
    omega (arith, read.place, few.short, few.objects)

-- the window is the front of what was read
pub window_is : (cursor : Ahead) (size : ℕ) → size ≡ min 315 (length cursor.bytes) → take size cursor.bytes ≡ take 315 cursor.bytes
window_is cursor size is = ap (λ (n : ℕ). take n cursor.bytes) is ∙ take_min 315 cursor.bytes

-- a window that is bad
pub bad_gate : (r : Reader) (records : List Record) (file window : List ℕ) (at place : ℕ) → ReadersKnow → HasRead r records → AreIn r records file
    → IsBadWindow r.shape (known_in r.catalog.objects r.lattice.n r.lattice.fences r.raised) window at
    → window ≡ take 315 (drop r.input.cursor.place file) → place ≡ r.input.cursor.place + at → IsBadAt file place
bad_gate r records file window at place law read revealed bad is sum =
    bad_at r.shape records file r at place refl read revealed
    (ap (λ (known : Known). gate_fault r.shape known (drop r.input.cursor.place file)) (sym (knows r records law read)) ∙ bad (drop r.input.cursor.place file) is) sum

-- a window with a head
pub at_head : (reveals : Type 0) (file : List ℕ) (r : Reader) (found : Found) (window : List ℕ) (records : List Record) → ReadersKnow → HasRead r records → (reveals → AreIn r records file)
    → window ≡ take 315 r.input.cursor.bytes
    → IsHead r.shape (known_in r.catalog.objects r.lattice.n r.lattice.fences r.raised) window (found_at window found) (head_end found.fields) → head_end found.fields ≤ length window
    → IsSmall found.fields → GoesOn r.lattice found.fields → (reveals → take 315 r.input.cursor.bytes ≡ take 315 (drop r.input.cursor.place file)) → IsAtHead reveals file r found
at_head reveals file r found window records law read revealed same stands within small goes window_revealed = record {
  records = records;
  read = read;
  revealed = revealed;
  stands = subst (λ (known : Known). IsHead r.shape known (take 315 r.input.cursor.bytes) (found_at (take 315 r.input.cursor.bytes) found) (head_end found.fields)) (knows r records law read)
      (subst (λ (w : List ℕ). IsHead r.shape (known_in r.catalog.objects r.lattice.n r.lattice.fences r.raised) w (found_at w found) (head_end found.fields)) same stands);
  within = omega (arith, within, ap length same, length-take 315 r.input.cursor.bytes);
  small = small;
  goes = goes;
  window = window_revealed;
}

-- a gate that is closed ends the ledger
pub ends_at : (r : Reader) (records : List Record) (file window : List ℕ) → HasRead r records → AreIn r records file → window ≡ take 315 (drop r.input.cursor.place file) → IsClosed window → IsLedger file r.shape records r.input.cursor.place
ends_at r records file window read revealed is closed =
    let first : slice_index window 0 ≡ slice_index (drop r.input.cursor.place file) 0 =
    ap (λ (l : List ℕ). slice_index l 0) is ∙ get_or-take 315 (drop r.input.cursor.place file) 0 0 (omega arith) in
    record {
      valid = read.valid;
      gate = slice_index (drop r.input.cursor.place file) 0;
      closed = λ e. closed.gate (first ∙ e);
      after = drop 1 (drop r.input.cursor.place file);
      spelling = revealed.spelling ∙ ap (λ (l : List ℕ). spelled r.shape records ++ l)
          (drop_more (drop r.input.cursor.place file) 0 0 (omega (arith, ap length is, length-take 315 (drop r.input.cursor.place file), closed.there)));
      place = read.place;
    }

-- where the file's contents are known, they may be named otherwise
pub reading_in : (reveals : Type 0) (file other : List ℕ) (r : Reader) → (reveals → file ≡ other) → IsReading reveals file r → IsReading reveals other r
reading_in reveals file other r same reading = record {
  records = reading.records;
  read = reading.read;
  revealed = λ reveal. subst (AreIn r reading.records) (same reveal) (reading.revealed reveal);
}

pub whole_in : (reveals : Type 0) (file other : List ℕ) (r : Reader) → (reveals → file ≡ other) → IsWhole reveals file r → IsWhole reveals other r
whole_in reveals file other r same whole = record {
  records = whole.records;
  read = whole.read;
  revealed = λ reveal. subst (λ (l : List ℕ). IsLedger l r.shape whole.records r.input.cursor.place) (same reveal) (whole.revealed reveal);
}
