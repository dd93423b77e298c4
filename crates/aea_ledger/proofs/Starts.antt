-- The header that is read, and what follows from a result.
use Rattle.std.proofs.Common.{◌≡◌, ℕ, ◌≤◌, ◌&&◌, true, false, List, [], ◌++◌, length, take, drop, Ok, Err, Result, refl, sym, ap, ◌∙◌, subst, inl, inr, arith}
use Rattle.std.specs.Prelude.{nat_le}
use Rattle.std.specs.FinMap.{empty}
use Rattle.std.proofs.lemmas.Bool.{and_parts, and_from}
use Rattle.std.proofs.lemmas.List.{append-nil, take-append-drop, length-take, take-take}
use Rattle.sha2.specs.Hashers.{Holds256}
use Rattle.sha2.specs.Sha256.{sha256}
use Rattle.aea_lattice.specs.declared.shape.Shape.{Shape}
use Rattle.aea_lattice.specs.Profile.{is_profile, greatest_nodes}
use Rattle.aea_records.specs.Format.{Record, header, spelled}
use Rattle.std.specs.Prelude.{IfOk, IfErr}
use Rattle.aea_records.specs.Grammar.{IsLedger}
use Rattle.aea_records.specs.Laws.{LedgersAreNotBad, IsBadAtOnePlace, LedgersAreArchives}
use Rattle.aea_ledger.specs.Recorded.{IsLatticeOf}
use Rattle.aea_ledger.specs.Reads.{IsAhead}
use Rattle.aea_ledger.specs.Readings.{HasRead, IsReading}
use Rattle.aea_ledger.specs.declared.reader.Reader.{Reader}
use Rattle.aea_ledger.specs.Values.{Opened, HasRecords}
use Rattle.aea_ledger.specs.Openings.{Answers, IsAnswered}
use Rattle.aea_ledger.specs.declared.open.OpenFault.{OpenFault}
use Rattle.aea_ledger.specs.declared.open.OpenFault.TheVariants.{NoArchive, LedgerBad, DiskFault, NoMemory}

-- each result is the only one for its bytes
pub answered : (bytes : List ℕ) (result : Result Opened OpenFault) → LedgersAreNotBad → IsBadAtOnePlace → LedgersAreArchives → Answers bytes result → IsAnswered bytes result
answered bytes (Ok v) not_bad one_place archives is = record {
  ledger = λ some. inl refl;
  none = λ none. absurd ((archives bytes none).0 v.shape is.records v.end is.ledger);
  bad = λ at bad. absurd (not_bad bytes v.shape is.records v.end at is.ledger bad);
}
answered bytes (Err NoArchive) not_bad one_place archives is = record {
  ledger = λ some. absurd ((archives bytes is).0 some.shape some.records some.end some.ledger);
  none = λ none. inl refl;
  bad = λ at bad. absurd ((archives bytes is).1 at bad);
}
answered bytes (Err (LedgerBad place)) not_bad one_place archives is = record {
  ledger = λ some. absurd (not_bad bytes some.shape some.records some.end place some.ledger is);
  none = λ none. absurd ((archives bytes none).1 place is);
  bad = λ at bad. inl (ap (λ (n : ℕ). Err (LedgerBad n)) (one_place bytes place at is bad));
}
answered bytes (Err DiskFault) not_bad one_place archives is = record {
  ledger = λ some. inr (inl refl);
  none = λ none. inr (inl refl);
  bad = λ at bad. inr (inl refl);
}
answered bytes (Err NoMemory) not_bad one_place archives is = record {
  ledger = λ some. inr (inr refl);
  none = λ none. inr (inr refl);
  bad = λ at bad. inr (inr refl);
}

-- the reader past the header
pub started : (reveals : Type 0) (file window : List ℕ) (r : Reader) → take 17 window ≡ header r.shape → 18 ≤ length window → r.input.cursor.place ≡ 17 → IsLatticeOf r.shape 0 [] r.lattice → r.catalog.objects ≡ empty
    → r.raised ≡ false → r.digests.items ≡ [] → Holds256 r.input.hasher (take 17 window) → (reveals → window ≡ take 18 file) → (reveals → IsAhead r.input.cursor file) → IsReading reveals file r
started reveals file window r head long place lattice objects raised digests holds revealed ahead =
    let spelling : take 17 window ≡ spelled r.shape [] = head ∙ sym (append-nil (header r.shape)) in
    record {
      records = [];
      read = record {
        valid = tt;
        lattice = lattice;
        objects = objects;
        raised = raised;
        digests = digests;
        holds = subst (Holds256 r.input.hasher) spelling holds;
        place = place;
      };
      revealed = λ reveal.
          let size : 18 ≤ length file = omega (arith, ap length (revealed reveal), length-take 18 file, long) in
          let front : take 17 file ≡ spelled r.shape [] = sym (ap (take 17) (revealed reveal) ∙ take-take 17 18 file (omega arith)) ∙ spelling in
          record {
            long = size;
            spelling = sym (take-append-drop 17 file) ∙ ap (λ (l : List ℕ). l ++ drop 17 file) front ∙ ap (λ (n : ℕ). spelled r.shape [] ++ drop n file) (sym place);
            ahead = ahead reveal;
          };
    }

-- there is a lattice of each shape
pub has_lattice : (shape : Shape) (alpha s p : ℕ) → alpha ≡ shape.alpha → s ≡ shape.s → p ≡ shape.p → (is_profile alpha s p && nat_le 0 greatest_nodes) ≡ true
has_lattice shape alpha s p a b c =
    let parts = and_parts (is_profile shape.alpha shape.s shape.p && (nat_le 16 shape.block && nat_le shape.block 65536)) (nat_le 1 shape.sites && nat_le shape.sites 64) shape.in_profile in
    let profile = and_parts (is_profile shape.alpha shape.s shape.p) (nat_le 16 shape.block && nat_le shape.block 65536) parts.0 in
    and_from (is_profile alpha s p) (nat_le 0 greatest_nodes) ((λ i. is_profile (a i) (b i) (c i)) ∙ profile.0) refl

-- what was read is a ledger of these records
pub finished : (r : Reader) (records : List Record) (seal : List ℕ) (end : ℕ) → HasRead r records → seal ≡ sha256 (spelled r.shape records) → end ≡ r.input.cursor.place
    → HasRecords (record { shape = r.shape; lattice = r.lattice; objects = r.catalog.objects; raised = r.raised; digests = r.digests.items; hasher = r.input.hasher; seal = seal; end = end; live = true }) records
finished r records seal end read is at = record {
  valid = read.valid;
  lattice = read.lattice;
  objects = read.objects;
  raised = read.raised;
  digests = read.digests;
  hasher = read.holds;
  seal = is;
  end = at ∙ read.place;
}

-- the result of what was read whole
pub answers_whole : (file : List ℕ) (result : Result Opened OpenFault) (shape : Shape) (end : ℕ) (records : List Record) → IfOk result (λ v. HasRecords v records) → IfOk result (λ v. v.shape ≡ shape)
    → IfOk result (λ v. v.end ≡ end) → IfErr result (λ fault. fault ≡ NoMemory) → IsLedger file shape records end → Answers file result
answers_whole file (Ok v) shape end records has same at memory ledger = record {
  records = records;
  has = has;
  ledger = subst (λ (s : Shape). IsLedger file s records v.end) (sym same) (subst (IsLedger file shape records) (sym at) ledger);
}
answers_whole file (Err fault) shape end records has same at memory ledger = subst (λ (f : OpenFault). Answers file (Err f)) (sym memory) tt
