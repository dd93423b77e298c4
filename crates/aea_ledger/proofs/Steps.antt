-- One step of a reader: over a gate and the record of an object whose nodes are all new.
use Rattle.std.proofs.Common.{◌≡◌, ◌≢◌, ℕ, ◌+◌, ◌*◌, ◌<◌, ◌≤◌, Bool, true, false, ◌&&◌, ◌==◌, List, [], ◌∷◌, ◌++◌, length, take, drop, Result, Err, Some, None, refl, sym, ap, subst, ◌∙◌, append_assoc, arith, inr}
use Rattle.std.specs.Prelude.{slice_index, if◌then◌else◌, nat_le}
use Rattle.std.specs.List.{list_any, sum_by}
use Rattle.std.specs.FinMap.{get, insert, empty}
use Rattle.std.proofs.lemmas.Bool.{eq-eqb, ne_eqb}
use Rattle.std.proofs.lemmas.Bool.Decides.{nat_tests}
use Rattle.std.proofs.lemmas.List.{append-nil, length-append, length-take, length-drop, take-take}
use Rattle.std.proofs.lemmas.List.Sums.{sum_by-cons}
use Rattle.sha2.specs.Hashers.{Holds256}
use Rattle.aea_lattice.specs.declared.shape.Shape.{Shape}
use Rattle.aea_lattice.specs.declared.grid.Lattice.{Lattice}
use Rattle.aea_lattice.specs.Growth.{IsGrown}
use Rattle.aea_catalog.specs.declared.objects.ObjectRef.{ObjectRef}
use Rattle.aea_catalog.specs.Catalogs.{Objects, placed_alone}
use Rattle.aea_catalog.specs.Names.{IsName}
use Rattle.aea_records.specs.Tables.{Spells, judge, bytes_at}
use Rattle.aea_records.specs.TableLaws.{AreBytes}
use Rattle.aea_records.specs.Format.{Stored, Record, Object, is_raise, nodes_of, fences_of, digests_of, entry, spelled}
use Rattle.aea_records.specs.Known.{known_of}
use Rattle.aea_records.specs.Fields.{pieces, tail_fields, digest_fields}
use Rattle.aea_records.specs.Grammar.{IsNext, AreRecords}
use Rattle.aea_records.specs.Faults.{bad_of, gate_fault, IsBadAt}
use Rattle.aea_records.specs.Catalogued.{objects_of}
use Rattle.aea_records.specs.Laws.{TailsAreJudged, TailsAreSpelled, NewNamesAreFree}
use Rattle.aea_records.specs.Reads.{stored_at, found_at, object_end, head_end, IsSmall}
use Rattle.aea_records.specs.declared.heads.ObjectFields.{ObjectFields}
use Rattle.aea_records.specs.declared.heads.HeadFields.{HeadFields}
use Rattle.aea_records.specs.declared.heads.HeadFields.TheVariants.{Alone, InParts, Fenced, Raised}
use Rattle.aea_records.specs.declared.heads.Found.{Found}
use Rattle.aea_ledger.specs.Recorded.{IsLatticeOf}
use Rattle.aea_ledger.specs.Reads.{IsAhead}
use Rattle.aea_ledger.specs.Readings.{HasPassed, HasDigests, HasRead, AreIn, IsReading, IsAtHead}
use Rattle.aea_ledger.specs.declared.input.Input.{Input}
use Rattle.aea_ledger.specs.declared.reader.Reader.{Reader}
use Rattle.aea_ledger.proofs.Passed.{passed_then}
use Rattle.aea_records.proofs.Stretches.{length-bytes_at, front-bytes_at}
use Rattle.aea_records.proofs.OneMore.{MayFollow-push, fences_of-push, nodes_of-push, digests_of-push, raised_stays, objects-push, spelled-push}

-- what is bad after records
pub bad_at : (shape : Shape) (records : List Record) (file : List ℕ) (r : Reader) (fault place : ℕ) → r.shape ≡ shape → HasRead r records → AreIn r records file
    → gate_fault r.shape (known_of records) (drop r.input.cursor.place file) ≡ Some fault → place ≡ r.input.cursor.place + fault → IsBadAt file place
bad_at shape records file r fault place same read revealed bad is = record {
  header = record { long = revealed.long; gate = ap (λ (l : List ℕ). slice_index l 0) revealed.spelling };
  bad = inr (record { shape = r.shape; records = records; valid = read.valid; rest = drop r.input.cursor.place file; spelling = revealed.spelling; fault = fault; bad = bad; place = omega (arith, is, read.place) });
}

-- the head ends within the window
pub short_head : (f : HeadFields) → IsSmall f → head_end f ≤ 315
short_head (Alone o) small = omega (arith, small.0)
short_head (InParts o parts) small = omega (arith, small.0.0)
short_head (Fenced node) small = omega arith
short_head Raised small = omega arith

-- the input goes on over the record
pub record Goes (reveals : Type 0) (file : List ℕ) (old : Reader) (new : Input) (records : List Record) (r : Record) : Type 0 where
  pub next : IsNext old.shape records r
  pub holds : Holds256 new.hasher (spelled old.shape (records ++ r ∷ []))
  pub place : new.cursor.place ≡ length (spelled old.shape (records ++ r ∷ []))
  pub spelling : reveals → file ≡ spelled old.shape (records ++ r ∷ []) ++ drop new.cursor.place file
  pub ahead : reveals → IsAhead new.cursor file
  pub on : old.input.cursor.place < new.cursor.place

pub goes_on : (reveals : Type 0) (file : List ℕ) (old : Reader) (found : Found) (new : Input) (back : List ℕ) (r : Record) → TailsAreSpelled → (at : IsAtHead reveals file old found)
    → HasPassed reveals file old.input new (take (head_end found.fields) old.input.cursor.bytes ++ back) → AreBytes back
    → Spells (tail_fields old.shape (known_of at.records) (found_at (take 315 old.input.cursor.bytes) found)) back r → Goes reveals file old new at.records r
goes_on reveals file old found new back r law at passed are spells =
    let bytes : List ℕ = old.input.cursor.bytes in
    let end : ℕ = head_end found.fields in
    let records : List Record = at.records in
    let is = law old.shape at.records (take 315 old.input.cursor.bytes) back (found_at (take 315 old.input.cursor.bytes) found) (head_end found.fields) r at.read.valid at.stands are spells in
    let front : take (head_end found.fields) (take 315 old.input.cursor.bytes) ≡ take (head_end found.fields) old.input.cursor.bytes =
    take-take (head_end found.fields) 315 old.input.cursor.bytes (short_head found.fields at.small) in
    let text : take (head_end found.fields) old.input.cursor.bytes ++ back ≡ entry r = ap (λ (l : List ℕ). l ++ back) (sym front) ∙ is.1 in
    let more : spelled old.shape at.records ++ (take (head_end found.fields) old.input.cursor.bytes ++ back) ≡ spelled old.shape (at.records ++ r ∷ []) =
    ap (λ (l : List ℕ). spelled old.shape at.records ++ l) text ∙ sym (spelled-push old.shape at.records r) in
    let size : length (entry r) ≡ length (take (head_end found.fields) old.input.cursor.bytes ++ back) = ap length (sym text) in
    record {
      next = is.0;
      holds = subst (Holds256 new.hasher) more (passed.holds (spelled old.shape at.records) at.read.holds);
      place = passed.place ∙ ap (λ (n : ℕ). n + length (take (head_end found.fields) old.input.cursor.bytes ++ back)) at.read.place
          ∙ sym (length-append (spelled old.shape at.records) (take (head_end found.fields) old.input.cursor.bytes ++ back)) ∙ ap length more;
      spelling = λ reveal.
          (at.revealed reveal).spelling ∙ ap (λ (l : List ℕ). spelled old.shape at.records ++ l) (passed.bytes reveal)
          ∙ sym (append_assoc (spelled old.shape at.records) (take (head_end found.fields) old.input.cursor.bytes ++ back) (drop new.cursor.place file))
          ∙ ap (λ (l : List ℕ). l ++ drop new.cursor.place file) more;
      ahead = passed.ahead;
      on = omega (arith, passed.place, size, some r);
    }
  where
    some : (r : Record) → 1 ≤ length (entry r)
    some r = omega arith

-- what is bad after a head
pub bad_tail : (reveals : Type 0) (file : List ℕ) (old : Reader) (found : Found) (fault place : ℕ) → TailsAreJudged → (at : IsAtHead reveals file old found) → reveals
    → bad_of (judge (tail_fields old.shape (known_of at.records) (found_at (take 315 old.input.cursor.bytes) found)) (head_end found.fields) (drop old.input.cursor.place file)) ≡ Some fault
    → place ≡ old.input.cursor.place + fault → IsBadAt file place
bad_tail reveals file old found fault place law at reveal bad is =
    bad_at old.shape at.records file old fault place refl at.read (at.revealed reveal)
    (law old.shape (known_of at.records) (take 315 old.input.cursor.bytes) (drop old.input.cursor.place file) (found_at (take 315 old.input.cursor.bytes) found) (head_end found.fields) at.stands (at.window reveal) ∙ bad)
    is

-- the bytes that are left have the head
pub head_there : (reveals : Type 0) (file : List ℕ) (old : Reader) (found : Found) (at : IsAtHead reveals file old found) → reveals → head_end found.fields ≤ length (drop old.input.cursor.place file)
head_there reveals file old found at reveal =
    omega (arith, at.within, short_head found.fields at.small, ap length (at.window reveal), length-take 315 old.input.cursor.bytes, length-take 315 (drop old.input.cursor.place file))

-- ---- choices

taken : {X : Type 0} (a : Bool) (x y : X) → a ≡ true → (if a && true then x else y) ≡ x
taken true x y e = refl
taken false x y e = absurd (let h : false ≡ true = e in cc)

pub missed : {X : Type 0} (a b : Bool) (x y : X) → a ≡ false → (if a && b then x else y) ≡ y
missed false b x y e = refl
missed true b x y e = absurd (let h : true ≡ false = e in cc)

pub failed : {X : Type 0} (a b : Bool) (x y : X) → b ≡ false → (if a && b then x else y) ≡ y
failed true false x y e = refl
failed false false x y e = refl
failed a true x y e = absurd (let h : true ≡ false = e in cc)

pub both : {X : Type 0} (a b : Bool) (x y : X) → a ≡ true → b ≡ true → (if a && b then x else y) ≡ x
both true true x y e f = refl
both false b x y e f = absurd (let h : false ≡ true = e in cc)
both true false x y e f = absurd (let h : false ≡ true = f in cc)

pub unless : {X : Type 0} (a : Bool) (x y : X) → a ≡ false → (if a then x else y) ≡ y
unless false x y e = refl
unless true x y e = absurd (let h : true ≡ false = e in cc)

pub short-has : (n m : ℕ) → m < n → nat_le n m ≡ false
short-has n m lt = grind (arith, nat_tests)

pub long-has : (n m : ℕ) → n ≤ m → nat_le n m ≡ true
long-has n m le = grind (arith, nat_tests)

-- what is left after two texts
pub length_left : (file : List ℕ) (from : ℕ) (x y : List ℕ) (mid to : ℕ) → drop from file ≡ x ++ drop mid file → drop mid file ≡ y ++ drop to file → length x + length y ≤ length (drop from file)
length_left file from x y mid to first second =
    omega (arith, ap length first, ap length second, length-append x (drop mid file), length-append y (drop to file))

-- digests that are not all there
pub digests_missing : (shape : Shape) (bytes others : ℕ) (o : Stored) (make : Stored → Record) (end : ℕ) (rest : List ℕ) → length rest < end + 32 * (o.count * (1 + shape.alpha))
    → bad_of (judge (digest_fields shape bytes others o make) end rest) ≡ Some end
digests_missing shape bytes others o make end rest short =
    ap (λ (x : Result (Record × ℕ) ℕ). bad_of x) (missed (nat_le (end + 32 * (o.count * (1 + shape.alpha))) (length rest)) true _ (Err end) (short-has (end + 32 * (o.count * (1 + shape.alpha))) (length rest) short))

-- a number of bytes that is another
pub length_wrong : (shape : Shape) (bytes others : ℕ) (o : Stored) (make : Stored → Record) (end : ℕ) (rest : List ℕ) → end + 32 * (o.count * (1 + shape.alpha)) ≤ length rest
    → bytes ≢ others + length o.name + 32 * (o.count * (1 + shape.alpha)) → bad_of (judge (digest_fields shape bytes others o make) end rest) ≡ Some 2
length_wrong shape bytes others o make end rest long wrong =
    ap (λ (x : Result (Record × ℕ) ℕ). bad_of x)
    (taken (nat_le (end + 32 * (o.count * (1 + shape.alpha))) (length rest)) _ (Err end) (long-has (end + 32 * (o.count * (1 + shape.alpha))) (length rest) long)
    ∙ unless (bytes == others + length o.name + 32 * (o.count * (1 + shape.alpha))) _ (Err 2) (ne_eqb bytes (others + length o.name + 32 * (o.count * (1 + shape.alpha))) wrong))

-- digests that are there, and the right number of bytes
pub digests_spell : (shape : Shape) (bytes others : ℕ) (o : Stored) (make : Stored → Record) (text : List ℕ) → length text ≡ 32 * (o.count * (1 + shape.alpha))
    → bytes ≡ others + length o.name + 32 * (o.count * (1 + shape.alpha)) → Spells (digest_fields shape bytes others o make) text (make (record o { digests = pieces 32 (o.count * (1 + shape.alpha)) text }))
digests_spell shape bytes others o make text long right =
    (text, [], sym (append-nil text), long, refl, (eq-eqb bytes (others + length o.name + 32 * (o.count * (1 + shape.alpha))) right, (refl, refl)))

-- ---- an object whose nodes are all new

-- the head
abbrev pub alone_found : ℕ → ObjectFields → Found
alone_found bytes object = record { bytes = bytes; fields = Alone object }

-- the name in the window
pub name_long : (reveals : Type 0) (file : List ℕ) (old : Reader) (found : Found) (long : ℕ) → IsAtHead reveals file old found → 8 + long ≤ head_end found.fields → length (bytes_at long 8 (take 315 old.input.cursor.bytes)) ≡ long
name_long reveals file old found long at within =
    length-bytes_at (take 315 old.input.cursor.bytes) 8 long (omega (arith, length-take 315 old.input.cursor.bytes, at.within, short_head found.fields at.small, within))

-- the record
abbrev pub alone_record : Reader → ObjectFields → List ℕ → Record
alone_record old object text =
    Object (record (stored_at (take 315 old.input.cursor.bytes) object) { digests = pieces 32 (object.count * (1 + old.shape.alpha)) text })

-- an input that went on over the fields of an object whose nodes are all new, and over its digests, as many as
-- there must be and with the right number of bytes, went on over a record that may follow
pub alone_goes : (reveals : Type 0) (file : List ℕ) (old : Reader) (mid new : Input) (object : ObjectFields) (bytes count : ℕ) (before after : List (List ℕ)) → TailsAreSpelled
    → (at : IsAtHead reveals file old (alone_found bytes object)) → HasPassed reveals file old.input mid (take (object_end object) old.input.cursor.bytes)
    → (ds : HasDigests reveals file mid new count before after) → count ≡ object.count * (1 + old.shape.alpha) → bytes ≡ 50 + object.long + 32 * count
    → Goes reveals file old new at.records (alone_record old object ds.text)
alone_goes reveals file old mid new object bytes count before after law at head ds many right =
    let long : length ds.text ≡ 32 * (object.count * (1 + old.shape.alpha)) = ds.long ∙ ap (λ (n : ℕ). 32 * n) many in
    let name = name_long reveals file old (alone_found bytes object) object.long at (omega arith) in
    let size : bytes ≡ 50 + length (bytes_at object.long 8 (take 315 old.input.cursor.bytes)) + 32 * (object.count * (1 + old.shape.alpha)) = right ∙ (λ i. 50 + sym name i + 32 * many i) in
    goes_on reveals file old (alone_found bytes object) new ds.text (alone_record old object ds.text) law at
    (passed_then reveals file old.input mid new (take (object_end object) old.input.cursor.bytes) ds.text head ds.passed) ds.passed.are
    (digests_spell old.shape bytes 50 (stored_at (take 315 old.input.cursor.bytes) object) (λ o. Object o) ds.text long size)

-- ---- what is read then

-- a lattice with more nodes, or with a fence
grown_is : (shape : Shape) (records : List Record) (r : Record) (l m : Lattice) (count : ℕ) → IsLatticeOf shape (nodes_of records) (fences_of records) l → IsGrown l (l.n + count) m
    → nodes_of (records ++ r ∷ []) ≡ nodes_of records + count → fences_of (records ++ r ∷ []) ≡ fences_of records → IsLatticeOf shape (nodes_of (records ++ r ∷ [])) (fences_of (records ++ r ∷ [])) m
grown_is shape records r l m count is grown nodes fences = record {
  alpha = grown.shape.alpha ∙ is.alpha;
  s = grown.shape.s ∙ is.s;
  p = grown.shape.p ∙ is.p;
  n = grown.nodes ∙ ap (λ (n : ℕ). n + count) is.n ∙ sym nodes;
  fences_are = grown.fences ∙ is.fences_are ∙ sym fences;
}

-- the new nodes of a list of one object are those of this object
pub one_count : (o : Stored) → sum_by (λ (q : Stored). q.count) (o ∷ []) ≡ o.count
one_count o = omega (arith, sum_by-cons (λ (q : Stored). q.count) o [])

-- records of an object
pub object_read : (reveals : Type 0) (file : List ℕ) (old new : Reader) (records : List Record) (r : Record) (o : Stored) (more : List (List ℕ)) → HasRead old records → (reveals → AreIn old records file)
    → Goes reveals file old new.input records r → new.shape ≡ old.shape → IsGrown old.lattice (old.lattice.n + o.count) new.lattice
    → nodes_of (records ++ r ∷ []) ≡ nodes_of records + o.count → fences_of (records ++ r ∷ []) ≡ fences_of records → list_any is_raise (records ++ r ∷ []) ≡ list_any is_raise records
    → digests_of (records ++ r ∷ []) ≡ digests_of records ++ more → new.catalog.objects ≡ objects_of (records ++ r ∷ []) → new.raised ≡ old.raised
    → new.digests.items ≡ old.digests.items ++ more → IsReading reveals file new
object_read reveals file old new records r o more read revealed goes shape lattice nodes fences raise digests objects raised items = record {
  records = records ++ r ∷ [];
  read = record {
    valid = subst (λ (s : Shape). AreRecords s (records ++ r ∷ [])) (sym shape) (MayFollow-push old.shape [] records r read.valid goes.next);
    lattice = subst (λ (s : Shape). IsLatticeOf s (nodes_of (records ++ r ∷ [])) (fences_of (records ++ r ∷ [])) new.lattice) (sym shape)
        (grown_is old.shape records r old.lattice new.lattice o.count read.lattice lattice nodes fences);
    objects = objects;
    raised = raised ∙ read.raised ∙ sym raise;
    digests = items ∙ ap (λ (l : List (List ℕ)). l ++ more) read.digests ∙ sym digests;
    holds = subst (λ (s : Shape). Holds256 new.input.hasher (spelled s (records ++ r ∷ []))) (sym shape) goes.holds;
    place = goes.place ∙ ap (λ (s : Shape). length (spelled s (records ++ r ∷ []))) (sym shape);
  };
  revealed = λ reveal. record {
    long = (revealed reveal).long;
    spelling = goes.spelling reveal ∙ ap (λ (s : Shape). spelled s (records ++ r ∷ []) ++ drop new.input.cursor.place file) (sym shape);
    ahead = goes.ahead reveal;
  };
}

-- a name that may be put
pub record MayBePut (objects : Objects) (name : List ℕ) : Type 0 where
  pub named : IsName name
  pub free : get objects name ≡ None

-- the name that was read
pub name_is : (old : Reader) (name : List ℕ) (long : ℕ) → 8 + long ≤ 315 → name ≡ bytes_at long 8 old.input.cursor.bytes → bytes_at long 8 (take 315 old.input.cursor.bytes) ≡ name
name_is old name long short is = front-bytes_at old.input.cursor.bytes 8 long 315 short ∙ sym is

-- the name that was read of an object whose nodes are all new, and whose record may follow, is a name and not
-- taken
pub alone_put : (reveals : Type 0) (file : List ℕ) (old : Reader) (new : Input) (object : ObjectFields) (text name : List ℕ) (records : List Record) → NewNamesAreFree → HasRead old records → object.long ≤ 255
    → Goes reveals file old new records (alone_record old object text) → name ≡ bytes_at object.long 8 old.input.cursor.bytes → MayBePut old.catalog.objects name
alone_put reveals file old new object text name records law read short goes is =
    let same = name_is old name object.long (omega (arith, short)) is in
    record {
      named = subst IsName same goes.next.stored.name;
      free = ap (λ (m : Objects). get m name) read.objects
          ∙ subst (λ (n : List ℕ). get (objects_of records) n ≡ None) same ((law records (bytes_at object.long 8 (take 315 old.input.cursor.bytes))).0 goes.next.stored.new);
    }

-- a reader that went on over the record of an object whose nodes are all new, and took its nodes, its object and
-- its digests, has read records, those of the file where its contents are known
pub alone_read : (reveals : Type 0) (file : List ℕ) (old new : Reader) (object : ObjectFields) (bytes : ℕ) (text name : List ℕ) (placed : ObjectRef) → (at : IsAtHead reveals file old (alone_found bytes object))
    → Goes reveals file old new.input at.records (alone_record old object text) → new.shape ≡ old.shape → IsGrown old.lattice (old.lattice.n + object.count) new.lattice
    → name ≡ bytes_at object.long 8 old.input.cursor.bytes → placed ≡ record { first = object.first; count = object.count; length = object.size; digest = object.digest }
    → new.catalog.objects ≡ insert old.catalog.objects name (placed_alone placed) → new.raised ≡ old.raised
    → new.digests.items ≡ old.digests.items ++ pieces 32 (object.count * (1 + old.shape.alpha)) text → IsReading reveals file new
alone_read reveals file old new object bytes text name placed at goes shape lattice is places objects raised items =
    let r : Record = alone_record old object text in
    let o : Stored = record (stored_at (take 315 old.input.cursor.bytes) object) { digests = pieces 32 (object.count * (1 + old.shape.alpha)) text } in
    let same = name_is old name object.long (omega (arith, at.small.0)) is in
    object_read reveals file old new at.records (alone_record old object text) (record (stored_at (take 315 old.input.cursor.bytes) object) { digests = pieces 32 (object.count * (1 + old.shape.alpha)) text })
    (pieces 32 (object.count * (1 + old.shape.alpha)) text) at.read at.revealed goes shape lattice
    (nodes_of-push at.records (alone_record old object text) ∙ ap (λ (n : ℕ). nodes_of at.records + n) (one_count (record (stored_at (take 315 old.input.cursor.bytes) object) { digests = pieces 32 (object.count * (1 + old.shape.alpha)) text })))
    (fences_of-push at.records (alone_record old object text) ∙ append-nil (fences_of at.records))
    (raised_stays at.records (alone_record old object text) refl)
    (digests_of-push at.records (alone_record old object text) ∙ ap (λ (l : List (List ℕ)). digests_of at.records ++ l) (append-nil (pieces 32 (object.count * (1 + old.shape.alpha)) text)))
    (objects ∙ (λ i. insert (at.read.objects i) (sym same i) (placed_alone (places i))) ∙ sym (objects-push empty at.records (alone_record old object text)))
    raised items

-- the digests of an object are not all there
pub alone_missing : (reveals : Type 0) (file : List ℕ) (old : Reader) (mid : Input) (object : ObjectFields) (bytes count place : ℕ) → TailsAreJudged → (at : IsAtHead reveals file old (alone_found bytes object)) → reveals
    → mid.cursor.place ≡ old.input.cursor.place + object_end object → count ≡ object.count * (1 + old.shape.alpha) → length (drop mid.cursor.place file) < 32 * count
    → place ≡ old.input.cursor.place + object_end object → IsBadAt file place
alone_missing reveals file old mid object bytes count place law at reveal behind many missing is =
    bad_tail reveals file old (alone_found bytes object) (object_end object) place law at reveal
    (digests_missing old.shape bytes 50 (stored_at (take 315 old.input.cursor.bytes) object) (λ o. Object o) (object_end object) (drop old.input.cursor.place file)
    (omega (arith, missing, length-drop mid.cursor.place file, length-drop old.input.cursor.place file, behind, many))) is

-- the number of bytes of an object is another
pub alone_wrong : (reveals : Type 0) (file : List ℕ) (old : Reader) (mid new : Input) (object : ObjectFields) (bytes count place : ℕ) (before after : List (List ℕ)) → TailsAreJudged
    → (at : IsAtHead reveals file old (alone_found bytes object)) → reveals → HasPassed reveals file old.input mid (take (object_end object) old.input.cursor.bytes) → HasDigests reveals file mid new count before after
    → count ≡ object.count * (1 + old.shape.alpha) → bytes ≢ 50 + object.long + 32 * count → place ≡ old.input.cursor.place + 2 → IsBadAt file place
alone_wrong reveals file old mid new object bytes count place before after law at reveal head ds many wrong is =
    let name = name_long reveals file old (alone_found bytes object) object.long at (omega arith) in
    let there = length_left file old.input.cursor.place (take (object_end object) old.input.cursor.bytes) ds.text mid.cursor.place new.cursor.place (head.bytes reveal) (ds.passed.bytes reveal) in
    bad_tail reveals file old (alone_found bytes object) 2 place law at reveal
    (length_wrong old.shape bytes 50 (stored_at (take 315 old.input.cursor.bytes) object) (λ o. Object o) (object_end object) (drop old.input.cursor.place file)
    (omega (arith, there, ds.long, many, length-take (object_end object) old.input.cursor.bytes, at.within))
    (λ e. wrong (e ∙ (λ i. 50 + name i + 32 * sym many i)))) is
