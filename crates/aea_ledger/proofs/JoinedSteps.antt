-- One step of a reader: over a gate and the record of an object in parts.
use Rattle.std.proofs.Common.{◌≡◌, ◌≢◌, ℕ, ◌+◌, ◌*◌, ◌^◌, ◌<◌, ◌≤◌, true, false, List, [], ◌++◌, length, take, drop, Result, Err, None, refl, sym, ap, subst, ◌∙◌, append_assoc, arith}
use Rattle.std.specs.Prelude.{nat_le}
use Rattle.std.specs.List.{sum_by}
use Rattle.std.specs.FinMap.{get, insert, empty}
use Rattle.std.proofs.lemmas.List.{append-nil, length-append, length-take, length-drop, take_at, drop_at}
use Rattle.std.proofs.lemmas.List.Elements.{All-append}
use Rattle.aea_lattice.specs.Growth.{IsGrown}
use Rattle.aea_catalog.specs.declared.objects.ObjectRef.{ObjectRef}
use Rattle.aea_catalog.specs.declared.objects.Extent.{Extent}
use Rattle.aea_catalog.specs.Catalogs.{Objects}
use Rattle.aea_catalog.specs.Names.{IsName}
use Rattle.aea_records.specs.Tables.{judge, bytes_at}
use Rattle.aea_records.specs.Format.{Stored, Record, Joined, nodes_of, fences_of, digests_of}
use Rattle.aea_records.specs.Known.{known_of}
use Rattle.aea_records.specs.Fields.{pieces, extents, are_parts, tail_fields, digest_fields}
use Rattle.aea_records.specs.Faults.{bad_of, IsBadAt}
use Rattle.aea_records.specs.Catalogued.{placed_parts, objects_of, first_of}
use Rattle.aea_records.specs.Laws.{TailsAreJudged, TailsAreSpelled, NewNamesAreFree}
use Rattle.aea_records.specs.Reads.{stored_at, found_at, object_end}
use Rattle.aea_records.specs.declared.heads.ObjectFields.{ObjectFields}
use Rattle.aea_records.specs.declared.heads.HeadFields.TheVariants.{InParts}
use Rattle.aea_records.specs.declared.heads.Found.{Found}
use Rattle.aea_ledger.specs.Readings.{HasPassed, HasDigests, HasParts, HasRead, IsReading, IsAtHead}
use Rattle.aea_ledger.specs.declared.input.Input.{Input}
use Rattle.aea_ledger.specs.declared.reader.Reader.{Reader}
use Rattle.aea_ledger.proofs.Passed.{passed_then}
use Rattle.aea_records.proofs.OneMore.{fences_of-push, nodes_of-push, digests_of-push, raised_stays, objects-push}
use Rattle.aea_ledger.proofs.Steps.{Goes, goes_on, bad_tail, missed, failed, both, short-has, long-has, length_left, digests_missing, length_wrong, digests_spell, name_long, one_count, object_read, MayBePut, name_is}

abbrev pub joined_found : ℕ → ObjectFields → ℕ → Found
joined_found bytes object parts = record { bytes = bytes; fields = InParts object parts }

abbrev pub joined_record : Reader → ObjectFields → ℕ → List ℕ → List ℕ → Record
joined_record old object parts first text =
    Joined (record (stored_at (take 315 old.input.cursor.bytes) object) { digests = pieces 32 (object.count * (1 + old.shape.alpha)) text }) (extents parts first)

-- an input that went on over the fields of an object in parts, its parts, which are valid, and its digests, as
-- many as there must be and with the right number of bytes, went on over a record that may follow
pub joined_goes : (reveals : Type 0) (file : List ℕ) (old : Reader) (mid behind new : Input) (object : ObjectFields) (bytes parts count : ℕ) (none all : List Extent) (before after : List (List ℕ)) → TailsAreSpelled
    → (at : IsAtHead reveals file old (joined_found bytes object parts)) → HasPassed reveals file old.input mid (take (object_end object + 4) old.input.cursor.bytes)
    → (ps : HasParts reveals file mid behind parts none all) → (ds : HasDigests reveals file behind new count before after) → none ≡ [] → old.lattice.n ≡ nodes_of at.records
    → are_parts old.shape object.size (old.lattice.n + object.count) all ≡ true → count ≡ object.count * (1 + old.shape.alpha)
    → bytes ≡ 54 + 8 * parts + object.long + 32 * count → Goes reveals file old new at.records (joined_record old object parts ps.text ds.text)
joined_goes reveals file old mid behind new object bytes parts count none all before after law at head ps ds nothing nodes apart many right =
    let o : Stored = stored_at (take 315 old.input.cursor.bytes) object in
    let long : length ds.text ≡ 32 * (object.count * (1 + old.shape.alpha)) = ds.long ∙ ap (λ (n : ℕ). 32 * n) many in
    let name = name_long reveals file old (joined_found bytes object parts) object.long at (omega arith) in
    let size : bytes ≡ 54 + 8 * parts + length (bytes_at object.long 8 (take 315 old.input.cursor.bytes)) + 32 * (object.count * (1 + old.shape.alpha)) = right ∙ (λ i. 54 + 8 * parts + sym name i + 32 * many i) in
    let all_is : all ≡ extents parts ps.text = ps.parts ∙ ap (λ (l : List Extent). l ++ extents parts ps.text) nothing in
    let good : are_parts old.shape object.size (nodes_of at.records + object.count) (extents parts ps.text) ≡ true =
    (λ i. are_parts old.shape object.size (sym nodes i + object.count) (sym all_is i)) ∙ apart in
    goes_on reveals file old (joined_found bytes object parts) new (ps.text ++ ds.text) (joined_record old object parts ps.text ds.text) law at
    (subst (HasPassed reveals file old.input new) (append_assoc (take (object_end object + 4) old.input.cursor.bytes) ps.text ds.text)
    (passed_then reveals file old.input behind new (take (object_end object + 4) old.input.cursor.bytes ++ ps.text) ds.text
    (passed_then reveals file old.input mid behind (take (object_end object + 4) old.input.cursor.bytes) ps.text head ps.passed) ds.passed))
    (All-append (λ b. b < 2 ^ 8) ps.text ds.text ps.passed.are ds.passed.are)
    (ps.text, ds.text, refl, ps.long, good, digests_spell old.shape bytes (54 + 8 * parts) (stored_at (take 315 old.input.cursor.bytes) object) (λ p. Joined p (extents parts ps.text)) ds.text long size)

-- the name that was read of an object in parts whose record may follow is a name and not taken
pub joined_put : (reveals : Type 0) (file : List ℕ) (old : Reader) (new : Input) (object : ObjectFields) (parts : ℕ) (first text name : List ℕ) (records : List Record) → NewNamesAreFree → HasRead old records → object.long ≤ 255
    → Goes reveals file old new records (joined_record old object parts first text) → name ≡ bytes_at object.long 8 old.input.cursor.bytes → MayBePut old.catalog.objects name
joined_put reveals file old new object parts first text name records law read short goes is =
    let same = name_is old name object.long (omega (arith, short)) is in
    record {
      named = subst IsName same goes.next.stored.name;
      free = ap (λ (m : Objects). get m name) read.objects
          ∙ subst (λ (n : List ℕ). get (objects_of records) n ≡ None) same ((law records (bytes_at object.long 8 (take 315 old.input.cursor.bytes))).0 goes.next.stored.new);
    }

-- a reader that went on over the record of an object in parts, and took its new nodes, its object with the parts
-- and its digests, has read records, those of the file where its contents are known
pub joined_read : (reveals : Type 0) (file : List ℕ) (old new : Reader) (object : ObjectFields) (bytes parts : ℕ) (first text name : List ℕ) (all : List Extent) (placed : ObjectRef) → (at : IsAtHead reveals file old (joined_found bytes object parts))
    → Goes reveals file old new.input at.records (joined_record old object parts first text) → new.shape ≡ old.shape → IsGrown old.lattice (old.lattice.n + object.count) new.lattice
    → name ≡ bytes_at object.long 8 old.input.cursor.bytes → all ≡ extents parts first
    → placed ≡ record { first = first_of all; count = sum_by (λ e. e.count) all; length = object.size; digest = object.digest }
    → new.catalog.objects ≡ insert old.catalog.objects name (record { object = placed; parts = all }) → new.raised ≡ old.raised
    → new.digests.items ≡ old.digests.items ++ pieces 32 (object.count * (1 + old.shape.alpha)) text → IsReading reveals file new
joined_read reveals file old new object bytes parts first text name all placed at goes shape lattice is all_is places objects raised items =
    let o : Stored = record (stored_at (take 315 old.input.cursor.bytes) object) { digests = pieces 32 (object.count * (1 + old.shape.alpha)) text } in
    let same = name_is old name object.long (omega (arith, at.small.0.0)) is in
    let kept : record { object = placed; parts = all } ≡ placed_parts (record (stored_at (take 315 old.input.cursor.bytes) object) { digests = pieces 32 (object.count * (1 + old.shape.alpha)) text }) (extents parts first) =
    (λ i. record { object = places i; parts = all })
    ∙ (λ i. record { object = record { first = first_of (all_is i); count = sum_by (λ e. e.count) (all_is i); length = object.size; digest = object.digest }; parts = all_is i }) in
    object_read reveals file old new at.records (joined_record old object parts first text) (record (stored_at (take 315 old.input.cursor.bytes) object) { digests = pieces 32 (object.count * (1 + old.shape.alpha)) text })
    (pieces 32 (object.count * (1 + old.shape.alpha)) text) at.read at.revealed goes shape lattice
    (nodes_of-push at.records (joined_record old object parts first text) ∙ ap (λ (n : ℕ). nodes_of at.records + n) (one_count (record (stored_at (take 315 old.input.cursor.bytes) object) { digests = pieces 32 (object.count * (1 + old.shape.alpha)) text })))
    (fences_of-push at.records (joined_record old object parts first text) ∙ append-nil (fences_of at.records))
    (raised_stays at.records (joined_record old object parts first text) refl)
    (digests_of-push at.records (joined_record old object parts first text) ∙ ap (λ (l : List (List ℕ)). digests_of at.records ++ l) (append-nil (pieces 32 (object.count * (1 + old.shape.alpha)) text)))
    (objects ∙ (λ i. insert (at.read.objects i) (sym same i) (kept i)) ∙ sym (objects-push empty at.records (joined_record old object parts first text)))
    raised items

-- the parts are not all there
pub parts_missing : (reveals : Type 0) (file : List ℕ) (old : Reader) (mid : Input) (object : ObjectFields) (bytes parts place : ℕ) → TailsAreJudged → (at : IsAtHead reveals file old (joined_found bytes object parts)) → reveals
    → mid.cursor.place ≡ old.input.cursor.place + (object_end object + 4) → length (drop mid.cursor.place file) < 8 * parts → place ≡ old.input.cursor.place + (object_end object + 4) → IsBadAt file place
parts_missing reveals file old mid object bytes parts place law at reveal behind missing is =
    let rest : List ℕ = drop old.input.cursor.place file in
    bad_tail reveals file old (joined_found bytes object parts) (object_end object + 4) place law at reveal
    (ap (λ (x : Result (Record × ℕ) ℕ). bad_of x) (missed (nat_le (object_end object + 4 + 8 * parts) (length (drop old.input.cursor.place file))) _ _ (Err (object_end object + 4))
    (short-has (object_end object + 4 + 8 * parts) (length (drop old.input.cursor.place file)) (omega (arith, missing, length-drop mid.cursor.place file, length-drop old.input.cursor.place file, behind))))) is

-- the bytes of a field lie in the bytes
stands_at : (rest x y z : List ℕ) (at n : ℕ) → rest ≡ x ++ (y ++ z) → length x ≡ at → length y ≡ n → bytes_at n at rest ≡ y
stands_at rest x y z at n is long wide =
    ap (λ (l : List ℕ). take n (drop at l)) is ∙ ap (take n) (drop_at x (y ++ z) at long) ∙ take_at y z n wide

-- they are no parts of it
pub parts_bad : (reveals : Type 0) (file : List ℕ) (old : Reader) (mid behind : Input) (object : ObjectFields) (bytes parts place : ℕ) (none all : List Extent) → TailsAreJudged
    → (at : IsAtHead reveals file old (joined_found bytes object parts)) → reveals → HasPassed reveals file old.input mid (take (object_end object + 4) old.input.cursor.bytes) → HasParts reveals file mid behind parts none all
    → none ≡ [] → old.lattice.n ≡ nodes_of at.records → are_parts old.shape object.size (old.lattice.n + object.count) all ≡ false → place ≡ old.input.cursor.place + (object_end object + 4) → IsBadAt file place
parts_bad reveals file old mid behind object bytes parts place none all law at reveal head ps nothing nodes bad is =
    let rest : List ℕ = drop old.input.cursor.place file in
    let whole : drop old.input.cursor.place file ≡ take (object_end object + 4) old.input.cursor.bytes ++ (ps.text ++ drop behind.cursor.place file) =
    head.bytes reveal ∙ ap (λ (l : List ℕ). take (object_end object + 4) old.input.cursor.bytes ++ l) (ps.passed.bytes reveal) in
    let field : bytes_at (8 * parts) (object_end object + 4) (drop old.input.cursor.place file) ≡ ps.text =
    stands_at (drop old.input.cursor.place file) (take (object_end object + 4) old.input.cursor.bytes) ps.text (drop behind.cursor.place file) (object_end object + 4) (8 * parts) whole
    (omega (arith, length-take (object_end object + 4) old.input.cursor.bytes, at.within)) ps.long in
    let all_is : all ≡ extents parts ps.text = ps.parts ∙ ap (λ (l : List Extent). l ++ extents parts ps.text) nothing in
    bad_tail reveals file old (joined_found bytes object parts) (object_end object + 4) place law at reveal
    (ap (λ (x : Result (Record × ℕ) ℕ). bad_of x) (failed (nat_le (object_end object + 4 + 8 * parts) (length (drop old.input.cursor.place file))) _ _ (Err (object_end object + 4))
    (ap (λ (l : List ℕ). are_parts old.shape object.size (nodes_of at.records + object.count) (extents parts l)) field
    ∙ (λ i. are_parts old.shape object.size (sym nodes i + object.count) (sym all_is i)) ∙ bad))) is

-- what is judged after parts that are good
behind_parts : (reveals : Type 0) (file : List ℕ) (old : Reader) (mid behind : Input) (object : ObjectFields) (bytes parts : ℕ) (none all : List Extent)
    → (at : IsAtHead reveals file old (joined_found bytes object parts)) → reveals → HasPassed reveals file old.input mid (take (object_end object + 4) old.input.cursor.bytes) → (ps : HasParts reveals file mid behind parts none all)
    → none ≡ [] → old.lattice.n ≡ nodes_of at.records → are_parts old.shape object.size (old.lattice.n + object.count) all ≡ true
    → judge (tail_fields old.shape (known_of at.records) (found_at (take 315 old.input.cursor.bytes) (joined_found bytes object parts))) (object_end object + 4) (drop old.input.cursor.place file)
    ≡ judge (digest_fields old.shape bytes (54 + 8 * parts) (stored_at (take 315 old.input.cursor.bytes) object) (λ p. Joined p (extents parts (bytes_at (8 * parts) (object_end object + 4) (drop old.input.cursor.place file)))))
    (object_end object + 4 + 8 * parts) (drop old.input.cursor.place file)
behind_parts reveals file old mid behind object bytes parts none all at reveal head ps nothing nodes good =
    let whole : drop old.input.cursor.place file ≡ take (object_end object + 4) old.input.cursor.bytes ++ (ps.text ++ drop behind.cursor.place file) =
    head.bytes reveal ∙ ap (λ (l : List ℕ). take (object_end object + 4) old.input.cursor.bytes ++ l) (ps.passed.bytes reveal) in
    let size : length (take (object_end object + 4) old.input.cursor.bytes) ≡ object_end object + 4 = omega (arith, length-take (object_end object + 4) old.input.cursor.bytes, at.within) in
    let field : bytes_at (8 * parts) (object_end object + 4) (drop old.input.cursor.place file) ≡ ps.text =
    stands_at (drop old.input.cursor.place file) (take (object_end object + 4) old.input.cursor.bytes) ps.text (drop behind.cursor.place file) (object_end object + 4) (8 * parts) whole size ps.long in
    let all_is : all ≡ extents parts ps.text = ps.parts ∙ ap (λ (l : List Extent). l ++ extents parts ps.text) nothing in
    both (nat_le (object_end object + 4 + 8 * parts) (length (drop old.input.cursor.place file))) _ _ _
    (long-has (object_end object + 4 + 8 * parts) (length (drop old.input.cursor.place file))
    (omega (arith, ap length whole, length-append (take (object_end object + 4) old.input.cursor.bytes) (ps.text ++ drop behind.cursor.place file), length-append ps.text (drop behind.cursor.place file), size, ps.long)))
    (ap (λ (l : List ℕ). are_parts old.shape object.size (nodes_of at.records + object.count) (extents parts l)) field
    ∙ (λ i. are_parts old.shape object.size (sym nodes i + object.count) (sym all_is i)) ∙ good)

-- where the file's contents are known, and the digests of an object in parts are not all there after its parts, which are
-- valid, the file is bad where they begin
pub joined_missing : (reveals : Type 0) (file : List ℕ) (old : Reader) (mid behind : Input) (object : ObjectFields) (bytes parts count place : ℕ) (none all : List Extent) → TailsAreJudged
    → (at : IsAtHead reveals file old (joined_found bytes object parts)) → reveals → HasPassed reveals file old.input mid (take (object_end object + 4) old.input.cursor.bytes) → HasParts reveals file mid behind parts none all
    → none ≡ [] → old.lattice.n ≡ nodes_of at.records → are_parts old.shape object.size (old.lattice.n + object.count) all ≡ true → count ≡ object.count * (1 + old.shape.alpha)
    → length (drop behind.cursor.place file) < 32 * count → place ≡ old.input.cursor.place + (object_end object + 4 + 8 * parts) → IsBadAt file place
joined_missing reveals file old mid behind object bytes parts count place none all law at reveal head ps nothing nodes good many missing is =
    let there : HasPassed reveals file old.input behind (take (object_end object + 4) old.input.cursor.bytes ++ ps.text) =
    passed_then reveals file old.input mid behind (take (object_end object + 4) old.input.cursor.bytes) ps.text head ps.passed in
    let size : length (take (object_end object + 4) old.input.cursor.bytes) ≡ object_end object + 4 = omega (arith, length-take (object_end object + 4) old.input.cursor.bytes, at.within) in
    bad_tail reveals file old (joined_found bytes object parts) (object_end object + 4 + 8 * parts) place law at reveal
    (ap (λ (x : Result (Record × ℕ) ℕ). bad_of x) (behind_parts reveals file old mid behind object bytes parts none all at reveal head ps nothing nodes good)
    ∙ digests_missing old.shape bytes (54 + 8 * parts) (stored_at (take 315 old.input.cursor.bytes) object) (λ p. Joined p (extents parts (bytes_at (8 * parts) (object_end object + 4) (drop old.input.cursor.place file)))) (object_end object + 4 + 8 * parts) (drop old.input.cursor.place file)
    (omega (arith, missing, length-drop behind.cursor.place file, length-drop old.input.cursor.place file, there.place, length-append (take (object_end object + 4) old.input.cursor.bytes) ps.text, size, ps.long, many))) is

-- where the file's contents are known, and the number of bytes of an object in parts is another, its parts being valid and its
-- digests there, the file is bad at this number
pub joined_wrong : (reveals : Type 0) (file : List ℕ) (old : Reader) (mid behind new : Input) (object : ObjectFields) (bytes parts count place : ℕ) (none all : List Extent) (before after : List (List ℕ)) → TailsAreJudged
    → (at : IsAtHead reveals file old (joined_found bytes object parts)) → reveals → HasPassed reveals file old.input mid (take (object_end object + 4) old.input.cursor.bytes) → HasParts reveals file mid behind parts none all
    → HasDigests reveals file behind new count before after → none ≡ [] → old.lattice.n ≡ nodes_of at.records → are_parts old.shape object.size (old.lattice.n + object.count) all ≡ true
    → count ≡ object.count * (1 + old.shape.alpha) → bytes ≢ 54 + 8 * parts + object.long + 32 * count → place ≡ old.input.cursor.place + 2 → IsBadAt file place
joined_wrong reveals file old mid behind new object bytes parts count place none all before after law at reveal head ps ds nothing nodes good many wrong is =
    let there : HasPassed reveals file old.input behind (take (object_end object + 4) old.input.cursor.bytes ++ ps.text) =
    passed_then reveals file old.input mid behind (take (object_end object + 4) old.input.cursor.bytes) ps.text head ps.passed in
    let name = name_long reveals file old (joined_found bytes object parts) object.long at (omega arith) in
    let size : length (take (object_end object + 4) old.input.cursor.bytes) ≡ object_end object + 4 = omega (arith, length-take (object_end object + 4) old.input.cursor.bytes, at.within) in
    let left = length_left file old.input.cursor.place (take (object_end object + 4) old.input.cursor.bytes ++ ps.text) ds.text behind.cursor.place new.cursor.place (there.bytes reveal) (ds.passed.bytes reveal) in
    bad_tail reveals file old (joined_found bytes object parts) 2 place law at reveal
    (ap (λ (x : Result (Record × ℕ) ℕ). bad_of x) (behind_parts reveals file old mid behind object bytes parts none all at reveal head ps nothing nodes good)
    ∙ length_wrong old.shape bytes (54 + 8 * parts) (stored_at (take 315 old.input.cursor.bytes) object) (λ p. Joined p (extents parts (bytes_at (8 * parts) (object_end object + 4) (drop old.input.cursor.place file)))) (object_end object + 4 + 8 * parts) (drop old.input.cursor.place file)
    (omega (arith, left, ds.long, many, length-append (take (object_end object + 4) old.input.cursor.bytes) ps.text, size, ps.long))
    (λ e. wrong (e ∙ (λ i. 54 + 8 * parts + name i + 32 * sym many i)))) is
