-- What is under the name of an object that was put, in the data list that the puts are, is the object.
use Rattle.std.proofs.Common.{◌≡◌, ◌≢◌, ℕ, zero, suc, ◌+◌, ◌-◌, ◌*◌, ◌==◌, ◌<◌, Bool, true, false, List, [], ◌∷◌, ◌++◌, length, take, drop, refl, sym, ◌∙◌, ap, subst, arith, replicate, Some}
use Rattle.std.specs.Prelude.{All, slice_index_or, if◌then◌else◌}
use Rattle.std.specs.List.{sum_by, Contains}
use Rattle.std.specs.FinMap.{get}
use Rattle.std.proofs.lemmas.List.{append-nil, append_assoc, length-append, get_or_append_left}
use Rattle.std.proofs.lemmas.List.Concat.{flat_map-cons}
use Rattle.std.proofs.lemmas.Grind.{flat_map-append}
use Rattle.std.proofs.Math.Seq.{take-append_seam, drop-append_seam}
use Rattle.std.proofs.lemmas.Bool.Decides.{nat_tests}
use Rattle.sha2.specs.Sha256.{sha256}
use Rattle.aea_lattice.specs.declared.shape.Shape.{Shape}
use Rattle.aea_lattice.specs.declared.grid.Lattice.{Lattice}
use Rattle.aea_catalog.specs.declared.objects.Extent.{Extent}
use Rattle.aea_catalog.specs.Catalogs.{Placed}
use Rattle.aea_records.specs.Catalogued.{objects_of, PlacesUnder, placed_object}
use Rattle.aea_records.specs.Format.{Stored, Record, Object, Joined, Fence, Raise, nodes_for, nodes_of, fences_of, stored_of, stored_in, own_parts}
use Rattle.aea_records.specs.Grammar.{MayFollow, IsNext}
use Rattle.aea_records.specs.Laws.{ObjectsAreOfRecords}
use Rattle.aea_records.specs.Recorded.{blocks_in, HoldsObject, HoldsRecord}
use Rattle.aea_ledger.specs.Recorded.{AreRecordsOf, IsLatticeOf}
use Rattle.aea_lattice.specs.Data.{IsDataList}
use Rattle.aea_records.proofs.OneMore.{stored_of-push, nodes_of-push}
use Rattle.aea_archive.specs.Next.{NewObject, cut_blocks, object_blocks}
use Rattle.aea_archive.proofs.Pieces.{cut-length, cut-joined}
use Rattle.aea_archive.specs.Objects.{object_in, joined}
use Rattle.aea_fetch.specs.Puts.{AreOfPuts, datas_of, PutsGoOn, RecordedObjectsHaveTheirDigests}
use Rattle.aea_fetch.proofs.Copies.{nodes_hold}

-- ---- the bytes of the next object

all_taken : (n : ℕ) (xs : List (List ℕ)) → length xs ≡ n → take n xs ≡ xs
all_taken zero [] long = refl
all_taken zero (x ∷ xs) long = absurd (omega (arith, long))
all_taken (suc n) [] long = absurd (omega (arith, long))
all_taken (suc n) (x ∷ xs) long = ap (λ (r : List (List ℕ)). x ∷ r) (all_taken n xs (omega (arith, long)))

-- the blocks of its own range are those after the ones before it
own_are : (shape : Shape) (front back : List (List ℕ)) (bytes : List ℕ) (o : Stored) (b : Bool) → (o.count == 0) ≡ b → o.first ≡ length front + 1 → o.count ≡ nodes_for shape (length bytes)
    → blocks_in (if b then [] else record { first = o.first; count = o.count } ∷ []) (front ++ (object_blocks shape bytes ++ back)) ≡ object_blocks shape bytes
own_are shape front back bytes o true is first count =
    let none : nodes_for shape (length bytes) ≡ 0 = grind (arith, nat_tests, is, count) in
    sym (ap (λ (n : ℕ). cut_blocks shape.block n bytes) none)
own_are shape front back bytes o false is first count =
    let mid : List (List ℕ) = object_blocks shape bytes in
    let place : o.first - 1 ≡ length front = omega (arith, first) in
    let long : o.count ≡ length mid = omega (arith, count, cut-length shape.block (nodes_for shape (length bytes)) bytes) in
    append-nil (take o.count (drop (o.first - 1) (front ++ (mid ++ back))))
    ∙ ap (λ (k : ℕ). take o.count (drop k (front ++ (mid ++ back)))) place
    ∙ ap (take o.count) (drop-append_seam front (mid ++ back))
    ∙ ap (λ (k : ℕ). take k (mid ++ back)) long
    ∙ take-append_seam mid back

-- what is in it is the object
own_bytes : (shape : Shape) (front back : List (List ℕ)) (bytes : List ℕ) (o : Stored) (p : Placed) → p ≡ placed_object o → o.size ≡ length bytes → o.first ≡ length front + 1 → o.count ≡ nodes_for shape o.size
    → object_in p (front ++ (object_blocks shape bytes ++ back)) ≡ bytes
own_bytes shape front back bytes o p is size first count =
    let datas : List (List ℕ) = front ++ (object_blocks shape bytes ++ back) in
    let zeros : List ℕ = replicate (nodes_for shape (length bytes) * shape.block - length bytes) 0 in
    let many : o.count ≡ nodes_for shape (length bytes) = count ∙ ap (nodes_for shape) size in
    let blocks : blocks_in (placed_object o).parts datas ≡ object_blocks shape bytes = own_are shape front back bytes o (o.count == 0) refl first many in
    let bytes_are : joined (blocks_in (placed_object o).parts datas) ≡ bytes ++ zeros = ap joined blocks ∙ cut-joined shape.block (nodes_for shape (length bytes)) bytes (nodes_hold shape (length bytes)) in
    ap (λ (q : Placed). object_in q datas) is
    ∙ ap (λ (n : ℕ). take n (joined (blocks_in (placed_object o).parts datas))) size
    ∙ ap (take (length bytes)) bytes_are
    ∙ take-append_seam bytes zeros

-- ---- names

-- the names of an object that may follow are new
fresh : (shape : Shape) (earlier : List Record) (r : Record) (name : List ℕ) (p : Placed) → IsNext shape earlier r → PlacesUnder name p r → All (λ e. e.name ≢ name) (stored_of earlier)
fresh shape earlier (Object o) name p next places = subst (λ (n : List ℕ). All (λ e. e.name ≢ n) (stored_of earlier)) places.0 next.stored.new
fresh shape earlier (Joined o parts) name p next places = subst (λ (n : List ℕ). All (λ e. e.name ≢ n) (stored_of earlier)) places.0 next.stored.new
fresh shape earlier (Fence node) name p next places = absurd places
fresh shape earlier Raise name p next places = absurd places

all_front : (P : Stored → Type 0) (xs ys : List Stored) → All P (xs ++ ys) → All P xs
all_front P xs ys all k d below = subst P (get_or_append_left xs ys d k below) (all k d (omega (arith, below, length-append xs ys)))

-- so is that of a later one
later_fresh : (shape : Shape) (earlier records : List Record) (j : ℕ) (r : Record) (name : List ℕ) (p : Placed) → MayFollow shape earlier records → j < length records → slice_index_or records j r ≡ r → PlacesUnder name p r
    → All (λ e. e.name ≢ name) (stored_of earlier)
later_fresh shape earlier [] j r name p follow below is places = absurd (omega (arith, below))
later_fresh shape earlier (q ∷ records) zero r name p follow below is places = fresh shape earlier q name p follow.0 (subst (PlacesUnder name p) (sym is) places)
later_fresh shape earlier (q ∷ records) (suc j) r name p follow below is places =
    let rest = later_fresh shape (earlier ++ q ∷ []) records j r name p follow.1 (omega (arith, below)) is places in
    all_front (λ e. e.name ≢ name) (stored_of earlier) (stored_in q) (subst (All (λ e. e.name ≢ name)) (stored_of-push earlier q) rest)

all_last : (P : Stored → Type 0) (xs : List Stored) (x : Stored) → All P (xs ++ x ∷ []) → P x
all_last P [] x all = all 0 x (omega arith)
all_last P (y ∷ xs) x all = all_last P xs x (λ k d below. all (suc k) d (omega (arith, below)))

-- no later one has the name of this one
no_later : (shape : Shape) (earlier records : List Record) (o : Stored) (j : ℕ) (r : Record) (p : Placed) → MayFollow shape (earlier ++ Object o ∷ []) records → j < length records → slice_index_or records j r ≡ r → PlacesUnder o.name p r → ⊥
no_later shape earlier records o j r p follow below is places =
    let all = later_fresh shape (earlier ++ Object o ∷ []) records j r o.name p follow below is places in
    all_last (λ e. e.name ≢ o.name) (stored_of earlier) o (subst (All (λ e. e.name ≢ o.name)) (stored_of-push earlier (Object o)) all) refl

-- each object that was put has a record
record HasRecord (records : List Record) (o : NewObject) : Type 0 where
  r : Stored
  place : ℕ
  below : place < length records
  is : slice_index_or records place (Object r) ≡ Object r
  named : r.name ≡ o.name

has_later : (q : Record) (records : List Record) (o : NewObject) → HasRecord records o → HasRecord (q ∷ records) o
has_later q records o has = record { r = has.r; place = suc has.place; below = omega (arith, has.below); is = has.is; named = has.named }

put_has_record : (records : List Record) (puts : List NewObject) (k : ℕ) (o : NewObject) → AreOfPuts records puts → k < length puts → slice_index_or puts k o ≡ o → HasRecord records o
put_has_record [] [] k o are below is = absurd (omega (arith, below))
put_has_record [] (u ∷ puts) k o are below is = absurd are
put_has_record (Object q ∷ records) [] k o are below is = absurd are
put_has_record (Object q ∷ records) (u ∷ puts) zero o are below is = record { r = q; place = 0; below = omega arith; is = refl; named = are.0 ∙ ap (λ (x : NewObject). x.name) is }
put_has_record (Object q ∷ records) (u ∷ puts) (suc k) o are below is = has_later (Object q) records o (put_has_record records puts k o are.2 (omega (arith, below)) is)
put_has_record (Joined q parts ∷ records) puts k o are below is = absurd are
put_has_record (Fence node ∷ records) puts k o are below is = has_later (Fence node) records o (put_has_record records puts k o are below is)
put_has_record (Raise ∷ records) puts k o are below is = has_later Raise records o (put_has_record records puts k o are below is)

-- ---- what is under a name

nodes_stay : (earlier : List Record) (r : Record) (front : List (List ℕ)) → stored_in r ≡ [] → length front ≡ nodes_of earlier → length front ≡ nodes_of (earlier ++ r ∷ [])
nodes_stay earlier r front none long =
    let more : sum_by (λ (o : Stored). o.count) (stored_in r) ≡ 0 = ap (sum_by (λ (o : Stored). o.count)) none in
    omega (arith, long, more, nodes_of-push earlier r)

found_put : (shape : Shape) (earlier records : List Record) (front : List (List ℕ)) (puts : List NewObject) (k : ℕ) (o : NewObject) (j : ℕ) (r : Record) (p : Placed)
    → MayFollow shape earlier records → AreOfPuts records puts → length front ≡ nodes_of earlier
    → k < length puts → slice_index_or puts k o ≡ o → j < length records → slice_index_or records j r ≡ r → PlacesUnder o.name p r
    → object_in p (front ++ datas_of shape puts) ≡ o.bytes
found_put shape earlier [] front puts k o j r p follow are long within is below at places = absurd (omega (arith, below))
found_put shape earlier (Object q ∷ records) front [] k o j r p follow are long within is below at places = absurd are
found_put shape earlier (Object q ∷ records) front (u ∷ puts) zero o zero r p follow are long within is below at places =
    let here : PlacesUnder o.name p (Object q) = subst (PlacesUnder o.name p) (sym at) places in
    let first : q.first ≡ length front + 1 = omega (arith, follow.0.stored.first, long) in
    ap (λ (d : List (List ℕ)). object_in p (front ++ d)) (flat_map-cons (λ (x : NewObject). object_blocks shape x.bytes) u puts)
    ∙ own_bytes shape front (datas_of shape puts) u.bytes q p here.1 are.1 first follow.0.count
    ∙ ap (λ (x : NewObject). x.bytes) is
found_put shape earlier (Object q ∷ records) front (u ∷ puts) zero o (suc j) r p follow are long within is below at places =
    let same : o.name ≡ q.name = sym (are.0 ∙ ap (λ (x : NewObject). x.name) is) in
    absurd (no_later shape earlier records q j r p follow.1 (omega (arith, below)) at (subst (λ (n : List ℕ). PlacesUnder n p r) same places))
found_put shape earlier (Object q ∷ records) front (u ∷ puts) (suc k) o zero r p follow are long within is below at places =
    let here : PlacesUnder o.name p (Object q) = subst (PlacesUnder o.name p) (sym at) places in
    let has = put_has_record records puts k o are.2 (omega (arith, within)) is in
    absurd (no_later shape earlier records q has.place (Object has.r) (placed_object has.r) follow.1 has.below has.is (has.named ∙ sym here.0, refl))
found_put shape earlier (Object q ∷ records) front (u ∷ puts) (suc k) o (suc j) r p follow are long within is below at places =
    let mid : List (List ℕ) = object_blocks shape u.bytes in
    let count : length mid ≡ q.count = cut-length shape.block (nodes_for shape (length u.bytes)) u.bytes ∙ sym (follow.0.count ∙ ap (nodes_for shape) are.1) in
    let one : sum_by (λ (x : Stored). x.count) (q ∷ []) ≡ q.count = omega arith in
    let longer : length (front ++ mid) ≡ nodes_of (earlier ++ Object q ∷ []) = omega (arith, long, count, one, length-append front mid, nodes_of-push earlier (Object q)) in
    ap (λ (d : List (List ℕ)). object_in p (front ++ d)) (flat_map-cons (λ (x : NewObject). object_blocks shape x.bytes) u puts)
    ∙ ap (object_in p) (sym (append_assoc front mid (datas_of shape puts)))
    ∙ found_put shape (earlier ++ Object q ∷ []) records (front ++ mid) puts k o j r p follow.1 are.2 longer (omega (arith, within)) is (omega (arith, below)) at places
found_put shape earlier (Joined q parts ∷ records) front puts k o j r p follow are long within is below at places = absurd are
found_put shape earlier (Fence node ∷ records) front puts k o zero r p follow are long within is below at places = absurd (subst (PlacesUnder o.name p) (sym at) places)
found_put shape earlier (Fence node ∷ records) front puts k o (suc j) r p follow are long within is below at places =
    found_put shape (earlier ++ Fence node ∷ []) records front puts k o j r p follow.1 are (nodes_stay earlier (Fence node) front refl long) within is (omega (arith, below)) at places
found_put shape earlier (Raise ∷ records) front puts k o zero r p follow are long within is below at places = absurd (subst (PlacesUnder o.name p) (sym at) places)
found_put shape earlier (Raise ∷ records) front puts k o (suc j) r p follow are long within is below at places =
    found_put shape (earlier ++ Raise ∷ []) records front puts k o j r p follow.1 are (nodes_stay earlier Raise front refl long) within is (omega (arith, below)) at places

-- the object that was put under a name is what is found there
pub put_is_found : (shape : Shape) (records : List Record) (puts : List NewObject) (o : NewObject) (p : Placed) → ObjectsAreOfRecords → MayFollow shape [] records → AreOfPuts records puts → Contains puts o → get (objects_of records) o.name ≡ Some p
    → object_in p (datas_of shape puts) ≡ o.bytes
put_is_found shape records puts o p of_records follow are among found =
    let of = of_records records o.name p found in
    found_put shape [] records [] puts among.0 o of.1.0 of.0 p follow are refl among.1 among.2 of.1.1 of.1.2 of.2

-- a data list that is recorded is one of the lattice that the records are of
pub data_of_records : (shape : Shape) (records : List Record) (datas : List (List ℕ)) (l : Lattice) → IsLatticeOf shape (nodes_of records) (fences_of records) l → AreRecordsOf shape records datas → IsDataList l shape.block datas
data_of_records shape records datas l is recorded =
    let mine = recorded.is_data in
    record { some_bytes = mine.some_bytes; long = mine.long ∙ recorded.is_lattice.n ∙ sym is.n; each = mine.each }

-- ---- laws

bytes_held : (datas : List (List ℕ)) (o : Stored) (parts : List Extent) → HoldsObject datas o parts → (length (take o.size (joined (blocks_in parts datas))) ≡ o.size) × (sha256 (take o.size (joined (blocks_in parts datas))) ≡ o.digest)
bytes_held datas o parts holds =
    let front : take o.size (joined (blocks_in parts datas)) ≡ holds.bytes = ap (λ (n : ℕ). take n (joined (blocks_in parts datas))) (sym holds.long) ∙ holds.front in
    (ap (λ (bytes : List ℕ). length bytes) front ∙ holds.long, ap sha256 front ∙ holds.digest)

placed_held : (datas : List (List ℕ)) (r : Record) (name : List ℕ) (p : Placed) → HoldsRecord datas r → PlacesUnder name p r → (length (object_in p datas) ≡ p.object.length) × (sha256 (object_in p datas) ≡ p.object.digest)
placed_held datas (Object o) name p holds places =
    subst (λ (q : Placed). (length (object_in q datas) ≡ q.object.length) × (sha256 (object_in q datas) ≡ q.object.digest)) (sym places.1) (bytes_held datas o (own_parts o) holds)
placed_held datas (Joined o parts) name p holds places =
    subst (λ (q : Placed). (length (object_in q datas) ≡ q.object.length) × (sha256 (object_in q datas) ≡ q.object.digest)) (sym places.1) (bytes_held datas o parts holds)
placed_held datas (Fence node) name p holds places = absurd places
placed_held datas Raise name p holds places = absurd places

-- the bytes of a recorded object have the length and the digest that are kept of it
pub recorded_digests : ObjectsAreOfRecords → RecordedObjectsHaveTheirDigests
recorded_digests of_records shape records datas name p recorded found =
    let of = of_records records name p found in
    let holds = subst (HoldsRecord datas) of.1.2 (recorded.objects of.1.0 of.0 of.1.1) in
    placed_held datas of.0 name p holds of.2

puts_more : (records : List Record) (puts : List NewObject) (o : NewObject) (r : Stored) → AreOfPuts records puts → r.name ≡ o.name → r.size ≡ length o.bytes → AreOfPuts (records ++ Object r ∷ []) (puts ++ o ∷ [])
puts_more [] [] o r are named size = (named, size, tt)
puts_more [] (u ∷ puts) o r are named size = absurd are
puts_more (Object q ∷ records) [] o r are named size = absurd are
puts_more (Object q ∷ records) (u ∷ puts) o r are named size = (are.0, are.1, puts_more records puts o r are.2 named size)
puts_more (Joined q parts ∷ records) puts o r are named size = absurd are
puts_more (Fence node ∷ records) puts o r are named size = puts_more records puts o r are named size
puts_more (Raise ∷ records) puts o r are named size = puts_more records puts o r are named size

-- an object more is put after those that were
pub puts_go_on : PutsGoOn
puts_go_on shape records puts l m payload o r are next = (
  puts_more records puts o r are next.name_is next.size,
  flat_map-append (λ (x : NewObject). object_blocks shape x.bytes) puts (o ∷ [])
      ∙ ap (λ (d : List (List ℕ)). datas_of shape puts ++ d) (append-nil (object_blocks shape o.bytes)),
)
