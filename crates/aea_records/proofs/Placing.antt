-- Which names the objects of records have, and how many there are.
use Rattle.std.proofs.Common.{◌≡◌, ◌≢◌, ◌⊎◌, ℕ, suc, ◌+◌, Bool, true, false, ◌||◌, cond, List, [], ◌∷◌, ◌++◌, length, All, Option, Some, None, is_some, refl, sym, ap, ◌∙◌, arith, inl, inr}
use Rattle.std.specs.List.{list_any, Contains}
use Rattle.std.specs.FinMap.{get, insert, len, empty, get-empty, get-insert, len-insert, len-empty}
use Rattle.std.specs.Ordering.{nat_cmp}
use Rattle.std.specs.Cmp.Lexicographic.{slice_cmp, nat_list_cmp_total}
use Rattle.std.specs.Str.{bytes_eq}
use Rattle.std.proofs.lemmas.Map.Text.{is_eq-slice_cmp}
use Rattle.std.proofs.lemmas.Slice.Eq.{bytes_eq-Decides}
use Rattle.std.proofs.lemmas.Bool.Decides.{same_from_decides, Decides-like}
use Rattle.aea_lattice.specs.declared.shape.Shape.{Shape}
use Rattle.aea_catalog.specs.Catalogs.{Placed, Objects}
use Rattle.aea_records.specs.Format.{Record, Object, Joined, Fence, Raise, stored_of, nodes_of, fences_of, is_raise}
use Rattle.aea_records.specs.Known.{is_taken}
use Rattle.aea_records.specs.Grammar.{IsNext}
use Rattle.aea_records.specs.Catalogued.{placed_object, placed_parts, with_record, objects_from, objects_of, PlacesUnder}
use Rattle.aea_records.specs.Laws.{ObjectsAreCounted, NamesAreFound, NewNamesAreFree, ObjectsAreOfRecords, ReadersKnow}
use Rattle.aea_records.proofs.Names.{free-new, new-free}
use Rattle.aea_records.proofs.Behind.{stored-push}
use Rattle.aea_records.proofs.Counts.{along}

-- ---- names

bytes_eq_comm : (xs ys : List ℕ) → bytes_eq xs ys ≡ bytes_eq ys xs
bytes_eq_comm xs ys = same_from_decides (bytes_eq xs ys) (bytes_eq ys xs) (bytes_eq-Decides xs ys) (Decides-like (bytes_eq ys xs) sym sym (bytes_eq-Decides ys xs))

-- what is found where one more object is put under a key
get_more : (objects : Objects) (key name : List ℕ) (placed : Placed) → get (insert objects key placed) name ≡ cond (bytes_eq key name) (Some placed) (get objects name)
get_more objects key name placed =
    get-insert nat_list_cmp_total objects key placed name
    ∙ ap (λ (b : Bool). cond b (Some placed) (get objects name)) (is_eq-slice_cmp name key ∙ bytes_eq_comm name key)

chosen : (b : Bool) (placed : Placed) (other : Option Placed) → is_some (cond b (Some placed) other) ≡ (b || is_some other)
chosen true placed other = refl
chosen false placed other = refl

some_more : (objects : Objects) (key name : List ℕ) (placed : Placed) → is_some (get (insert objects key placed) name) ≡ (bytes_eq key name || is_some (get objects name))
some_more objects key name placed = ap is_some (get_more objects key name placed) ∙ chosen (bytes_eq key name) placed (get objects name)

or_swap : (a b c : Bool) → ((a || b) || c) ≡ (b || (a || c))
or_swap true true c = refl
or_swap true false c = refl
or_swap false b c = refl

or_last : (a : Bool) → a ≡ (a || false)
or_last true = refl
or_last false = refl

taken_from : (objects : Objects) (records : List Record) (name : List ℕ) → is_some (get (objects_from objects records) name) ≡ (is_some (get objects name) || is_taken records name)
taken_from objects [] name = or_last (is_some (get objects name))
taken_from objects (Object o ∷ records) name =
    taken_from (insert objects o.name (placed_object o)) records name
    ∙ ap (λ (b : Bool). b || is_taken records name) (some_more objects o.name name (placed_object o))
    ∙ or_swap (bytes_eq o.name name) (is_some (get objects name)) (is_taken records name)
taken_from objects (Joined o parts ∷ records) name =
    taken_from (insert objects o.name (placed_parts o parts)) records name
    ∙ ap (λ (b : Bool). b || is_taken records name) (some_more objects o.name name (placed_parts o parts))
    ∙ or_swap (bytes_eq o.name name) (is_some (get objects name)) (is_taken records name)
taken_from objects (Fence node ∷ records) name = taken_from objects records name
taken_from objects (Raise ∷ records) name = taken_from objects records name

-- something is found under a name exactly where the object of a record has it
pub names_are_found : NamesAreFound
names_are_found records name =
    taken_from empty records name ∙ ap (λ (o : Option Placed). is_some o || is_taken records name) (get-empty (slice_cmp nat_cmp) name)

-- ---- which record an object is of

same_name : (key name : List ℕ) → bytes_eq key name ≡ true → key ≡ name
same_name key name is = (bytes_eq-Decides key name).0 is

contains-first : (r : Record) (records : List Record) → Contains (r ∷ records) r
contains-first r records = (0, (omega arith), refl)

contains-later : (q r : Record) (records : List Record) → Contains records r → Contains (q ∷ records) r
contains-later q r records c = (suc c.0, (omega (arith, c.1)), c.2)

-- what is found is of one of the records, or was there
record OfRecord (records : List Record) (name : List ℕ) (placed : Placed) : Type 0 where
  r : Record
  within : Contains records r
  places : PlacesUnder name placed r

or_before : (b : Bool) (placed other : Placed) (before : Option Placed) → cond b (Some other) before ≡ Some placed → ((b ≡ true) × (placed ≡ other)) ⊎ (before ≡ Some placed)
or_before true placed other before e = inl (refl, let h : Some other ≡ Some placed = e in cc)
or_before false placed other before e = inr e

of_from : (objects : Objects) (records : List Record) (name : List ℕ) (placed : Placed) → get (objects_from objects records) name ≡ Some placed → OfRecord records name placed ⊎ (get objects name ≡ Some placed)
of_from objects [] name placed e = inr e
of_from objects (Object o ∷ records) name placed e =
    elim (of_from (insert objects o.name (placed_object o)) records name placed e) [
      | inl later ↦ inl (record { r = later.r; within = contains-later (Object o) later.r records later.within; places = later.places })
      | inr now ↦ elim (or_before (bytes_eq o.name name) placed (placed_object o) (get objects name) (sym (get_more objects o.name name (placed_object o)) ∙ now)) [
        | inl this ↦ inl (record { r = Object o; within = contains-first (Object o) records; places = (same_name o.name name this.0, this.1) })
        | inr before ↦ inr before
      ]
    ]
of_from objects (Joined o parts ∷ records) name placed e =
    elim (of_from (insert objects o.name (placed_parts o parts)) records name placed e) [
      | inl later ↦ inl (record { r = later.r; within = contains-later (Joined o parts) later.r records later.within; places = later.places })
      | inr now ↦ elim (or_before (bytes_eq o.name name) placed (placed_parts o parts) (get objects name) (sym (get_more objects o.name name (placed_parts o parts)) ∙ now)) [
        | inl this ↦ inl (record { r = Joined o parts; within = contains-first (Joined o parts) records; places = (same_name o.name name this.0, this.1) })
        | inr before ↦ inr before
      ]
    ]
of_from objects (Fence node ∷ records) name placed e =
    elim (of_from objects records name placed e) [
      | inl later ↦ inl (record { r = later.r; within = contains-later (Fence node) later.r records later.within; places = later.places })
      | inr before ↦ inr before
    ]
of_from objects (Raise ∷ records) name placed e =
    elim (of_from objects records name placed e) [
      | inl later ↦ inl (record { r = later.r; within = contains-later Raise later.r records later.within; places = later.places })
      | inr before ↦ inr before
    ]

none_is_not_some : (placed : Placed) → None ≡ Some placed → ⊥
none_is_not_some placed e = absurd cc

-- what is found under a name is what one of the records places there
pub objects_are_of_records : ObjectsAreOfRecords
objects_are_of_records records name placed e =
    elim (of_from empty records name placed e) [
      | inl of ↦ (of.r, of.within, of.places)
      | inr before ↦ absurd (none_is_not_some placed (sym (get-empty (slice_cmp nat_cmp) name) ∙ before))
    ]

-- ---- how many objects there are

pub objects-push : (m : Objects) (records : List Record) (r : Record) → objects_from m (records ++ r ∷ []) ≡ with_record (objects_from m records) r
objects-push m [] r = refl
objects-push m (e ∷ records) r = objects-push (with_record m e) records r

none_of : (o : Option Placed) → is_some o ≡ false → o ≡ None
none_of None e = refl
none_of (Some x) e = absurd (let h : true ≡ false = e in cc)

-- a name that is new is not found
pub free_name : (records : List Record) (name : List ℕ) → All (λ o. o.name ≢ name) (stored_of records) → get (objects_of records) name ≡ None
free_name records name new = none_of (get (objects_of records) name) (names_are_found records name ∙ free-new (stored_of records) name new)

none_is : (o : Option Placed) → o ≡ None → is_some o ≡ false
none_is o e = ap is_some e

-- no object of the records has a name exactly where nothing is found under it
pub new_names_are_free : NewNamesAreFree
new_names_are_free records name =
    (λ new. free_name records name new, λ none. new-free (stored_of records) name (sym (names_are_found records name) ∙ none_is (get (objects_of records) name) none))

len_more : (m : Objects) (name : List ℕ) (placed : Placed) → get m name ≡ None → len (insert m name placed) ≡ len m + 1
len_more m name placed none =
    len-insert nat_list_cmp_total m name placed ∙ ap (λ (o : Option Placed). cond (is_some o) (len m) (len m + 1)) none

abbrev IsCounted : List Record → Type 0
IsCounted records = len (objects_of records) ≡ length (stored_of records)

count-next : (shape : Shape) (earlier : List Record) (r : Record) → IsCounted earlier → IsNext shape earlier r → IsCounted (earlier ++ r ∷ [])
count-next shape earlier (Object o) counted next =
    ap len (objects-push empty earlier (Object o)) ∙ len_more (objects_of earlier) o.name (placed_object o) (free_name earlier o.name next.stored.new)
    ∙ ap (λ (n : ℕ). n + 1) counted ∙ sym (stored-push earlier (Object o))
count-next shape earlier (Joined o parts) counted next =
    ap len (objects-push empty earlier (Joined o parts)) ∙ len_more (objects_of earlier) o.name (placed_parts o parts) (free_name earlier o.name next.stored.new)
    ∙ ap (λ (n : ℕ). n + 1) counted ∙ sym (stored-push earlier (Joined o parts))
count-next shape earlier (Fence node) counted next =
    ap len (objects-push empty earlier (Fence node)) ∙ counted ∙ (let z : length (stored_of earlier) ≡ length (stored_of earlier) + 0 = omega arith in z) ∙ sym (stored-push earlier (Fence node))
count-next shape earlier Raise counted next =
    ap len (objects-push empty earlier Raise) ∙ counted ∙ (let z : length (stored_of earlier) ≡ length (stored_of earlier) + 0 = omega arith in z) ∙ sym (stored-push earlier Raise)

-- of records of a ledger, as many objects are kept as there are records of one
pub objects_are_counted : ObjectsAreCounted
objects_are_counted shape records valid = along shape IsCounted (count-next shape) [] records (len-empty (slice_cmp nat_cmp) Placed) valid

-- what a reader knows by the objects, nodes, fences and raise of a ledger's records is what is known of the
-- records
pub readers_know : ReadersKnow
readers_know shape records valid = λ i. record {
  taken = λ name. names_are_found records name i;
  objects = objects_are_counted shape records valid i;
  nodes = nodes_of records;
  fences = fences_of records;
  raised = list_any is_raise records;
}
