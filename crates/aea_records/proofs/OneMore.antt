-- One record more after others: what it adds to their objects, nodes, fences and digests, to the limit, to the catalogue and
-- to the spelling. By these a call that adds a record goes from the records before it to those after it.
use Rattle.std.proofs.Common.{◌≡◌, ℕ, ◌+◌, Bool, true, false, ◌||◌, List, [], ◌∷◌, ◌++◌, refl, sym, ap, subst, ◌∙◌, append_assoc}
use Rattle.std.specs.List.{flat_map, list_any, sum_by}
use Rattle.std.proofs.lemmas.List.{append-nil}
use Rattle.std.proofs.lemmas.List.Concat.{flat_map-append}
use Rattle.std.proofs.lemmas.List.Folds.{list_any-append}
use Rattle.std.proofs.lemmas.List.Sums.{sum_by-append}
use Rattle.aea_lattice.specs.declared.shape.Shape.{Shape}
use Rattle.aea_catalog.specs.Catalogs.{Objects}
use Rattle.aea_records.specs.Format.{Stored, Record, is_raise, stored_in, stored_of, nodes_of, digests_of, fence_in, fences_of, header, entry, spelled}
use Rattle.aea_records.specs.Grammar.{IsNext, MayFollow}
use Rattle.aea_records.specs.Catalogued.{with_record, objects_from}

-- records that may follow, and then one more
pub MayFollow-push : (shape : Shape) (earlier records : List Record) (r : Record) → MayFollow shape earlier records
    → IsNext shape (earlier ++ records) r → MayFollow shape earlier (records ++ r ∷ [])
MayFollow-push shape earlier [] r follow next = (subst (λ (e : List Record). IsNext shape e r) (append-nil earlier) next, tt)
MayFollow-push shape earlier (q ∷ records) r follow next = (
  follow.0,
  MayFollow-push shape (earlier ++ q ∷ []) records r follow.1
      (subst (λ (e : List Record). IsNext shape e r) (sym (append_assoc earlier (q ∷ []) records)) next),
)

-- one record more puts its object, if it is of one, after those of the others
pub stored_of-push : (records : List Record) (r : Record) → stored_of (records ++ r ∷ []) ≡ stored_of records ++ stored_in r
stored_of-push records r = flat_map-append stored_in records (r ∷ []) ∙ ap (λ (l : List Stored). stored_of records ++ l) (append-nil (stored_in r))

-- one record more puts its fence, if it is one, after the fences of the others
pub fences_of-push : (records : List Record) (r : Record) → fences_of (records ++ r ∷ []) ≡ fences_of records ++ fence_in r
fences_of-push records r = flat_map-append fence_in records (r ∷ []) ∙ ap (λ (l : List ℕ). fences_of records ++ l) (append-nil (fence_in r))

-- one record more adds as many nodes as are new with its object, if it is of one
pub nodes_of-push : (records : List Record) (r : Record) → nodes_of (records ++ r ∷ []) ≡ nodes_of records + sum_by (λ o. o.count) (stored_in r)
nodes_of-push records r = ap (sum_by (λ (o : Stored). o.count)) (stored_of-push records r) ∙ sum_by-append (λ (o : Stored). o.count) (stored_of records) (stored_in r)

-- one record more puts the digests of its object, if it is of one, after those of the others
pub digests_of-push : (records : List Record) (r : Record) → digests_of (records ++ r ∷ []) ≡ digests_of records ++ flat_map (λ o. o.digests) (stored_in r)
digests_of-push records r = ap (flat_map (λ (o : Stored). o.digests)) (stored_of-push records r) ∙ flat_map-append (λ (o : Stored). o.digests) (stored_of records) (stored_in r)

-- a test or false is the test
pub or_false : (a : Bool) → (a || false) ≡ a
or_false true = refl
or_false false = refl

-- with one record more the limit is raised exactly where it was before or the record is a raise
pub raised-push : (records : List Record) (r : Record) → list_any is_raise (records ++ r ∷ []) ≡ (list_any is_raise records || is_raise r)
raised-push records r = list_any-append is_raise records (r ∷ []) ∙ ap (λ (b : Bool). list_any is_raise records || b) (or_false (is_raise r))

-- one record more that is no raise does not change whether the limit is raised
pub raised_stays : (records : List Record) (r : Record) → is_raise r ≡ false → list_any is_raise (records ++ r ∷ []) ≡ list_any is_raise records
raised_stays records r none = raised-push records r ∙ ap (λ (b : Bool). list_any is_raise records || b) none ∙ or_false (list_any is_raise records)

-- a test or true is true
pub or_true : (a : Bool) → (a || true) ≡ true
or_true true = refl
or_true false = refl

-- with one record more that is a raise the limit is raised
pub raised_now : (records : List Record) (r : Record) → is_raise r ≡ true → list_any is_raise (records ++ r ∷ []) ≡ true
raised_now records r one = raised-push records r ∙ ap (λ (b : Bool). list_any is_raise records || b) one ∙ or_true (list_any is_raise records)

-- to add the objects of records and one more is to add those of the records, and then that of the last
pub objects-push : (m : Objects) (records : List Record) (r : Record) → objects_from m (records ++ r ∷ []) ≡ with_record (objects_from m records) r
objects-push m [] r = refl
objects-push m (e ∷ records) r = objects-push (with_record m e) records r

-- one record more puts its entry after those of the others
pub entries-push : (records : List Record) (r : Record) → flat_map entry (records ++ r ∷ []) ≡ flat_map entry records ++ entry r
entries-push records r = flat_map-append entry records (r ∷ []) ∙ ap (λ (l : List ℕ). flat_map entry records ++ l) (append-nil (entry r))

-- one record more puts its entry after the spelling of the others
pub spelled-push : (shape : Shape) (records : List Record) (r : Record) → spelled shape (records ++ r ∷ []) ≡ spelled shape records ++ entry r
spelled-push shape records r =
    ap (λ (l : List ℕ). header shape ++ l) (entries-push records r) ∙ sym (append_assoc (header shape) (flat_map entry records) (entry r))

-- the nodes of records and of others after them
pub nodes_of-append : (records added : List Record) → nodes_of (records ++ added) ≡ nodes_of records + nodes_of added
nodes_of-append records added =
    ap (sum_by (λ (o : Stored). o.count)) (flat_map-append stored_in records added) ∙ sum_by-append (λ (o : Stored). o.count) (stored_of records) (stored_of added)
