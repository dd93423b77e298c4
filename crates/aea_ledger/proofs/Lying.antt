-- Where the objects of records lie.
use Rattle.std.proofs.Common.{◌≡◌, ℕ, zero, suc, ◌+◌, ◌≤◌, Bool, true, false, ◌&&◌, ◌==◌, List, [], ◌∷◌, ◌++◌, refl, sym, ap, subst, ◌∙◌, append_assoc, ◌-◌, arith}
use Rattle.std.specs.Prelude.{nat_le, nat_lt, if◌then◌else◌}
use Rattle.std.specs.List.{sum_by, Contains}
use Rattle.std.specs.FinMap.{get}
use Rattle.std.proofs.lemmas.Bool.{and_parts, and_from, leb-true, le-leb, lt-ltb, eqb-true}
use Rattle.std.proofs.lemmas.List.Sums.{sum_by-append, sum_by-cons}
use Rattle.aea_lattice.specs.declared.shape.Shape.{Shape}
use Rattle.aea_catalog.specs.declared.objects.Extent.{Extent}
use Rattle.aea_catalog.specs.Catalogs.{Placed, Objects}
use Rattle.aea_records.specs.Format.{Stored, Record, Object, Joined, Fence, Raise, stored_in, stored_of, nodes_of, nodes_for}
use Rattle.aea_records.specs.Fields.{are_apart}
use Rattle.aea_records.specs.Grammar.{IsNext, MayFollow}
use Rattle.aea_records.specs.Catalogued.{PlacesUnder}
use Rattle.aea_records.specs.Laws.{ObjectsAreOfRecords}
use Rattle.aea_ledger.specs.Values.{Opened, HasSomeRecords}
use Rattle.aea_ledger.specs.Recorded.{IsLatticeOf}
use Rattle.aea_ledger.specs.Lying.{LiesWithin, LieWithin}
use Rattle.aea_records.proofs.OneMore.{nodes_of-append}
use Rattle.aea_ledger.proofs.Steps.{one_count}

-- how many nodes a record has new
abbrev pub nodes_in : Record → ℕ
nodes_in r = sum_by (λ o. o.count) (stored_in r)

nodes-first : (r : Record) (records : List Record) → nodes_of (r ∷ records) ≡ nodes_in r + nodes_of records
nodes-first r records = sum_by-append (λ (o : Stored). o.count) (stored_in r) (stored_of records)

-- One of the records may follow those before it, and its new nodes lie within those of all.
record Stands (shape : Shape) (all : List Record) (r : Record) : Type 0 where
  before : List Record
  next : IsNext shape before r
  within : nodes_of before + nodes_in r ≤ nodes_of all

stands : (shape : Shape) (earlier records : List Record) (r : Record) → MayFollow shape earlier records → Contains records r → Stands shape (earlier ++ records) r
stands shape earlier [] r follow c = absurd (omega (arith, c.1))
stands shape earlier (q ∷ records) r follow (zero, within, is) = record {
  before = earlier;
  next = subst (IsNext shape earlier) is follow.0;
  within = subst (λ (p : Record). nodes_of earlier + nodes_in p ≤ nodes_of (earlier ++ q ∷ records)) is (omega (arith, nodes_of-append earlier (q ∷ records), nodes-first q records));
}
stands shape earlier (q ∷ records) r follow (suc k, within, is) =
    subst (λ (all : List Record). Stands shape all r) (append_assoc earlier (q ∷ []) records)
    (stands shape (earlier ++ q ∷ []) records r follow.1 (k, omega (arith, within), is))

-- parts within some nodes lie within more
apart-more : (after few many : ℕ) (parts : List Extent) → few ≤ many → are_apart after few parts ≡ true → are_apart after many parts ≡ true
apart-more after few many [] le apart = refl
apart-more after few many (e ∷ parts) le apart =
    let a = and_parts (nat_lt after e.first && nat_le 1 e.count && nat_le (e.first + e.count) (few + 1)) (are_apart (e.first + e.count - 1) few parts) apart in
    let b = and_parts (nat_lt after e.first && nat_le 1 e.count) (nat_le (e.first + e.count) (few + 1)) a.0 in
    let here : e.first + e.count ≤ few + 1 = leb-true (e.first + e.count) (few + 1) b.1 in
    and_from (nat_lt after e.first && nat_le 1 e.count && nat_le (e.first + e.count) (many + 1)) (are_apart (e.first + e.count - 1) many parts)
    (and_from (nat_lt after e.first && nat_le 1 e.count) (nat_le (e.first + e.count) (many + 1)) b.0 (le-leb (e.first + e.count) (many + 1) (omega (arith, here, le))))
    (apart-more (e.first + e.count - 1) few many parts le a.1)

-- a range as the one part, or none
own_lies : (none : Bool) (e : Extent) (nodes : ℕ) → (none ≡ true → e.count ≡ 0) → (none ≡ false → 1 ≤ e.count) → 1 ≤ e.first → e.first + e.count ≤ nodes + 1
    → (are_apart 0 nodes (if none then [] else e ∷ []) ≡ true) × (e.count ≡ sum_by (λ p. p.count) (if none then [] else e ∷ []))
own_lies true e nodes empty some first last = (refl, empty refl)
own_lies false e nodes empty some first last = (
  and_from (nat_lt 0 e.first && nat_le 1 e.count && nat_le (e.first + e.count) (nodes + 1)) true
      (and_from (nat_lt 0 e.first && nat_le 1 e.count) (nat_le (e.first + e.count) (nodes + 1))
      (and_from (nat_lt 0 e.first) (nat_le 1 e.count) (lt-ltb 0 e.first (omega (arith, first))) (le-leb 1 e.count (some refl)))
      (le-leb (e.first + e.count) (nodes + 1) last))
      refl,
  (let one : e.count ≡ sum_by (λ (p : Extent). p.count) (e ∷ []) = omega (arith, sum_by-cons (λ (p : Extent). p.count) e []) in one),
)

some_count : (n : ℕ) → (n == 0) ≡ false → 1 ≤ n
some_count zero is = absurd (let h : true ≡ false = is in cc)
some_count (suc n) is = omega arith

-- what a record places lies within the nodes of all
placed_lies : (shape : Shape) (all : List Record) (name : List ℕ) (placed : Placed) (r : Record) → Stands shape all r → PlacesUnder name placed r → LiesWithin shape (nodes_of all) placed
placed_lies shape all name placed (Object o) stand places =
    let own = own_lies (o.count == 0) (record { first = o.first; count = o.count }) (nodes_of all) (eqb-true o.count 0) (some_count o.count)
    (omega (arith, stand.next.stored.first)) (omega (arith, stand.next.stored.first, stand.within, one_count o)) in
    subst (LiesWithin shape (nodes_of all)) (sym places.1)
    (record { apart = own.0; sum = own.1; count = stand.next.count })
placed_lies shape all name placed (Joined o parts) stand places =
    let parts_are = and_parts (are_apart 0 (nodes_of stand.before + o.count) parts) (sum_by (λ (e : Extent). e.count) parts == nodes_for shape o.size) stand.next.apart in
    subst (LiesWithin shape (nodes_of all)) (sym places.1)
    (record {
      apart = apart-more 0 (nodes_of stand.before + o.count) (nodes_of all) parts (omega (arith, stand.within, one_count o)) parts_are.0;
      sum = refl;
      count = eqb-true (sum_by (λ (e : Extent). e.count) parts) (nodes_for shape o.size) parts_are.1;
    })
placed_lies shape all name placed (Fence node) stand places = absurd places
placed_lies shape all name placed Raise stand places = absurd places

-- the objects of an opened ledger lie within its nodes
pub objects_lie : (v : Opened) → ObjectsAreOfRecords → HasSomeRecords v → LieWithin v.shape v.lattice.n v.objects
objects_lie v law some name placed is =
    let of = law some.0 name placed (ap (λ (m : Objects). get m name) (sym some.1.objects) ∙ is) in
    let stand = stands v.shape [] some.0 of.0 some.1.valid of.1 in
    subst (λ (n : ℕ). LiesWithin v.shape n placed) (sym some.1.lattice.n) (placed_lies v.shape some.0 name placed of.0 stand of.2)

-- the lattice of an opened ledger is of its shape
pub lattice_of : (v : Opened) → HasSomeRecords v → IsLatticeOf v.shape v.lattice.n v.lattice.fences v.lattice
lattice_of v some = record { alpha = some.1.lattice.alpha; s = some.1.lattice.s; p = some.1.lattice.p; n = refl; fences_are = refl }
