-- What a catalogue contains.
use Rattle.std.specs.Prelude.{ℕ, ◌==◌, if◌then◌else◌, List, [], ◌∷◌, Option, None, Some, slice_get, refl}
use Rattle.std.specs.Ordering.{nat_cmp}
use Rattle.std.specs.Cmp.Lexicographic.{slice_cmp}
use Rattle.std.specs.FinMap.{FinMap}
use Rattle.std.specs.FinMap as map
use Rattle.std.specs.Coded.{Coded, code_by, coded×, coded_list, coded_ℕ}
use Rattle.aea_catalog.specs.declared.objects.ObjectRef.{ObjectRef}
use Rattle.aea_catalog.specs.declared.objects.Extent.{Extent}

-- an object and its parts
pub record Placed : Type 0 where
  pub object : ObjectRef
  pub parts : List Extent

-- names, in the order of their bytes, to objects and their parts
abbrev pub Objects : Type 0
Objects = FinMap (slice_cmp nat_cmp) Placed

-- the range of an object's nodes as its one part, or none where it has no node
abbrev pub own_range : ObjectRef → List Extent
own_range o = if o.count == 0 then [] else record { first = o.first; count = o.count } ∷ []

-- what is kept of an object whose nodes follow each other
abbrev pub placed_alone : ObjectRef → Placed
placed_alone o = record { object = o; parts = own_range o }

-- a name and its object, without the parts
abbrev pub named_object : List ℕ × Placed → List ℕ × ObjectRef
named_object e = (e.0, e.1.object)

-- the part at a place of what is under a name
abbrev pub part_at : Option Placed → ℕ → Option Extent
part_at None k = None
part_at (Some p) k = slice_get p.parts k

-- the object and its parts under each name, in the order of the names' bytes, and for how many more objects there is space
-- without taking memory
pub record CatalogValue : Type 0 where
  pub objects : Objects
  pub room : ℕ

-- an object as the tuple of its fields
abbrev pub object_code : Coded ObjectRef
object_code =
    code_by (ℕ × (ℕ × (ℕ × List ℕ))) (coded× coded_ℕ (coded× coded_ℕ (coded× coded_ℕ (coded_list coded_ℕ))))
    (λ r. (r.first, (r.count, (r.length, r.digest)))) (λ p. record { first = p.0; count = p.1.0; length = p.1.1.0; digest = p.1.1.1 }) (λ _. refl)

-- nodes that follow each other as the pair of their fields
abbrev pub extent_code : Coded Extent
extent_code = code_by (ℕ × ℕ) (coded× coded_ℕ coded_ℕ) (λ e. (e.first, e.count)) (λ p. record { first = p.0; count = p.1 }) (λ _. refl)

-- an object and its parts as the pair of both
abbrev pub placed_code : Coded Placed
placed_code = code_by (ObjectRef × List Extent) (coded× object_code (coded_list extent_code)) (λ p. (p.object, p.parts)) (λ p. record { object = p.0; parts = p.1 }) (λ _. refl)

-- what a catalogue contains as the pair of both
abbrev pub catalog_code : Coded CatalogValue
catalog_code =
    code_by (FinMap (slice_cmp nat_cmp) Placed × ℕ) (coded× (map.code (coded_list coded_ℕ) placed_code) coded_ℕ)
    (λ c. (c.objects, c.room)) (λ p. record { objects = p.0; room = p.1 }) (λ _. refl)
