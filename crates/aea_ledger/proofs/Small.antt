-- What is small.
use Rattle.std.proofs.Common.{◌≡◌, ◌≢◌, ◌<◌, ℕ, zero, suc, inl, inr, ◌+◌, ◌-◌, ◌*◌, ◌^◌, ◌≤◌, Bool, true, false, ◌&&◌, List, [], ◌∷◌, length, Some, refl, arith}
use Rattle.std.specs.Prelude.{nat_le, nat_lt, slice_get}
use Rattle.aea_lattice.specs.declared.grid.Lattice.{Lattice}
use Rattle.aea_lattice.specs.Fences.{greatest_fences, rise_to, last_fence}
use Rattle.std.specs.List.{sum_by}
use Rattle.std.proofs.lemmas.Bool.{cases_lt, and_parts, leb-true, ltb-true}
use Rattle.std.proofs.lemmas.Bool.Decides.{nat_tests}
use Rattle.std.proofs.lemmas.List.Sums.{sum_by-cons}
use Rattle.aea_lattice.specs.declared.shape.Shape.{Shape}
use Rattle.aea_lattice.specs.Profile.{is_profile}
use Rattle.aea_catalog.specs.declared.objects.Extent.{Extent}
use Rattle.std.proofs.lemmas.Nat.{mul-le}
use Rattle.aea_records.specs.Format.{limit_when}
use Rattle.aea_records.specs.Fields.{are_apart}

profile-small : (alpha s p : ℕ) → is_profile alpha s p ≡ true → alpha ≤ 3
profile-small alpha s p h = grind (arith, nat_tests)

-- α of a shape is at most 3
pub alpha_small : (shape : Shape) → shape.alpha ≤ 3
alpha_small shape =
    let parts = and_parts (is_profile shape.alpha shape.s shape.p && (nat_le 16 shape.block && nat_le shape.block 65536)) (nat_le 1 shape.sites && nat_le shape.sites 64) shape.in_profile in
    let profile = and_parts (is_profile shape.alpha shape.s shape.p) (nat_le 16 shape.block && nat_le shape.block 65536) parts.0 in
    profile-small shape.alpha shape.s shape.p profile.0

-- parts that lie apart have no more nodes than there are
pub few_nodes : (after nodes : ℕ) (parts : List Extent) → are_apart after nodes parts ≡ true → sum_by (λ e. e.count) parts ≤ nodes - after
few_nodes after nodes [] apart = omega arith
few_nodes after nodes (e ∷ parts) apart =
    let a = and_parts (nat_lt after e.first && nat_le 1 e.count && nat_le (e.first + e.count) (nodes + 1)) (are_apart (e.first + e.count - 1) nodes parts) apart in
    let b = and_parts (nat_lt after e.first && nat_le 1 e.count) (nat_le (e.first + e.count) (nodes + 1)) a.0 in
    let c = and_parts (nat_lt after e.first) (nat_le 1 e.count) b.0 in
    omega (arith, ltb-true after e.first c.0, leb-true 1 e.count c.1, leb-true (e.first + e.count) (nodes + 1) b.1, few_nodes (e.first + e.count - 1) nodes parts a.1, sum_by-cons (λ (x : Extent). x.count) e parts)

-- and are no more than these
pub few_parts : (after nodes : ℕ) (parts : List Extent) → are_apart after nodes parts ≡ true → length parts ≤ nodes - after
few_parts after nodes [] apart = omega arith
few_parts after nodes (e ∷ parts) apart =
    let a = and_parts (nat_lt after e.first && nat_le 1 e.count && nat_le (e.first + e.count) (nodes + 1)) (are_apart (e.first + e.count - 1) nodes parts) apart in
    let b = and_parts (nat_lt after e.first && nat_le 1 e.count) (nat_le (e.first + e.count) (nodes + 1)) a.0 in
    let c = and_parts (nat_lt after e.first) (nat_le 1 e.count) b.0 in
    omega (arith, ltb-true after e.first c.0, leb-true 1 e.count c.1, leb-true (e.first + e.count) (nodes + 1) b.1, few_parts (e.first + e.count - 1) nodes parts a.1)

-- the limit is not large
pub limit_small : (raised : Bool) → limit_when raised ≤ 1048576
limit_small true = omega arith
limit_small false = omega arith

-- so many digests of new nodes
pub few_digests : (shape : Shape) (raised : Bool) (nodes count digests : ℕ) → nodes + count ≤ limit_when raised → digests ≡ count * (1 + shape.alpha) → digests ≤ 2 ^ 22
few_digests shape raised nodes count digests fits long =
    let few : count * (1 + shape.alpha) ≤ 1048576 * 4 = mul-le count (1 + shape.alpha) 1048576 4 (omega (arith, fits, limit_small raised)) (omega (arith, alpha_small shape)) in
    omega (arith, few, long)

-- the last of some fences
pub last-at : (fences : List ℕ) (k : ℕ) (f : ℕ) → length fences ≡ k + 1 → slice_get fences k ≡ Some f → last_fence fences ≡ f
last-at [] k f size is = absurd (omega (arith, size))
last-at (x ∷ []) zero f size is = let e : Some x ≡ Some f = is in cc
last-at (x ∷ []) (suc k) f size is = absurd (omega (arith, size))
last-at (x ∷ y ∷ ys) zero f size is = absurd (omega (arith, size))
last-at (x ∷ y ∷ ys) (suc k) f size is = last-at (y ∷ ys) k f (omega (arith, size)) is

pub none-last : (fences : List ℕ) → length fences ≡ 0 → last_fence fences ≡ 0
none-last [] e = refl
none-last (x ∷ xs) e = absurd (omega (arith, e))

-- the last fence is at the last node or before
last-le : (fences : List ℕ) (low n : ℕ) → rise_to low n fences ≡ true → last_fence fences ≤ n
last-le [] low n rise = omega arith
last-le (f ∷ []) low n rise =
    let a = and_parts (nat_le (suc low) f && nat_le f n) true rise in
    leb-true f n (and_parts (nat_le (suc low) f) (nat_le f n) a.0).1
last-le (f ∷ g ∷ fences) low n rise = last-le (g ∷ fences) f n (and_parts (nat_le (suc low) f && nat_le f n) (rise_to f n (g ∷ fences)) rise).1

pub last-within : (l : Lattice) → (last_fence l.fences ≤ l.n) × (length l.fences ≤ greatest_fences)
last-within l =
    let a = and_parts (nat_le (length l.fences) greatest_fences) (rise_to 0 l.n l.fences) l.fenced in
    (last-le l.fences 0 l.n a.1, leb-true (length l.fences) greatest_fences a.0)

-- a lattice that takes no more fence though none is at its last node has the most
pub is_full : (l : Lattice) → last_fence l.fences ≢ l.n → (last_fence l.fences < l.n → length l.fences < greatest_fences → ⊥) → length l.fences ≡ greatest_fences
is_full l other never =
    let w = last-within l in
    elim (cases_lt (length l.fences) greatest_fences) [
      | inl lt ↦ absurd (never (omega (arith, w.0, other)) lt)
      | inr ge ↦ omega (arith, ge, w.1)
    ]
