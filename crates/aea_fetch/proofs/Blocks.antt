-- Data blocks in order, and what is left of them.
use Rattle.std.proofs.Common.{◌≡◌, ℕ, zero, suc, ◌+◌, ◌-◌, ◌≤◌, List, [], ◌∷◌, ◌++◌, length, drop, refl, sym, ◌∙◌, ap, subst, arith, Option, Some, None, IsTrue, length-append}
use Rattle.std.specs.Prelude.{slice_get, nat_lt, nat_le, ◌&&◌, All}
use Rattle.std.specs.List.{sum_by}
use Rattle.std.proofs.lemmas.Bool.{and_parts}
use Rattle.std.proofs.lemmas.Bool.Decides.{nat_tests}
use Rattle.std.proofs.lemmas.List.Elements.{All-nil, All-cons, All-append}
use Rattle.std.proofs.lemmas.List.Sums.{sum_by-cons}
use Rattle.aea_lattice.specs.declared.blocks.BlockId.{BlockId}
use Rattle.aea_lattice.specs.declared.blocks.Class.TheVariants.{Datum}
use Rattle.aea_lattice.specs.declared.grid.Lattice.{Lattice}
use Rattle.aea_lattice.specs.Blocks.{block_of, HasBlock}
use Rattle.aea_catalog.specs.declared.objects.Extent.{Extent}
use Rattle.aea_catalog.specs.Catalogs.{Placed, part_at}
use Rattle.aea_records.specs.Fields.{are_apart}
use Rattle.aea_archive.specs.Objects.{data_from, data_in, data_of, parts_under}
use Rattle.aea_fetch.specs.Cursors.{data_left}

-- ---- how many there are

length-data_from : (first n : ℕ) → length (data_from first n) ≡ n
length-data_from first zero = refl
length-data_from first (suc n) = ap suc (length-data_from (suc first) n)

pub length-data_of : (parts : List Extent) → length (data_of parts) ≡ sum_by (λ e. e.count) parts
length-data_of [] = refl
length-data_of (e ∷ parts) = length-append (data_in e) (data_of parts) ∙ ap (λ (n : ℕ). n + length (data_of parts)) (length-data_from e.first e.count) ∙ ap (λ (n : ℕ). e.count + n) (length-data_of parts) ∙ sym (sum_by-cons (λ (x : Extent). x.count) e parts)

-- ---- what is left of them

-- of a part: its first block, and the rest of it
pub data_from_one : (first n : ℕ) → 1 ≤ n → data_from first n ≡ block_of first Datum ∷ data_from (first + 1) (n - 1)
data_from_one first zero some = absurd (omega (arith, some))
data_from_one first (suc n) some =
    let next : suc first ≡ first + 1 = omega arith in
    let less : n ≡ suc n - 1 = omega arith in
    ap (λ (i : ℕ). block_of first Datum ∷ data_from i n) next ∙ ap (λ (m : ℕ). block_of first Datum ∷ data_from (first + 1) m) less

-- the part at a place is the first one from there on
drop_at : (parts : List Extent) (k : ℕ) (e : Extent) → slice_get parts k ≡ Some e → drop k parts ≡ e ∷ drop (k + 1) parts
drop_at [] k e is = let h : None ≡ Some e = is in cc
drop_at (x ∷ parts) zero e is = let h : Some x ≡ Some e = is in let same : x ≡ e = cc in ap (λ (y : Extent). y ∷ parts) same
drop_at (x ∷ parts) (suc k) e is =
    let next : suc (k + 1) ≡ suc k + 1 = omega arith in
    drop_at parts k e is ∙ ap (λ (m : ℕ). e ∷ drop m (x ∷ parts)) next

drop_past : (parts : List Extent) (k : ℕ) → slice_get parts k ≡ None → drop k parts ≡ []
drop_past [] zero is = refl
drop_past [] (suc k) is = refl
drop_past (x ∷ parts) zero is = let h : Some x ≡ None = is in cc
drop_past (x ∷ parts) (suc k) is = drop_past parts k is

-- the parts that a catalogue finds at places
parts_at : (placed : Option Placed) (k : ℕ) → slice_get (parts_under placed) k ≡ part_at placed k
parts_at None k = refl
parts_at (Some p) k = refl

-- nothing is left of the part that was begun: the next one is begun
pub left_next : (placed : Option Placed) (begun e : Extent) (k : ℕ) → begun.count ≡ 0 → part_at placed k ≡ Some e → data_left placed begun k ≡ data_left placed e (k + 1)
left_next placed begun e k none is =
    ap (λ (n : ℕ). data_from begun.first n ++ data_of (drop k (parts_under placed))) none
    ∙ ap data_of (drop_at (parts_under placed) k e (parts_at placed k ∙ is))

-- and there is none
pub left_none : (placed : Option Placed) (begun : Extent) (k : ℕ) → begun.count ≡ 0 → part_at placed k ≡ None → data_left placed begun k ≡ []
left_none placed begun k none is =
    ap (λ (n : ℕ). data_from begun.first n ++ data_of (drop k (parts_under placed))) none
    ∙ ap data_of (drop_past (parts_under placed) k (parts_at placed k ∙ is))

-- ---- they are blocks of the lattice

-- a part lies within the nodes, where all of them lie apart within them
pub part_inside : (after nodes : ℕ) (parts : List Extent) (k : ℕ) (e : Extent) → IsTrue (are_apart after nodes parts) → slice_get parts k ≡ Some e → (1 ≤ e.first) × (1 ≤ e.count) × (e.first + e.count ≤ nodes + 1)
part_inside after nodes [] k e apart is = let h : None ≡ Some e = is in cc
part_inside after nodes (x ∷ parts) zero e apart is =
    let same : x ≡ e = (let h : Some x ≡ Some e = is in cc) in
    subst (λ (y : Extent). (1 ≤ y.first) × (1 ≤ y.count) × (y.first + y.count ≤ nodes + 1)) same (grind (arith, nat_tests, apart), grind (arith, nat_tests, apart), grind (arith, nat_tests, apart))
part_inside after nodes (x ∷ parts) (suc k) e apart is =
    let both = and_parts (nat_lt after x.first && nat_le 1 x.count && nat_le (x.first + x.count) (nodes + 1)) (are_apart (x.first + x.count - 1) nodes parts) apart in
    part_inside (x.first + x.count - 1) nodes parts k e both.1 is

-- the part at a place of what is under a name, if anything does
pub part_of : (o : Option Placed) (k : ℕ) (e : Extent) → part_at o k ≡ Some e → (p : Placed) × (o ≡ Some p) × (slice_get p.parts k ≡ Some e)
part_of None k e is = let h : None ≡ Some e = is in cc
part_of (Some p) k e is = (p, refl, is)

module _ (l : Lattice) where
  data_inside : (first n : ℕ) → 1 ≤ first → first + n ≤ l.n + 1 → All (HasBlock l) (data_from first n)
  data_inside first zero low high = All-nil (HasBlock l)
  data_inside first (suc n) low high =
      All-cons (HasBlock l) (block_of first Datum) (data_from (suc first) n) (record { first = low; last = omega (arith, high); used = omega arith })
      (data_inside (suc first) n (omega arith) (omega (arith, high)))

  pub parts_inside : (after : ℕ) (parts : List Extent) → IsTrue (are_apart after l.n parts) → All (HasBlock l) (data_of parts)
  parts_inside after [] apart = All-nil (HasBlock l)
  parts_inside after (e ∷ parts) apart =
      let both = and_parts (nat_lt after e.first && nat_le 1 e.count && nat_le (e.first + e.count) (l.n + 1)) (are_apart (e.first + e.count - 1) l.n parts) apart in
      let low : 1 ≤ e.first = grind (arith, nat_tests, apart) in
      let high : e.first + e.count ≤ l.n + 1 = grind (arith, nat_tests, apart) in
      All-append (HasBlock l) (data_in e) (data_of parts) (data_inside e.first e.count low high) (parts_inside (e.first + e.count - 1) parts both.1)

  -- those of what is under a name
  pub under_inside : (o : Option Placed) → ((p : Placed) → o ≡ Some p → IsTrue (are_apart 0 l.n p.parts)) → All (HasBlock l) (data_of (parts_under o))
  under_inside None apart = All-nil (HasBlock l)
  under_inside (Some p) apart = parts_inside 0 p.parts (apart p refl)

data_classes : (first n : ℕ) → All (λ b. b.class ≡ Datum) (data_from first n)
data_classes first zero = All-nil (λ (b : BlockId). b.class ≡ Datum)
data_classes first (suc n) = All-cons (λ (b : BlockId). b.class ≡ Datum) (block_of first Datum) (data_from (suc first) n) refl (data_classes (suc first) n)

-- and each is a datum
pub parts_classes : (parts : List Extent) → All (λ b. b.class ≡ Datum) (data_of parts)
parts_classes [] = All-nil (λ (b : BlockId). b.class ≡ Datum)
parts_classes (e ∷ parts) = All-append (λ (b : BlockId). b.class ≡ Datum) (data_in e) (data_of parts) (data_classes e.first e.count) (parts_classes parts)

pub same_placed : (o : Option Placed) (p q : Placed) → o ≡ Some p → o ≡ Some q → p ≡ q
same_placed o p q one two = let h : Some p ≡ Some q = sym one ∙ two in cc
