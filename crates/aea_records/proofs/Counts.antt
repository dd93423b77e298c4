-- How many objects, nodes, fences and digests records have, and how long their spelling is.
use Rattle.std.proofs.Common.{◌≡◌, ◌≢◌, ℕ, suc, ◌+◌, ◌*◌, ◌^◌, ◌<◌, ◌≤◌, Bool, true, false, ◌&&◌, ◌||◌, ◌==◌, ◌-◌, List, [], ◌∷◌, ◌++◌, length, All, refl, sym, ap, subst, ◌∙◌, append_assoc, arith}
use Rattle.std.specs.Prelude.{nat_le, if◌then◌else◌}
use Rattle.std.specs.List.{flat_map, list_any, sum_by}
use Rattle.std.specs.Int.{w32, to_be_bytes}
use Rattle.std.proofs.lemmas.Bool.{and_parts, and_from, leb-true, le-leb}
use Rattle.std.proofs.lemmas.List.{append-nil, length-append}
use Rattle.std.proofs.lemmas.List.Elements.{All-head, All-tail}
use Rattle.std.proofs.lemmas.List.Sums.{sum_by-cons}
use Rattle.std.proofs.Math.Nat.{add-mul}
use Rattle.aea_lattice.specs.declared.shape.Shape.{Shape}
use Rattle.aea_lattice.specs.Fences.{greatest_fences, rise_to}
use Rattle.aea_records.specs.Format.{Stored, Record, Object, Joined, Fence, Raise, greatest_objects, raised_limit, nodes_for, limit_when, limit_of, is_raise, stored_in, stored_of, nodes_of, digests_of, fence_in, fences_of, header, rest_of, entry}
use Rattle.aea_catalog.specs.declared.objects.Extent.{Extent}
use Rattle.aea_records.specs.Fields.{are_apart}
use Rattle.aea_records.specs.Grammar.{IsNext, IsNextJoined, MayFollow, AreRecords, MayBeStored}
use Rattle.aea_records.specs.Laws.{RecordsAreFew, FencesMayFollow, DigestsAreCounted}
use Rattle.aea_records.proofs.Sizes.{limit_small, few-digests, length-object, length-parted}
use Rattle.aea_records.proofs.Pieces.{few-parts}
use Rattle.aea_records.proofs.Names.{name-length, new-fence}
use Rattle.aea_records.proofs.Fencing.{may_stand}
use Rattle.aea_records.proofs.OneMore.{fences_of-push, nodes_of-push, digests_of-push, or_false, raised-push, entries-push}
use Rattle.aea_records.proofs.Behind.{few-next, stored-push}

-- what holds of no record and of one more than it holds of, holds of records
pub along : (shape : Shape) (P : List Record → Type 0) → ((earlier : List Record) (r : Record) → P earlier → IsNext shape earlier r → P (earlier ++ r ∷ []))
    → (earlier records : List Record) → P earlier → MayFollow shape earlier records → P (earlier ++ records)
along shape P step earlier [] holds follow = subst P (sym (append-nil earlier)) holds
along shape P step earlier (r ∷ records) holds follow =
    subst P (append_assoc earlier (r ∷ []) records) (along shape P step (earlier ++ r ∷ []) records (step earlier r holds follow.0) follow.1)

-- ---- fences

rise-more : (fences : List ℕ) (low n m : ℕ) → n ≤ m → rise_to low n fences ≡ true → rise_to low m fences ≡ true
rise-more [] low n m le rise = refl
rise-more (f ∷ fences) low n m le rise =
    let a = and_parts (nat_le (suc low) f && nat_le f n) (rise_to f n fences) rise in
    let b = and_parts (nat_le (suc low) f) (nat_le f n) a.0 in
    let here : f ≤ n = leb-true f n b.1 in
    and_from (nat_le (suc low) f && nat_le f m) (rise_to f m fences) (and_from (nat_le (suc low) f) (nat_le f m) b.0 (le-leb f m (omega (arith, here, le)))) (rise-more fences f n m le a.1)

rise-push : (fences : List ℕ) (low n : ℕ) → low < n → All (λ f. f ≢ n) fences → rise_to low n fences ≡ true → rise_to low n (fences ++ n ∷ []) ≡ true
rise-push [] low n lt new rise = and_from (nat_le (suc low) n && nat_le n n) true (and_from (nat_le (suc low) n) (nat_le n n) (le-leb (suc low) n (omega (arith, lt))) (le-leb n n (omega arith))) refl
rise-push (f ∷ fences) low n lt new rise =
    let a = and_parts (nat_le (suc low) f && nat_le f n) (rise_to f n fences) rise in
    let b = and_parts (nat_le (suc low) f) (nat_le f n) a.0 in
    let here : f ≤ n = leb-true f n b.1 in
    let other : f ≢ n = All-head (λ (g : ℕ). g ≢ n) f fences new in
    and_from (nat_le (suc low) f && nat_le f n) (rise_to f n (fences ++ n ∷ [])) a.0 (rise-push fences f n (omega (arith, here, other)) (All-tail (λ (g : ℕ). g ≢ n) f fences new) a.1)

-- ---- the bounds

-- how many raises there are
abbrev pub raises : Bool → ℕ
raises raised = if raised then 1 else 0

pub raises-small : (b : Bool) → raises b ≤ 1
raises-small true = omega arith
raises-small false = omega arith

record AreBounded (shape : Shape) (records : List Record) : Type 0 where
  objects : length (stored_of records) ≤ greatest_objects
  nodes : nodes_of records ≤ limit_of records
  few_fences : length (fences_of records) ≤ greatest_fences
  fences : rise_to 0 (nodes_of records) (fences_of records) ≡ true
  short : length (flat_map entry records) ≤ 2 ^ 28 * (length (stored_of records) + length (fences_of records) + raises (list_any is_raise records))
  digests : length (digests_of records) ≡ nodes_of records * (1 + shape.alpha)

entry_size : (r : Record) → length (entry r) ≡ 6 + length (rest_of r)
entry_size (Object o) = omega (arith, length-append (to_be_bytes w32 (length (rest_of (Object o)))) (rest_of (Object o)))
entry_size (Joined o parts) = omega (arith, length-append (to_be_bytes w32 (length (rest_of (Joined o parts)))) (rest_of (Joined o parts)))
entry_size (Fence node) = refl
entry_size Raise = refl

-- of an object
with_object : (shape : Shape) (earlier : List Record) (r : Record) (o : Stored) → stored_in r ≡ o ∷ [] → fence_in r ≡ [] → is_raise r ≡ false → MayBeStored shape earlier o → length (rest_of r) ≤ 2 ^ 28 - 6
    → IsNext shape earlier r → AreBounded shape earlier → AreBounded shape (earlier ++ r ∷ [])
with_object shape earlier r o is no_fence no_raise may size next bounded =
    let nodes : nodes_of (earlier ++ r ∷ []) ≡ nodes_of earlier + o.count =
    nodes_of-push earlier r ∙ ap (λ (l : List Stored). nodes_of earlier + sum_by (λ (q : Stored). q.count) l) is
    ∙ (let z : nodes_of earlier + sum_by (λ (q : Stored). q.count) (o ∷ []) ≡ nodes_of earlier + o.count = omega (arith, sum_by-cons (λ (q : Stored). q.count) o []) in z) in
    let fences : fences_of (earlier ++ r ∷ []) ≡ fences_of earlier = fences_of-push earlier r ∙ ap (λ (l : List ℕ). fences_of earlier ++ l) no_fence ∙ append-nil (fences_of earlier) in
    let raised : list_any is_raise (earlier ++ r ∷ []) ≡ list_any is_raise earlier =
    raised-push earlier r ∙ ap (λ (b : Bool). list_any is_raise earlier || b) no_raise ∙ or_false (list_any is_raise earlier) in
    let limit : limit_of (earlier ++ r ∷ []) ≡ limit_of earlier = ap limit_when raised in
    let objects : length (stored_of (earlier ++ r ∷ [])) ≡ length (stored_of earlier) + 1 = stored-push earlier r ∙ ap (λ (l : List Stored). length (stored_of earlier) + length l) is in
    let digests : digests_of (earlier ++ r ∷ []) ≡ digests_of earlier ++ o.digests =
    digests_of-push earlier r ∙ ap (λ (l : List Stored). digests_of earlier ++ flat_map (λ (q : Stored). q.digests) l) is ∙ ap (λ (l : List (List ℕ)). digests_of earlier ++ l) (append-nil o.digests) in
    record {
      objects = few-next shape earlier r next bounded.objects;
      nodes = omega (arith, nodes, limit, may.fits);
      few_fences = omega (arith, ap length fences, bounded.few_fences);
      fences = (λ i. rise_to 0 (nodes i) (fences i)) ∙ rise-more (fences_of earlier) 0 (nodes_of earlier) (nodes_of earlier + o.count) (omega arith) bounded.fences;
      short = omega (arith, ap length (entries-push earlier r), length-append (flat_map entry earlier) (entry r), entry_size r, size, objects, ap length fences, ap raises raised, bounded.short);
      digests = ap length digests ∙ length-append (digests_of earlier) o.digests ∙ (λ i. bounded.digests i + may.digests i)
          ∙ sym (add-mul (nodes_of earlier) o.count (1 + shape.alpha)) ∙ ap (λ (n : ℕ). n * (1 + shape.alpha)) (sym nodes);
    }

name_small : (shape : Shape) (earlier : List Record) (o : Stored) → MayBeStored shape earlier o → length o.name ≤ 255
name_small shape earlier o may = leb-true (length o.name) 255 (and_parts (nat_le 1 (length o.name)) (nat_le (length o.name) 255) (name-length o.name may.name)).1

pub object_size : (shape : Shape) (earlier : List Record) (o : Stored) → MayBeStored shape earlier o → length (rest_of (Object o)) ≤ 2 ^ 28 - 6
object_size shape earlier o may = omega (arith, length-object shape earlier o may, few-digests shape earlier o may.fits, name_small shape earlier o may)

pub joined_size : (shape : Shape) (earlier : List Record) (o : Stored) (parts : List Extent) → IsNextJoined shape earlier o parts → length (rest_of (Joined o parts)) ≤ 2 ^ 28 - 6
joined_size shape earlier o parts next =
    let nodes : ℕ = nodes_of earlier + o.count in
    let apart = (and_parts (are_apart 0 (nodes_of earlier + o.count) parts) (sum_by (λ (e : Extent). e.count) parts == nodes_for shape o.size) next.apart).0 in
    let few = (few-parts 0 (nodes_of earlier + o.count) parts apart (omega (arith, next.stored.fits, limit_small (list_any is_raise earlier)))).0 in
    omega (arith, length-parted shape earlier o parts next.stored, few, next.stored.fits, limit_small (list_any is_raise earlier), few-digests shape earlier o next.stored.fits, name_small shape earlier o next.stored)

bounded-next : (shape : Shape) (earlier : List Record) (r : Record) → AreBounded shape earlier → IsNext shape earlier r → AreBounded shape (earlier ++ r ∷ [])
bounded-next shape earlier (Object o) bounded next = with_object shape earlier (Object o) o refl refl refl next.stored (object_size shape earlier o next.stored) next bounded
bounded-next shape earlier (Joined o parts) bounded next = with_object shape earlier (Joined o parts) o refl refl refl next.stored (joined_size shape earlier o parts next) next bounded
bounded-next shape earlier (Fence node) bounded next =
    let r : Record = Fence node in
    let nodes : nodes_of (earlier ++ Fence node ∷ []) ≡ nodes_of earlier = nodes_of-push earlier (Fence node) ∙ (let z : nodes_of earlier + 0 ≡ nodes_of earlier = omega arith in z) in
    let fences : fences_of (earlier ++ Fence node ∷ []) ≡ fences_of earlier ++ node ∷ [] = fences_of-push earlier (Fence node) in
    let raised : list_any is_raise (earlier ++ Fence node ∷ []) ≡ list_any is_raise earlier = raised-push earlier (Fence node) ∙ or_false (list_any is_raise earlier) in
    let limit : limit_of (earlier ++ Fence node ∷ []) ≡ limit_of earlier = ap limit_when raised in
    let objects = stored-push earlier (Fence node) in
    let many = length-append (fences_of earlier) (node ∷ []) in
    let rise : rise_to 0 (nodes_of earlier) (fences_of earlier ++ node ∷ []) ≡ true =
    subst (λ (n : ℕ). rise_to 0 n (fences_of earlier ++ node ∷ []) ≡ true) next.last
    (rise-push (fences_of earlier) 0 node (omega (arith, next.some)) next.new (subst (λ (n : ℕ). rise_to 0 n (fences_of earlier) ≡ true) (sym next.last) bounded.fences)) in
    record {
      objects = few-next shape earlier (Fence node) next bounded.objects;
      nodes = omega (arith, nodes, limit, bounded.nodes);
      few_fences = omega (arith, ap length fences, many, next.few);
      fences = (λ i. rise_to 0 (nodes i) (fences i)) ∙ rise;
      short = omega (arith, ap length (entries-push earlier (Fence node)), length-append (flat_map entry earlier) (entry (Fence node)), objects, ap length fences, many, ap raises raised, bounded.short);
      digests = ap length (digests_of-push earlier (Fence node) ∙ append-nil (digests_of earlier)) ∙ bounded.digests ∙ ap (λ (n : ℕ). n * (1 + shape.alpha)) (sym nodes);
    }
bounded-next shape earlier Raise bounded next =
    let nodes : nodes_of (earlier ++ Raise ∷ []) ≡ nodes_of earlier = nodes_of-push earlier Raise ∙ (let z : nodes_of earlier + 0 ≡ nodes_of earlier = omega arith in z) in
    let fences : fences_of (earlier ++ Raise ∷ []) ≡ fences_of earlier = fences_of-push earlier Raise ∙ append-nil (fences_of earlier) in
    let low : list_any is_raise earlier ≡ false = not_raised (list_any is_raise earlier) next in
    let raised : list_any is_raise (earlier ++ Raise ∷ []) ≡ true = raised-push earlier Raise ∙ or_true (list_any is_raise earlier) in
    let limit : limit_of (earlier ++ Raise ∷ []) ≡ raised_limit = ap limit_when raised in
    record {
      objects = few-next shape earlier Raise next bounded.objects;
      nodes = omega (arith, nodes, limit, bounded.nodes, limit_small (list_any is_raise earlier));
      few_fences = omega (arith, ap length fences, bounded.few_fences);
      fences = (λ i. rise_to 0 (nodes i) (fences i)) ∙ bounded.fences;
      short = omega (arith, ap length (entries-push earlier Raise), length-append (flat_map entry earlier) (entry Raise), stored-push earlier Raise, ap length fences, ap raises raised, ap raises low, bounded.short);
      digests = ap length (digests_of-push earlier Raise ∙ append-nil (digests_of earlier)) ∙ bounded.digests ∙ ap (λ (n : ℕ). n * (1 + shape.alpha)) (sym nodes);
    }
  where
    not_raised : (b : Bool) → limit_when b ≢ raised_limit → b ≡ false
    not_raised true h = absurd (h refl)
    not_raised false h = refl

    or_true : (b : Bool) → (b || true) ≡ true
    or_true true = refl
    or_true false = refl

bounded : (shape : Shape) (records : List Record) → AreRecords shape records → AreBounded shape records
bounded shape records valid =
    along shape (AreBounded shape) (bounded-next shape) [] records
    (record { objects = omega arith; nodes = omega arith; few_fences = omega arith; fences = refl; short = omega arith; digests = omega arith }) valid

-- records of a ledger have not too many objects, nodes and fences, their fences are those of a lattice with their
-- nodes, and their spelling has at most 2^28 bytes for each object and for 18 more
pub records_are_few : RecordsAreFew
records_are_few shape records valid =
    let b = bounded shape records valid in
    record {
      objects = b.objects;
      nodes = b.nodes;
      fences = and_from (nat_le (length (fences_of records)) greatest_fences) (rise_to 0 (nodes_of records) (fences_of records)) (le-leb (length (fences_of records)) greatest_fences b.few_fences) b.fences;
      short = omega (arith, length-append (header shape) (flat_map entry records), b.short, b.few_fences, raises-small (list_any is_raise records));
    }

-- nor too many fences
pub few_fences : (shape : Shape) (records : List Record) → AreRecords shape records → length (fences_of records) ≤ greatest_fences
few_fences shape records valid = (bounded shape records valid).few_fences

-- records of a ledger have a digest for each block of their nodes
pub digests_are_counted : DigestsAreCounted
digests_are_counted shape records valid = (bounded shape records valid).digests

-- a fence may follow records of a ledger after the last node, where the last fence is before that node and
-- there are fewer fences than the most
pub fences_may_follow : FencesMayFollow
fences_may_follow shape records valid before few =
    let b = bounded shape records valid in
    let may = may_stand (fences_of records) (nodes_of records) b.fences before in
    record {
      last = refl;
      some = omega (arith, before);
      small = omega (arith, b.nodes, limit_small (list_any is_raise records));
      new = new-fence (fences_of records) (nodes_of records) may.1;
      few = few;
    }
