-- One more record of an opened ledger.
use Rattle.std.proofs.Common.{◌≡◌, ℕ, ◌+◌, ◌*◌, ◌^◌, ◌<◌, ◌≤◌, Bool, true, false, ◌||◌, List, [], ◌∷◌, ◌++◌, length, All, Result, Ok, Err, is_ok, take, drop, inl, refl, sym, ap, subst, ◌∙◌, append_assoc, arith}
use Rattle.std.specs.Prelude.{OnOk, IfSome, IsTrue, None, Some, Option, option_map, ◌==◌}
use Rattle.std.proofs.lemmas.Bool.{and_parts}
use Rattle.std.proofs.Common.{Bor}
use Rattle.aea_catalog.specs.declared.objects.Extent.{Extent}
use Rattle.aea_records.specs.Fields.{are_apart, are_parts}
use Rattle.std.specs.List.{flat_map, sum_by}
use Rattle.std.specs.FinMap.{get, len, empty}
use Rattle.std.proofs.lemmas.List.{append-nil, length-append, take-append-drop}
use Rattle.std.proofs.Math.Seq.{take-append_seam}
use Rattle.sha2.specs.Hashers.{Holds256}
use Rattle.sha2.specs.Sha256.{sha256}
use Rattle.aea_lattice.specs.declared.shape.Shape.{Shape}
use Rattle.aea_lattice.specs.Data.{IsBytes}
use Rattle.aea_lattice.specs.Fences.{greatest_fences, last_fence}
use Rattle.aea_catalog.specs.Catalogs.{Objects}
use Rattle.aea_catalog.specs.Names.{IsName}
use Rattle.aea_disk.specs.State.{State, IsFixed}
use Rattle.aea_records.specs.Format.{Stored, Record, Object, Joined, Fence, Raise, first_limit, limit_of, fences_of, is_raise, greatest_objects, nodes_for, limit_when, stored_in, stored_of, nodes_of, fence_in, body, entry, spelled}
use Rattle.aea_records.specs.Grammar.{MayBeStored, IsNext, AreRecords, IsLedger}
use Rattle.aea_records.specs.Catalogued.{with_record}
use Rattle.aea_records.specs.Laws.{FencesMayFollow, ObjectsAreCounted, NewNamesAreFree, RecordsAreFew}
use Rattle.aea_ledger.specs.Values.{Opened, HasRecords, HasSomeRecords, IsThisOne}
use Rattle.aea_records.specs.declared.heads.ObjectFields.{ObjectFields}
use Rattle.aea_records.specs.Objects.{stored_as, made}
use Rattle.aea_ledger.specs.Next.{AreItsRecords, HasNodes}
use Rattle.aea_ledger.proofs.Steps.{one_count}
use Rattle.aea_ledger.specs.Stops.{HasLedger, IsAdded, closed}
use Rattle.aea_ledger.specs.Committing.{IsNextOf, HasTaken, LeavesOldOrNew}
use Rattle.aea_ledger.proofs.Small.{few_nodes, few_parts, limit_small}
use Rattle.aea_records.proofs.OneMore.{or_false, MayFollow-push, nodes_of-push, fences_of-push, digests_of-push, raised-push, objects-push, spelled-push}

-- what is asked of an object that is to be added
pub record MayBeAdded (v : Opened) (o : Stored) : Type 0 where
  pub few : len v.objects < greatest_objects
  pub named : IsName o.name
  pub absent : get v.objects o.name ≡ None
  pub size : o.size < 2 ^ 64
  pub digest : IsBytes 32 o.digest
  pub first : o.first ≡ v.lattice.n + 1
  pub fits : v.lattice.n + o.count ≤ limit_when v.raised
  pub long : length o.digests ≡ o.count * (1 + v.shape.alpha)
  pub each : All (IsBytes 32) o.digests

-- such an object may be stored
pub may_be_stored : (v : Opened) (records : List Record) (o : Stored) → ObjectsAreCounted → NewNamesAreFree → MayBeAdded v o → HasRecords v records → MayBeStored v.shape records o
may_be_stored v records o counted free may has =
    let number : len v.objects ≡ length (stored_of records) = ap len has.objects ∙ counted v.shape records has.valid in
    let new = (free records o.name).1 (subst (λ (m : Objects). get m o.name ≡ None) has.objects may.absent) in
    record {
      few = omega (arith, number, may.few);
      name = may.named;
      new = new;
      size = may.size;
      digest = may.digest;
      first = may.first ∙ ap (λ (n : ℕ). n + 1) has.lattice.n;
      fits = subst (λ (b : Bool). nodes_of records + o.count ≤ limit_when b) has.raised (subst (λ (n : ℕ). n + o.count ≤ limit_when v.raised) has.lattice.n may.fits);
      digests = may.long;
      each = may.each;
    }

pub object_next : (v : Opened) (o : Stored) → ObjectsAreCounted → NewNamesAreFree → MayBeAdded v o → o.count ≡ nodes_for v.shape o.size → IsNextOf v (Object o)
object_next v o counted free may count records has = record { stored = may_be_stored v records o counted free may has; count = count }

-- the limit was raised
pub joined_next : (v : Opened) (o : Stored) (parts : List Extent) → ObjectsAreCounted → NewNamesAreFree → MayBeAdded v o → v.raised ≡ true → IsTrue (are_parts v.shape o.size (v.lattice.n + o.count) parts) → IsNextOf v (Joined o parts)
joined_next v o parts counted free may raised apart records has = record {
  raised = ap limit_when (sym has.raised ∙ raised);
  stored = may_be_stored v records o counted free may has;
  apart = subst (λ (n : ℕ). IsTrue (are_parts v.shape o.size (n + o.count) parts)) has.lattice.n apart;
}

-- an object that may be added, with the nodes that it takes, may follow
pub made_next : (v : Opened) (o : Stored) (parts : Option (List Extent)) → ObjectsAreCounted → NewNamesAreFree → MayBeAdded v o → HasNodes v o.size o.count parts → IsNextOf v (made o parts)
made_next v o None counted free may nodes = object_next v o counted free may nodes
made_next v o (Some parts) counted free may nodes = joined_next v o parts counted free may nodes.0 nodes.1

-- its parts are few
pub made_few : (v : Opened) (size count : ℕ) (parts : Option (Bor (List Extent))) → v.lattice.n + count ≤ limit_when v.raised → HasNodes v size count (option_map (λ e. e.now) parts)
    → IfSome parts (λ e. length e.now ≤ 2 ^ 20)
made_few v size count None fits nodes = tt
made_few v size count (Some parts) fits nodes =
    let apart = and_parts (are_apart 0 (v.lattice.n + count) parts.now) (sum_by (λ (e : Extent). e.count) parts.now == nodes_for v.shape size) nodes.1 in
    omega (arith, few_parts 0 (v.lattice.n + count) parts.now apart.0, fits, limit_small v.raised)

-- and so are their nodes
pub made_small : (v : Opened) (size count : ℕ) (parts : Option (List Extent)) → v.lattice.n + count ≤ limit_when v.raised → HasNodes v size count parts → IfSome parts (λ e. sum_by (λ p. p.count) e < 2 ^ 32)
made_small v size count None fits nodes = tt
made_small v size count (Some parts) fits nodes =
    let apart = and_parts (are_apart 0 (v.lattice.n + count) parts) (sum_by (λ (e : Extent). e.count) parts == nodes_for v.shape size) nodes.1 in
    omega (arith, few_nodes 0 (v.lattice.n + count) parts apart.0, fits, limit_small v.raised)

-- one opened ledger has what the other has, and what the record of the object adds
pub record HasMade (v : Opened) (o : Stored) (parts : Option (List Extent)) (w : Opened) : Type 0 where
  pub shape : w.shape ≡ v.shape
  pub alpha : w.lattice.alpha ≡ v.lattice.alpha
  pub s : w.lattice.s ≡ v.lattice.s
  pub p : w.lattice.p ≡ v.lattice.p
  pub n : w.lattice.n ≡ v.lattice.n + o.count
  pub fences : w.lattice.fences ≡ v.lattice.fences
  pub objects : w.objects ≡ with_record v.objects (made o parts)
  pub raised : w.raised ≡ v.raised
  pub digests : w.digests ≡ v.digests ++ o.digests
  pub hasher : (m : List ℕ) → Holds256 v.hasher m → Holds256 w.hasher (m ++ entry (made o parts))
  pub seal : (m : List ℕ) → Holds256 v.hasher m → w.seal ≡ sha256 (m ++ entry (made o parts))
  pub end : w.end ≡ v.end + length (entry (made o parts))
  pub live : w.live ≡ true

-- a record of one object, and of nothing else
taken_one : (v w : Opened) (o : Stored) (parts : Option (List Extent)) (r : Record) → r ≡ made o parts → stored_in r ≡ o ∷ [] → fence_in r ≡ [] → is_raise r ≡ false → HasMade v o parts w → HasTaken v r w
taken_one v w o parts r is one no_fence no_raise has = record {
  shape = has.shape;
  alpha = has.alpha;
  s = has.s;
  p = has.p;
  n = has.n ∙ ap (λ (n : ℕ). v.lattice.n + n) (sym (ap (sum_by (λ (q : Stored). q.count)) one ∙ one_count o));
  fences = has.fences ∙ sym (ap (λ (l : List ℕ). v.lattice.fences ++ l) no_fence ∙ append-nil v.lattice.fences);
  objects = has.objects ∙ ap (with_record v.objects) (sym is);
  raised = has.raised ∙ sym (ap (λ (b : Bool). v.raised || b) no_raise ∙ or_false v.raised);
  digests = has.digests ∙ ap (λ (l : List (List ℕ)). v.digests ++ l) (sym (ap (flat_map (λ (q : Stored). q.digests)) one ∙ append-nil o.digests));
  hasher = λ m holds. subst (λ (q : Record). Holds256 w.hasher (m ++ entry q)) (sym is) (has.hasher m holds);
  seal = λ m holds. has.seal m holds ∙ ap (λ (q : Record). sha256 (m ++ entry q)) (sym is);
  end = has.end ∙ ap (λ (q : Record). v.end + length (entry q)) (sym is);
  live = has.live;
}

-- an opened ledger with what the other has and what the object adds has taken the object's record
pub made_taken : (v w : Opened) (o : Stored) (parts : Option (List Extent)) → HasMade v o parts w → HasTaken v (made o parts) w
made_taken v w o None has = taken_one v w o None (Object o) refl refl refl refl has
made_taken v w o (Some parts) has = taken_one v w o (Some parts) (Joined o parts) refl refl refl refl has

-- the digests of an object are not kept with it
pub with_made : (m : Objects) (name : List ℕ) (o : ObjectFields) (digests : List (List ℕ)) (parts : Option (List Extent)) → with_record m (made (stored_as name o []) parts) ≡ with_record m (made (stored_as name o digests) parts)
with_made m name o digests None = refl
with_made m name o digests (Some parts) = refl

-- an opened ledger has no more objects than there may be
pub few_objects : (v : Opened) → ObjectsAreCounted → RecordsAreFew → HasSomeRecords v → len v.objects ≤ greatest_objects
few_objects v counted few has =
    let number : len v.objects ≡ length (stored_of has.0) = ap len has.1.objects ∙ counted v.shape has.0 has.1.valid in
    omega (arith, number, (few v.shape has.0 has.1.valid).objects)

-- what a view of an option has, the option has
pub of_view : {X Y : Type 0} (f : X → Y) (P : Y → Type 0) (o : Option X) → IfSome (option_map f o) P → IfSome o (λ x. P (f x))
of_view f P None is = tt
of_view f P (Some x) is = is

-- what an opened ledger has that has taken one more record
pub has_more : (v w : Opened) (records : List Record) (r : Record) → HasTaken v r w → HasRecords v records → IsNext v.shape records r → HasRecords w (records ++ r ∷ [])
has_more v w records r taken has next =
    let spelling : spelled v.shape records ++ entry r ≡ spelled w.shape (records ++ r ∷ []) =
    sym (spelled-push v.shape records r) ∙ ap (λ (s : Shape). spelled s (records ++ r ∷ [])) (sym taken.shape) in
    record {
      valid = subst (λ (s : Shape). AreRecords s (records ++ r ∷ [])) (sym taken.shape) (MayFollow-push v.shape [] records r has.valid next);
      lattice = record {
        alpha = taken.alpha ∙ has.lattice.alpha ∙ ap (λ (s : Shape). s.alpha) (sym taken.shape);
        s = taken.s ∙ has.lattice.s ∙ ap (λ (s : Shape). s.s) (sym taken.shape);
        p = taken.p ∙ has.lattice.p ∙ ap (λ (s : Shape). s.p) (sym taken.shape);
        n = taken.n ∙ ap (λ (n : ℕ). n + sum_by (λ (o : Stored). o.count) (stored_in r)) has.lattice.n ∙ sym (nodes_of-push records r);
        fences_are = taken.fences ∙ ap (λ (l : List ℕ). l ++ fence_in r) has.lattice.fences_are ∙ sym (fences_of-push records r);
      };
      objects = taken.objects ∙ ap (λ (m : Objects). with_record m r) has.objects ∙ sym (objects-push empty records r);
      raised = taken.raised ∙ ap (λ (b : Bool). b || is_raise r) has.raised ∙ sym (raised-push records r);
      digests = taken.digests ∙ ap (λ (l : List (List ℕ)). l ++ flat_map (λ (o : Stored). o.digests) (stored_in r)) has.digests ∙ sym (digests_of-push records r);
      hasher = subst (Holds256 w.hasher) spelling (taken.hasher (spelled v.shape records) has.hasher);
      seal = taken.seal (spelled v.shape records) has.hasher ∙ ap sha256 spelling;
      end = taken.end ∙ ap (λ (n : ℕ). n + length (entry r)) has.end ∙ sym (length-append (spelled v.shape records) (entry r)) ∙ ap length spelling;
    }

-- the ledger with one more record is not long
pub short_end : (v : Opened) (records : List Record) (r : Record) → RecordsAreFew → HasRecords v records → IsNext v.shape records r → v.end + length (entry r) ≤ 2 ^ 45
short_end v records r law has next =
    let few = law v.shape (records ++ r ∷ []) (MayFollow-push v.shape [] records r has.valid next) in
    omega (arith, has.end, ap length (spelled-push v.shape records r), length-append (spelled v.shape records) (entry r), few.short, few.objects)

-- two pieces of a body, and a closed gate
pub closed_is : (front rest : List ℕ) (r : Record) → front ++ rest ≡ body r → closed front rest ≡ body r ++ 0 ∷ []
closed_is front rest r is = sym (append_assoc front rest (0 ∷ [])) ∙ ap (λ (l : List ℕ). l ++ 0 ∷ []) is

-- they have as many bytes as the entry
pub length-closed : (front rest : List ℕ) (r : Record) → front ++ rest ≡ body r → length front + (length rest + 1) ≡ length (entry r)
length-closed front rest r is = omega (arith, length-append front rest, ap length is)

-- a body that a closed gate follows, cut in two pieces
pub cut-behind : (r : Record) (behind : List ℕ) (n k : ℕ) → behind ≡ body r ++ 0 ∷ [] → n ≡ length (body r) → take k (take n behind) ++ drop k (take n behind) ≡ body r
cut-behind r behind n k is size =
    take-append-drop k (take n behind) ∙ ap (λ (m : ℕ). take m behind) size ∙ ap (take (length (body r))) is ∙ take-append_seam (body r) (0 ∷ [])

-- it adds the record
pub is_added : (v : Opened) (records : List Record) (r : Record) (bytes behind : List ℕ) (end : ℕ) → v.end ≡ end → IsNextOf v r → AreItsRecords v records bytes → behind ≡ body r ++ 0 ∷ []
    → IsAdded v.shape records r bytes end behind
is_added v records r bytes behind end at next its is = record {
  ledger = subst (IsLedger bytes v.shape records) at its.ledger;
  next = next records its.has;
  bytes = is;
}

-- the bytes are the new ledger where they are with its records
pub this_one : (v w : Opened) (r : Record) (old new : List ℕ) → HasTaken v r w → IsNextOf v r → IsThisOne v old
    → ((records : List Record) → AreItsRecords v records old → HasLedger v.shape (records ++ r ∷ []) new) → IsThisOne w new
this_one v w r old new taken next is appended =
    let has = has_more v w is.records r taken is.has (next is.records is.has) in
    let ledger = appended is.records (record { has = is.has; ledger = is.ledger }) in
    let there : IsLedger new w.shape (is.records ++ r ∷ []) (length (spelled w.shape (is.records ++ r ∷ []))) =
    subst (λ (s : Shape). IsLedger new s (is.records ++ r ∷ []) (length (spelled s (is.records ++ r ∷ [])))) (sym taken.shape) ledger in
    record {
      records = is.records ++ r ∷ [];
      has = has;
      ledger = subst (IsLedger new w.shape (is.records ++ r ∷ [])) (sym has.end) there;
    }

-- a call that does nothing leaves the old ledger
pub leaves_none : (reveals : Type 0) (v : Opened) (r : Record) (s : State) → (reveals → IsFixed s 0) → LeavesOldOrNew reveals v r s s
leaves_none reveals v r s fixed = record {
  any_moment = λ reveal records its t c from to image.
      let now : t ≡ s.moment = omega (arith, from, to) in
      let same : c 0 ≡ s.files 0 = fixed reveal c (subst (λ (n : ℕ). s.image n c) now image) in
      inl (subst (HasLedger v.shape records) (sym same) (subst (IsLedger (s.files 0) v.shape records) its.ledger.place its.ledger));
  stays = λ reveal records its t u from between to all c image.
      let same : u ≡ t = omega (arith, from, between, to) in
      all c (subst (λ (n : ℕ). s.image n c) same image);
  reads = λ reveal records its. inl (subst (IsLedger (s.files 0) v.shape records) its.ledger.place its.ledger);
  long = λ reveal. omega arith;
}

-- an opened ledger with the parts of one that has some records has some
pub still_has : (v w : Opened) → w.shape ≡ v.shape → w.lattice ≡ v.lattice → w.objects ≡ v.objects → w.raised ≡ v.raised → w.digests ≡ v.digests → w.hasher ≡ v.hasher → w.seal ≡ v.seal → w.end ≡ v.end
    → HasSomeRecords v → HasSomeRecords w
still_has v w shape lattice objects raised digests hasher seal end has = (
  has.0,
  subst (λ (u : Opened). HasRecords u has.0)
      (λ i. record { shape = sym shape i; lattice = sym lattice i; objects = sym objects i; raised = sym raised i; digests = sym digests i; hasher = sym hasher i; seal = sym seal i; end = sym end i; live = w.live })
      (record { valid = has.1.valid; lattice = has.1.lattice; objects = has.1.objects; raised = has.1.raised; digests = has.1.digests; hasher = has.1.hasher; seal = has.1.seal; end = has.1.end }),
)

-- and one that has taken a record of one that has some
pub has_some_more : (v w : Opened) (r : Record) → HasTaken v r w → IsNextOf v r → HasSomeRecords v → HasSomeRecords w
has_some_more v w r taken next has = (has.0 ++ r ∷ [], has_more v w has.0 r taken has.1 (next has.0 has.1))

-- the space up to the new ending gate
pub room_same : (inside now written entered : ℕ) → inside ≡ now → written ≡ entered → now + entered + 1 ≡ inside + 1 + written
room_same inside now written entered end size = omega (arith, end, size)

-- what holds of a call that succeeded
pub when_ok : {T E P : Type 0} (r : Result T E) → is_ok r ≡ true → OnOk r P → P
when_ok (Ok x) is p = p
when_ok (Err e) is p = absurd (let h : false ≡ true = is in cc)

-- a fence after the last node may follow
pub fence_next : (v : Opened) → FencesMayFollow → last_fence v.lattice.fences < v.lattice.n → length v.lattice.fences < greatest_fences → IsNextOf v (Fence v.lattice.n)
fence_next v law before few records has =
    subst (λ (n : ℕ). IsNext v.shape records (Fence n)) (sym has.lattice.n)
    (law v.shape records has.valid
    (subst (λ (n : ℕ). last_fence (fences_of records) < n) has.lattice.n (subst (λ (l : List ℕ). last_fence l < v.lattice.n) has.lattice.fences_are before))
    (subst (λ (l : List ℕ). length l < greatest_fences) has.lattice.fences_are few))

-- a raise may follow where there was none
pub raise_next : (v : Opened) → v.raised ≡ false → IsNextOf v Raise
raise_next v low records has = λ e. absurd (let l : limit_of records ≡ first_limit = ap limit_when (sym has.raised ∙ low) in omega (arith, e, l))
