-- One object more in the archive of the witness.
use Rattle.std.proofs.Common.{◌≡◌, ⊎_elim, inl, inr, ℕ, ◌+◌, ◌-◌, ◌*◌, ◌<◌, ◌≤◌, max, Bool, false, cond, List, [], ◌∷◌, ◌++◌, length, length-append, Option, Some, None, refl, sym, ◌∙◌, ap, subst, arith}
use Rattle.std.specs.FinMap.{get, insert, len, empty, get-insert}
use Rattle.std.specs.Cmp.Lexicographic.{nat_list_cmp_total}
use Rattle.std.specs.Io.KnownBytes.{Consumes, IsAtEnd}
use Rattle.std.specs.List.{flat_map}
use Rattle.std.specs.Str.{bytes_eq}
use Rattle.std.proofs.lemmas.Bool.{cases_Bool, cases_lt}
use Rattle.std.proofs.lemmas.Map.Text.{is_eq-slice_cmp}
use Rattle.std.proofs.lemmas.Slice.Eq.{bytes_eq-Decides}
use Rattle.std.proofs.lemmas.List.{append-nil, get_or_append_left}
use Rattle.aea_lattice.specs.declared.blocks.BlockId.{BlockId}
use Rattle.aea_lattice.specs.declared.shape.Shape.{Shape}
use Rattle.aea_lattice.specs.Blocks.{HasBlock, class_number}
use Rattle.aea_lattice.specs.Shapes.{number_in}
use Rattle.aea_lattice.proofs.Equations.{number_below}
use Rattle.aea_disk.specs.Files.{Files}
use Rattle.aea_disk.specs.State.{State}
use Rattle.aea_shelf.proofs.Cells.{keeps_intact, at_intact, at_home, length-home}
use Rattle.aea_shelf.specs.Places.{home_bytes}
use Rattle.aea_shelf.specs.Intact.{IsIntact, payload_in}
use Rattle.aea_shelf.specs.Writes.{KeepsHomes}
use Rattle.aea_catalog.specs.declared.objects.Extent.{Extent}
use Rattle.aea_catalog.specs.Catalogs.{Placed, Objects, own_range}
use Rattle.aea_records.specs.Format.{Record, Object, Stored as StoredRecord, stored_in, spelled}
use Rattle.aea_records.specs.Catalogued.{objects_of, placed_object}
use Rattle.aea_records.specs.Grammar.{IsLedger}
use Rattle.aea_records.specs.Laws.{NewNamesAreFree, ObjectsAreCounted, DigestsAreCounted}
use Rattle.aea_records.proofs.OneMore.{objects-push, digests_of-push, raised_stays}
use Rattle.aea_ledger.specs.Recorded.{AreRecordsOf}
use Rattle.aea_ledger.specs.Values.{Opened, HasRecords}
use Rattle.aea_ledger.specs.Next.{AreItsRecords}
use Rattle.aea_ledger.specs.Stops.{empty_ledger}
use Rattle.aea_archive.specs.Blocks.{recorded_in, IsIntactBy, IsBlockIn}
use Rattle.aea_archive.specs.Data.{AreSurvivorsHonest, IsDamagePlain}
use Rattle.aea_archive.specs.Lasts.{IsFirstDamagedLast}
use Rattle.aea_archive.specs.Laws.{NoneRecordNone}
use Rattle.aea_archive.specs.Next.{NewObject, object_blocks}
use Rattle.aea_archive.proofs.Values.{last_inside}
use Rattle.aea_append.specs.declared.store.Stored.{Stored}
use Rattle.aea_append.specs.Causes.{MayEnter, next_end}
use Rattle.aea_append.specs.Puts.{HasPut, HasStored}
use Rattle.aea_fetch.specs.Puts.{PutsGoOn, datas_of}
use Rattle.aea_rehearse.specs.Rehearsed.{IsRehearsalShape}
use Rattle.aea_rehearse.proofs.Built.{IsNew}
use Rattle.aea_rehearse.proofs.Homes.{block_in_shape}
use Rattle.aea_witness.specs.Objects.{object_of, IsSmall, IsNewName, IsFirst, AreAllIntact, HasPuts}
use Rattle.aea_witness.proofs.Lists.{stored_count, stored_names}
use Rattle.aea_witness.proofs.Rooms.{one_node, ends_within}

-- where all blocks are intact, the damage is plain
pub none_damaged : (v : Opened) (c : Files) → AreAllIntact v c → IsDamagePlain v.shape v.lattice v.digests c
none_damaged v c intact b has recorded = intact b has

-- and no last parity is damaged
pub no_head : (v : Opened) (c : Files) (b : BlockId) → AreAllIntact v c → IsFirstDamagedLast v.shape v.lattice v.digests c b → ⊥
no_head v c b intact damaged = damaged.damaged.damaged (intact b (last_inside v.lattice b damaged.damaged.last))

-- an object with a new name may enter
pub may_enter : NewNamesAreFree → ObjectsAreCounted → (v : Opened) (puts : List NewObject) (o : NewObject) (c : Files) → HasPuts v puts c → IsSmall o → IsNewName o.name puts → length puts ≤ 3 → MayEnter v o.name
may_enter names counted v puts o c p small new few = record {
  named = small.name;
  free = ap (λ m. get m o.name) p.its.has.objects ∙ (names p.records o.name).0 (stored_names p.records puts o.name p.are new);
  few = λ same.
      let all = ap (λ m. len m) p.its.has.objects ∙ counted v.shape p.records p.its.has.valid ∙ stored_count p.records puts p.are in
      absurd (omega (arith, same, all, few));
}

-- what is found under a name where one more object is put under a new one
get_here : (m : Objects) (key : List ℕ) (placed : Placed) → get (insert m key placed) key ≡ Some placed
get_here m key placed =
    get-insert nat_list_cmp_total m key placed key
    ∙ ap (λ (b : Bool). cond b (Some placed) (get m key)) (is_eq-slice_cmp key key ∙ (bytes_eq-Decides key key).1 refl)

some_none : (p : Placed) → (let one : Option Placed = Some p in one ≡ None) → ⊥
some_none p same = cc

get_other : (m : Objects) (key name : List ℕ) (placed p : Placed) → get m key ≡ None → get m name ≡ Some p → get (insert m key placed) name ≡ Some p
get_other m key name placed p free found =
    elim (cases_Bool (bytes_eq name key)) [
      | inl same ↦ absurd (some_none p (sym found ∙ ap (get m) ((bytes_eq-Decides name key).0 same) ∙ free))
      | inr other ↦
          get-insert nat_list_cmp_total m key placed name
          ∙ ap (λ (b : Bool). cond b (Some placed) (get m name)) (is_eq-slice_cmp name key ∙ other) ∙ found
    ]

-- the object of a list that begins with it
same_head : (a b : NewObject) (xs ys : List NewObject) → a ∷ xs ≡ b ∷ ys → a ≡ b
same_head a b xs ys same = cc

-- the range of one node
abbrev range_at : ℕ → List Extent
range_at i = record { first = i; count = 1 } ∷ []

one_range : (r : StoredRecord) → r.first ≡ 1 → r.count ≡ 1 → (placed_object r).parts ≡ range_at 1
one_range r first count =
    ap (λ (k : ℕ). own_range (record { first = r.first; count = k; length = r.size; digest = r.digest })) count
    ∙ ap range_at first

module _ (goes : PutsGoOn) (counted : DigestsAreCounted) (reveals : Type 0) (revealed : reveals) (v w : Opened) (o : NewObject) (old new : State) (stored : Stored) (puts : List NewObject)
    (p : HasPuts v puts old.files) (small : IsSmall o) (free : get v.objects o.name ≡ None) (h : HasStored reveals v w o old new stored) where
  has_v : HasRecords v p.records
  has_v = p.its.has

  abbrev more : List Record
  more = p.records ++ Object h.r ∷ []

  has_w : HasRecords w more
  has_w = h.value p.records p.its.has

  node : h.r.count ≡ 1
  node = h.next.count ∙ one_node v o p.shape small

  -- what is found under the names
  objects : w.objects ≡ insert (objects_of p.records) h.r.name (placed_object h.r)
  objects = has_w.objects ∙ objects-push empty p.records (Object h.r)

  free_before : get (objects_of p.records) h.r.name ≡ None
  free_before = ap (get (objects_of p.records)) h.next.name_is ∙ ap (λ (m : Objects). get m o.name) (sym p.its.has.objects) ∙ free

  first_new : v.lattice.n ≡ 0 → IsFirst w o
  first_new none = record {
    placed = placed_object h.r;
    found = ap (get w.objects) (sym h.next.name_is) ∙ ap (λ (m : Objects). get m h.r.name) objects ∙ get_here (objects_of p.records) h.r.name (placed_object h.r);
    parts = one_range h.r (let at = h.next.first in omega (arith, at, none)) node;
    long = h.next.size;
  }

  first_old : (q : NewObject) → IsFirst v q → IsFirst w q
  first_old q is = record {
    placed = is.placed;
    found = ap (λ (m : Objects). get m q.name) objects
        ∙ get_other (objects_of p.records) h.r.name q.name (placed_object h.r) is.placed free_before (ap (λ (m : Objects). get m q.name) (sym p.its.has.objects) ∙ is.found);
    parts = is.parts;
    long = is.long;
  }

  -- the nodes, the limit and the ledger's file
  nodes : w.lattice.n ≡ v.lattice.n + 1
  nodes = h.next.grown.nodes ∙ ap (λ (k : ℕ). v.lattice.n + k) node

  raised : w.raised ≡ false
  raised = has_w.raised ∙ raised_stays p.records (Object h.r) refl ∙ sym p.its.has.raised ∙ p.raised

  count : length (puts ++ o ∷ []) ≡ length puts + 1
  count = length-append puts (o ∷ [])

  -- the digests of the blocks
  digests : w.digests ≡ v.digests ++ flat_map (λ q. q.digests) (stored_in (Object h.r))
  digests = has_w.digests ∙ digests_of-push p.records (Object h.r) ∙ ap (λ (ds : List (List ℕ)). ds ++ flat_map (λ q. q.digests) (stored_in (Object h.r))) (sym p.its.has.digests)

  digests_long : length v.digests ≡ v.lattice.n * (1 + v.shape.alpha)
  digests_long =
      ap length p.its.has.digests ∙ counted v.shape p.records p.its.has.valid ∙ ap (λ (k : ℕ). k * (1 + v.shape.alpha)) (sym p.its.has.lattice.n)

  recorded_old : (b : BlockId) → HasBlock v.lattice b → recorded_in v.shape w.digests b ≡ recorded_in v.shape v.digests b
  recorded_old b has =
      let below = number_below v.lattice b has in
      let alpha = p.its.has.lattice.alpha in
      let number = ap (λ (a : ℕ). (b.node - 1) * (1 + a) + class_number b.class) alpha in
      let all = ap (λ (a : ℕ). v.lattice.n * (1 + a)) alpha in
      ap (λ (ds : List (List ℕ)). recorded_in v.shape ds b) digests
      ∙ get_or_append_left v.digests (flat_map (λ q. q.digests) (stored_in (Object h.r))) [] (number_in v.shape b) (omega (arith, below, number, all, digests_long))

  used_in : (b : BlockId) → HasBlock w.lattice b → class_number b.class ≤ v.shape.alpha
  used_in b has = let used = has.used in let alpha = has_w.lattice.alpha in let e = ap (λ (s : Shape). s.alpha) h.same_shape in omega (arith, used, alpha, e)

  -- each block is intact
  intact_old : KeepsHomes v.shape (IsBlockIn v.shape v.lattice.n) old.files new.files → (b : BlockId) → HasBlock w.lattice b → b.node ≤ v.lattice.n → IsIntactBy v.shape w.digests new.files b
  intact_old keeps b has before =
      let used = used_in b has in
      let alpha = p.its.has.lattice.alpha in
      let has_b : HasBlock v.lattice b = record { first = has.first; last = before; used = omega (arith, used, alpha) } in
      subst (λ (r : List ℕ). IsIntact v.shape b r new.files) (sym (recorded_old b has_b))
      (keeps_intact v.shape (IsBlockIn v.shape v.lattice.n) old.files new.files keeps b (recorded_in v.shape v.digests b) (block_in_shape v.shape v.lattice b alpha has_b)
      (record { after = has.first; most = before; used = used }) (p.intact b has_b))

  intact_new : (b : BlockId) → HasBlock w.lattice b → v.lattice.n < b.node → IsIntactBy v.shape w.digests new.files b
  intact_new b has after =
      subst (λ (ds : List (List ℕ)). IsIntactBy v.shape ds new.files b) (sym has_w.digests)
      ((h.added revealed p.records p.its).blocks b (record {
        after = (let n = p.its.has.lattice.n in omega (arith, after, n));
        most = (let last = has.last in let n = has_w.lattice.n in omega (arith, last, n));
        used = used_in b has;
      })).intact

  intact : KeepsHomes v.shape (IsBlockIn v.shape v.lattice.n) old.files new.files → AreAllIntact w new.files
  intact keeps b has =
      subst (λ (s : Shape). IsIntactBy s w.digests new.files b) (sym h.same_shape)
      (⊎_elim (intact_new b has) (intact_old keeps b has) (cases_lt v.lattice.n b.node))

  -- the data list
  datas : datas_of w.shape (puts ++ o ∷ []) ≡ datas_of v.shape puts ++ object_blocks v.shape o.bytes
  datas = ap (λ (s : Shape). datas_of s (puts ++ o ∷ [])) h.same_shape ∙ (goes v.shape p.records puts v.lattice w.lattice h.payload o h.r p.are h.next).1

  recorded : AreRecordsOf w.shape more (datas_of w.shape (puts ++ o ∷ []))
  recorded =
      let all = h.records_more revealed p.records (datas_of v.shape puts) has_v p.recorded (λ b last is. p.honest b (last_inside v.lattice b last) is) in
      subst (AreRecordsOf w.shape more) (sym datas)
      (subst (λ (s : Shape). AreRecordsOf s more (datas_of v.shape puts ++ object_blocks v.shape o.bytes)) (sym h.same_shape) all.recorded)

  honest : AreSurvivorsHonest w.shape w.lattice w.digests (datas_of w.shape (puts ++ o ∷ [])) new.files
  honest =
      subst (λ (ds : List (List ℕ)). AreSurvivorsHonest w.shape w.lattice w.digests ds new.files) (sym datas)
      (h.honest revealed p.records (datas_of v.shape puts) has_v p.recorded p.honest (none_damaged v old.files p.intact)).0

  -- the ledger
  its : AreItsRecords w more (new.files 0)
  its = record {
    has = has_w;
    ledger = subst (λ (e : ℕ). IsLedger (new.files 0) w.shape more e) (sym has_w.end)
        (subst (λ (s : Shape). IsLedger (new.files 0) s more (length (spelled s more))) (sym h.same_shape) (h.added revealed p.records p.its).ledger);
  }

  long : length (new.files 0) ≤ max (length (old.files 0)) (next_end v.end (length o.name) (stored.nodes * (1 + v.shape.alpha)) + 1) → length (new.files 0) ≤ 18 + 200 * length (puts ++ o ∷ [])
  long most =
      let one : stored.nodes ≡ 1 = h.count ∙ one_node v o p.shape small in
      let four : stored.nodes * (1 + v.shape.alpha) ≡ 4 = ap (λ (k : ℕ). k * (1 + v.shape.alpha)) one ∙ ap (λ (a : ℕ). 1 * (1 + a)) p.shape.alpha in
      let end = ends_within v puts old p in
      let before = p.long in
      let short = small.short in
      omega (arith, most, four, end, before, short, count)

  first_of : (qs : List NewObject) → puts ≡ qs → (q : NewObject) (rest : List NewObject) → qs ++ o ∷ [] ≡ q ∷ rest → IsFirst w q
  first_of [] same q rest are = subst (IsFirst w) (same_head o q [] rest are) (first_new (p.nodes ∙ ap length same))
  first_of (a ∷ qs) same q rest are = subst (IsFirst w) (same_head a q (qs ++ o ∷ []) rest are) (first_old a (p.first a qs same))

  first : (q : NewObject) (rest : List NewObject) → puts ++ o ∷ [] ≡ q ∷ rest → IsFirst w q
  first = first_of puts refl

  pub puts_more : KeepsHomes v.shape (IsBlockIn v.shape v.lattice.n) old.files new.files
      → length (new.files 0) ≤ max (length (old.files 0)) (next_end v.end (length o.name) (stored.nodes * (1 + v.shape.alpha)) + 1)
      → HasPuts w (puts ++ o ∷ []) new.files
  puts_more keeps most = record {
    shape = subst IsRehearsalShape (sym h.same_shape) p.shape;
    records = more;
    its = its;
    are = (goes v.shape p.records puts v.lattice w.lattice h.payload o h.r p.are h.next).0;
    recorded = recorded;
    intact = intact keeps;
    honest = honest;
    nodes = nodes ∙ ap (λ (n : ℕ). n + 1) p.nodes ∙ sym count;
    raised = raised;
    long = long most;
    first = first;
  }

-- what the archive has stays while its blocks and its ledger do
pub puts_stay : (v : Opened) (puts : List NewObject) (old new : Files) → HasPuts v puts old → new 0 ≡ old 0 → KeepsHomes v.shape (IsBlockIn v.shape v.lattice.n) old new → HasPuts v puts new
puts_stay v puts old new p ledger keeps =
    let alpha = p.its.has.lattice.alpha in
    let inside : (b : BlockId) → HasBlock v.lattice b → IsBlockIn v.shape v.lattice.n b =
    λ b has. record { after = has.first; most = has.last; used = (let used = has.used in omega (arith, used, alpha)) } in
    record {
      shape = p.shape;
      records = p.records;
      its = subst (AreItsRecords v p.records) (sym ledger) p.its;
      are = p.are;
      recorded = p.recorded;
      intact = λ b has.
          keeps_intact v.shape (IsBlockIn v.shape v.lattice.n) old new keeps b (recorded_in v.shape v.digests b) (block_in_shape v.shape v.lattice b alpha has) (inside b has) (p.intact b has);
      honest = λ b has intact.
          let was = p.intact b has in
          let size = length-home v.shape b old was.within in
          let here = keeps b (home_bytes v.shape b old) (block_in_shape v.shape v.lattice b alpha has) (inside b has) (omega (arith, size)) (at_intact v.shape b (recorded_in v.shape v.digests b) old was) in
          ap (payload_in v.shape) (at_home v.shape b (home_bytes v.shape b old) new size here).0 ∙ p.honest b has was;
      nodes = p.nodes;
      raised = p.raised;
      long = subst (λ (xs : List ℕ). length xs ≤ 18 + 200 * length puts) (sym ledger) p.long;
      first = p.first;
    }

-- all that there is was taken
all_taken : (bytes taken : List ℕ) (rest : Option (List ℕ)) → Consumes (Some bytes) rest taken → IsAtEnd rest → bytes ≡ taken
all_taken bytes taken None gone end = absurd gone
all_taken bytes taken (Some left) gone end = gone ∙ ap (λ (xs : List ℕ). taken ++ xs) end ∙ append-nil taken

-- what was put of a source that had just these bytes
pub put_more : PutsGoOn → DigestsAreCounted → (reveals : Type 0) → reveals → (v w : Opened) (name bytes : List ℕ) (rest : Option (List ℕ)) (old new : State) (stored : Stored) (puts : List NewObject)
    → HasPuts v puts old.files → IsSmall (object_of name bytes) → get v.objects name ≡ None → HasPut reveals v w name (Some bytes) rest old new stored
    → KeepsHomes v.shape (IsBlockIn v.shape v.lattice.n) old.files new.files
    → length (new.files 0) ≤ max (length (old.files 0)) (next_end v.end (length name) (stored.nodes * (1 + v.shape.alpha)) + 1)
    → HasPuts w (puts ++ object_of name bytes ∷ []) new.files
put_more goes counted reveals revealed v w name bytes rest old new stored puts p small free put keeps most =
    let whole = put.1 in
    let same : put.0 ≡ object_of name bytes = ap (λ (n : List ℕ). object_of n put.0.bytes) whole.name_is ∙ ap (object_of name) (sym (all_taken bytes put.0.bytes rest whole.taken whole.end)) in
    let h : HasStored reveals v w (object_of name bytes) old new stored = subst (λ (o : NewObject). HasStored reveals v w o old new stored) same put.2 in
    puts_more goes counted reveals revealed v w (object_of name bytes) old new stored puts p small free h keeps most

-- an archive that was just made has no objects
no_block : (v : Opened) (b : BlockId) → HasRecords v [] → HasBlock v.lattice b → ⊥
no_block v b has inside = let none = has.lattice.n in let first = inside.first in let last = inside.last in omega (arith, none, first, last)

pub no_puts : NoneRecordNone → (shape : Shape) (v : Opened) (c : Files) → IsRehearsalShape shape → c 0 ≡ empty_ledger shape → IsNew shape v (c 0) → HasPuts v [] c
no_puts none shape v c is empty new =
    let has = new.its.has in
    record {
      shape = subst IsRehearsalShape (sym new.same) is;
      records = [];
      its = new.its;
      are = tt;
      recorded = none v.shape;
      intact = λ b inside. absurd (no_block v b has inside);
      honest = λ b inside. absurd (no_block v b has inside);
      nodes = has.lattice.n;
      raised = has.raised;
      long = (let bytes = ap length empty in omega (arith, bytes));
      first = λ o more same. absurd (let long = ap length same in omega (arith, long));
    }
