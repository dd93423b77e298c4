-- The archive of a rehearsal when its one object was put.
use Rattle.std.proofs.Common.{◌≡◌, ℕ, zero, suc, ◌+◌, ◌-◌, ◌*◌, ◌/◌, ◌<◌, ◌≤◌, List, [], ◌∷◌, ◌++◌, length, length-append, take, drop, codes, Option, Some, None, refl, sym, ◌∙◌, ap, subst, arith, Bool, true, false, ltb, get_or}
use Rattle.std.specs.Prelude.{◌&&◌}
use Rattle.std.specs.List.{list_all}
use Rattle.std.proofs.lemmas.Bool.{false≢true}
use Rattle.std.proofs.lemmas.Bool.Decides.{Decides-ltb}
use Rattle.std.proofs.lemmas.Str.{is_utf8-from_IsUtf8, IsUtf8-from_ascii}
use Rattle.std.specs.FinMap.{get, len, get-empty, len-empty}
use Rattle.std.specs.Io.KnownBytes.{Consumes, IsAtEnd}
use Rattle.std.proofs.lemmas.List.{append-nil}
use Rattle.aea_lattice.specs.declared.blocks.BlockId.{BlockId}
use Rattle.aea_lattice.specs.declared.shape.Shape.{Shape}
use Rattle.aea_lattice.specs.Blocks.{HasBlock}
use Rattle.aea_lattice.specs.Data.{value_of}
use Rattle.aea_disk.specs.Files.{Files}
use Rattle.aea_disk.specs.State.{State}
use Rattle.aea_envelope.specs.Cells.{block_digest, cell_of}
use Rattle.aea_envelope.specs.Facts.{CellsHaveLengths, CellsHaveParts}
use Rattle.aea_shelf.specs.Places.{home_bytes, HasAtHome, site_bytes}
use Rattle.aea_shelf.specs.Intact.{IsIntact, payload_in}
use Rattle.aea_shelf.proofs.Cells.{length-home, at_intact}
use Rattle.aea_records.specs.Format.{Record, Object, nodes_for, limit_when, header, spelled}
use Rattle.aea_records.specs.Grammar.{IsLedger}
use Rattle.aea_records.specs.Laws.{HasOneReading, IsSomeLedger}
use Rattle.aea_ledger.specs.Recorded.{AreRecordsOf}
use Rattle.aea_ledger.specs.Values.{Opened, HasRecords, IsThisOne}
use Rattle.aea_ledger.specs.Next.{AreItsRecords}
use Rattle.aea_ledger.specs.Stops.{empty_ledger, HasLedger}
use Rattle.aea_archive.specs.Blocks.{recorded_in, IsIntactBy}
use Rattle.aea_archive.specs.Data.{AreSurvivorsHonest, IsDamagePlain}
use Rattle.aea_archive.specs.Lasts.{AreLastsHonest}
use Rattle.aea_archive.specs.Laws.{NoneRecordNone}
use Rattle.aea_archive.specs.Next.{object_blocks}
use Rattle.aea_archive.proofs.Values.{last_inside}
use Rattle.aea_append.specs.declared.store.Stored.{Stored}
use Rattle.aea_append.specs.Causes.{MayEnter, HasPutRoom, next_end}
use Rattle.aea_append.specs.Puts.{HasPut}
use Rattle.aea_rehearse.specs.Rehearsed.{IsRehearsalShape}
use Rattle.aea_rehearse.specs.Rooms.{HasRehearsalRoom}
use Rattle.aea_rehearse.specs.Building.{AreWoven, IsBuilt}
use Rattle.aea_rehearse.proofs.Homes.{rows-short}

-- an empty ledger is one without records
pub empty_is : (shape : Shape) → IsLedger (empty_ledger shape) shape [] (length (spelled shape []))
empty_is shape = record {
  valid = tt;
  gate = 0;
  closed = λ same. absurd (omega (arith, same));
  after = [];
  spelling = ap (λ (h : List ℕ). h ++ 0 ∷ []) (sym (append-nil (header shape)));
  place = refl;
}

-- and so it is one, as `open` asks
pub empty_some : (shape : Shape) (bytes : List ℕ) → bytes ≡ empty_ledger shape → IsSomeLedger bytes
empty_some shape bytes same = record {
  shape = shape;
  records = [];
  end = length (spelled shape []);
  ledger = subst (λ (xs : List ℕ). IsLedger xs shape [] (length (spelled shape []))) (sym same) (empty_is shape);
}

-- what was opened on it has no records, and its shape
pub record IsNew (shape : Shape) (v : Opened) (bytes : List ℕ) : Type 0 where
  pub same : v.shape ≡ shape
  pub its : AreItsRecords v [] bytes

pub opened_new : HasOneReading → (shape : Shape) (v : Opened) (bytes : List ℕ) → bytes ≡ empty_ledger shape → IsThisOne v bytes → IsNew shape v bytes
opened_new law shape v bytes empty this =
    let one = law bytes v.shape shape this.records [] v.end (length (spelled shape [])) this.ledger (subst (λ (xs : List ℕ). IsLedger xs shape [] (length (spelled shape []))) (sym empty) (empty_is shape)) in
    record { same = one.0; its = record { has = subst (HasRecords v) one.1.0 this.has; ledger = subst (λ (rs : List Record). IsLedger bytes v.shape rs v.end) one.1.0 this.ledger } }

-- The ledger's place, and the nodes, where there are no records.
pub new_end : (v : Opened) → HasRecords v [] → v.end ≡ 17
new_end v has = has.end ∙ ap length (append-nil (header v.shape))

pub new_nodes : (v : Opened) → HasRecords v [] → v.lattice.n ≡ 0
new_nodes v has = has.lattice.n

no_block : (v : Opened) (b : BlockId) → HasRecords v [] → HasBlock v.lattice b → ⊥
no_block v b has inside = let none = new_nodes v has in let first = inside.first in let last = inside.last in omega arith

pub lasts_honest : (v : Opened) (datas : List (List ℕ)) (c : Files) → HasRecords v [] → AreLastsHonest v.shape v.lattice v.digests datas c
lasts_honest v datas c has b last intact = absurd (no_block v b has (last_inside v.lattice b last))

pub none_honest : (v : Opened) (datas : List (List ℕ)) (c : Files) → HasRecords v [] → AreSurvivorsHonest v.shape v.lattice v.digests datas c
none_honest v datas c has b inside intact = absurd (no_block v b has inside)

pub none_plain : (v : Opened) (c : Files) → HasRecords v [] → IsDamagePlain v.shape v.lattice v.digests c
none_plain v c has b inside recorded = absurd (no_block v b has inside)

and_first : (x y : Bool) → (x && y) ≡ true → x ≡ true
and_first true y is = refl
and_first false y is = is

and_second : (x y : Bool) → (x && y) ≡ true → y ≡ true
and_second true y is = is
and_second false y is = absurd (false≢true is)

-- a list whose bytes are all below 128
pub below_all : (xs : List ℕ) → list_all (λ x. ltb x 128) xs ≡ true → (i : ℕ) → get_or xs i 0 < 128
below_all [] all i = omega arith
below_all (x ∷ xs) all zero = (Decides-ltb x 128).0 (and_first (ltb x 128) (list_all (λ y. ltb y 128) xs) all)
below_all (x ∷ xs) all (suc i) = below_all xs (and_second (ltb x 128) (list_all (λ y. ltb y 128) xs) all) i

-- the object may enter
pub may_enter : (v : Opened) → HasRecords v [] → MayEnter v (codes "rehearsal")
may_enter v has = record {
  named = is_utf8-from_IsUtf8 (codes "rehearsal") (IsUtf8-from_ascii (codes "rehearsal") (below_all (codes "rehearsal") refl));
  free = ap (λ m. get m (codes "rehearsal")) has.objects ∙ get-empty _ (codes "rehearsal");
  few = λ same. let none = ap (λ m. len m) has.objects ∙ len-empty _ _ in absurd (omega (arith, same, none));
}

-- no more is taken than there is
taken_short : (bytes taken : List ℕ) (rest : Option (List ℕ)) → Consumes (Some bytes) rest taken → length taken ≤ length bytes
taken_short bytes taken None gone = absurd gone
taken_short bytes taken (Some more) gone = omega (arith, ap length gone, length-append taken more)

-- all that there is was taken
all_taken : (bytes taken : List ℕ) (rest : Option (List ℕ)) → Consumes (Some bytes) rest taken → IsAtEnd rest → bytes ≡ taken
all_taken bytes taken None gone end = absurd gone
all_taken bytes taken (Some more) gone end = gone ∙ ap (λ (xs : List ℕ). taken ++ xs) end ∙ append-nil taken

-- how many nodes so many bytes take, in blocks of 512 bytes: by this a caller counts them
pub nodes-512 : (shape : Shape) (n : ℕ) → IsRehearsalShape shape → nodes_for shape n ≡ (n + 512 - 1) / 512
nodes-512 shape n is = ap (λ (k : ℕ). (n + k - 1) / k) is.block

-- fewer bytes take no more nodes
pub fewer_nodes : (shape : Shape) (m n : ℕ) → IsRehearsalShape shape → m ≤ n → nodes_for shape m ≤ nodes_for shape n
fewer_nodes shape m n is less =
    let a = nodes-512 shape m is in let b = nodes-512 shape n is in
    let small : (m + 512 - 1) / 512 ≤ (n + 512 - 1) / 512 = omega (arith, less) in
    omega (arith, a, b, small)

-- there is space for the put
pub put_room : (v : Opened) (bytes : List ℕ) (rest : Option (List ℕ)) (s : State) → IsRehearsalShape v.shape → HasRecords v [] → HasRehearsalRoom (nodes_for v.shape (length bytes)) s
    → HasPutRoom v (codes "rehearsal") (Some bytes) rest s
put_room v bytes rest s is has room = record {
  sites = record {
    sites = λ f first last.
        let count = is.sites in
        let limit : limit_when v.raised ≡ 65536 = ap limit_when has.raised in
        room.cells.sites f (site_bytes v.shape (limit_when v.raised)) first (omega (arith, last, count)) (rows-short v.shape (limit_when v.raised) is (omega (arith, limit)));
    sync = room.cells.syncs (s.files 0);
  };
  ledger = λ o whole enters intact fits.
      let taken = o.bytes in
      let end = new_end v has in
      let fewer = fewer_nodes v.shape (length taken) (length bytes) is (taken_short bytes taken rest whole.taken) in
      let four : nodes_for v.shape (length taken) * (1 + v.shape.alpha) ≡ nodes_for v.shape (length taken) * 4 = ap (λ (a : ℕ). nodes_for v.shape (length taken) * (1 + a)) is.alpha in
      record {
        room = room.ledger (next_end v.end (length (codes "rehearsal")) (nodes_for v.shape (length taken) * (1 + v.shape.alpha)) + 1) (omega (arith, end, fewer, four));
        now = room.cells.syncs (s.files 0);
        then = λ xs last one two more. room.cells.syncs xs;
      };
}

-- the cell of an intact block whose payload is known
pub record StandsSo (shape : Shape) (b : BlockId) (recorded payload : List ℕ) (c : Files) : Type 0 where
  pub wide : length payload ≡ shape.block
  pub digest : block_digest b payload ≡ recorded
  pub here : HasAtHome shape b (cell_of b payload) c

pub stands_so : CellsHaveLengths → CellsHaveParts → (shape : Shape) (b : BlockId) (recorded payload : List ℕ) (c : Files) → IsIntact shape b recorded c → payload_in shape (home_bytes shape b c) ≡ payload
    → StandsSo shape b recorded payload c
stands_so lengths parts shape b recorded payload c intact is =
    let p = intact.here.payload in
    let long = (lengths b p).2 in
    let whole = length-home shape b c intact.within in
    let same : length (home_bytes shape b c) ≡ length (cell_of b p) = ap length intact.here.cell in
    let wide : length p ≡ shape.block = omega (arith, long, whole, same) in
    let found : payload_in shape (home_bytes shape b c) ≡ p =
    ap (payload_in shape) intact.here.cell ∙ ap (λ (n : ℕ). take n (drop 16 (cell_of b p))) (sym wide) ∙ (parts b p).1 in
    let one : p ≡ payload = sym found ∙ is in
    record {
      wide = ap length (sym one) ∙ wide;
      digest = ap (block_digest b) (sym one) ∙ intact.here.digest;
      here = subst (λ (xs : List ℕ). HasAtHome shape b xs c) (intact.here.cell ∙ ap (cell_of b) one) (at_intact shape b recorded c intact);
    }

-- the blocks of an archive whose survivors are honest, and all intact
pub all_woven : CellsHaveLengths → CellsHaveParts → (v : Opened) (datas : List (List ℕ)) (c : Files) → AreSurvivorsHonest v.shape v.lattice v.digests datas c
    → ((b : BlockId) → HasBlock v.lattice b → IsIntactBy v.shape v.digests c b) → AreWoven v (value_of v.lattice v.shape.block datas) c
all_woven lengths parts v datas c honest intact =
    let each = λ (b : BlockId) (has : HasBlock v.lattice b). stands_so lengths parts v.shape b (recorded_in v.shape v.digests b) (value_of v.lattice v.shape.block datas b) c (intact b has) (honest b has (intact b has)) in
    record {
      recorded = record { wide = λ b has. (each b has).wide; digests = λ b has. (each b has).digest };
      cells = λ b has. (each b has).here;
    }

-- What is there once the object is put.
pub is_built : CellsHaveLengths → CellsHaveParts → NoneRecordNone → (reveals : Type 0) (v w : Opened) (bytes : List ℕ) (rest : Option (List ℕ)) (old new : State) (stored : Stored) → reveals → IsRehearsalShape v.shape → AreItsRecords v [] (old.files 0)
    → HasPut reveals v w (codes "rehearsal") (Some bytes) rest old new stored → IsBuilt bytes w new.files
is_built lengths parts none reveals v w bytes rest old new stored revealed is its put =
    let o = put.0 in
    let whole = put.1 in
    let h = put.2 in
    let r = h.r in
    let has = h.value [] its.has in
    let more = h.records_more revealed [] [] its.has (none v.shape) (lasts_honest v [] old.files its.has) in
    let honest = (h.honest revealed [] [] its.has (none v.shape) (none_honest v [] old.files its.has) (none_plain v old.files its.has)).0 in
    let added = h.added revealed [] its in
    let grown = h.next.grown in
    let start = new_nodes v its.has in
    let nodes : w.lattice.n ≡ nodes_for v.shape (length o.bytes) = (let n = grown.nodes in let count = h.next.count in omega (arith, n, count, start)) in
    let shape = h.same_shape in
    let recorded : AreRecordsOf w.shape (Object r ∷ []) (object_blocks w.shape o.bytes) =
    subst (λ (s : Shape). AreRecordsOf s (Object r ∷ []) (object_blocks s o.bytes)) (sym shape) more.recorded in
    let intact : (b : BlockId) → HasBlock w.lattice b → IsIntactBy w.shape w.digests new.files b = λ b inside.
    subst (λ (s : Shape). IsIntactBy s w.digests new.files b) (sym shape)
    (subst (λ (ds : List (List ℕ)). IsIntactBy v.shape ds new.files b) (sym has.digests)
    (added.blocks b (record {
      after = inside.first;
      most = (let last = inside.last in let n = has.lattice.n in omega (arith, last, n));
      used = (let used = inside.used in let alpha = has.lattice.alpha in let e = ap (λ (s : Shape). s.alpha) shape in omega (arith, used, alpha, e));
    })).intact) in
    let built : IsBuilt o.bytes w new.files = record {
      shape = subst IsRehearsalShape (sym shape) is;
      nodes = nodes ∙ ap (λ (s : Shape). nodes_for s (length o.bytes)) (sym shape);
      stored = r;
      is_stored = record { name = h.next.name_is ∙ whole.name_is; size = h.next.size; digest = h.next.digest };
      has = has;
      ledger = subst (λ (s : Shape). HasLedger s (Object r ∷ []) (new.files 0)) (sym shape) added.ledger;
      recorded = recorded;
      woven = all_woven lengths parts w (object_blocks w.shape o.bytes) new.files (subst (λ (s : Shape). AreSurvivorsHonest w.shape w.lattice w.digests (object_blocks s o.bytes) new.files) (sym shape) honest) intact;
    } in
    subst (λ (xs : List ℕ). IsBuilt xs w new.files) (sym (all_taken bytes o.bytes rest whole.taken whole.end)) built
