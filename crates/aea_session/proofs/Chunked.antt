-- A chunk: what the machine makes of it, and what a session keeps after it.
use Rattle.std.proofs.Common.{◌≡◌, ℕ, ◌+◌, ◌-◌, ◌*◌, ◌/◌, ◌^◌, ◌<◌, ◌≤◌, Bool, true, false, List, [], ◌∷◌, ◌++◌, length, take, get_or, Option, None, Some, Result, Ok, Err, refl, sym, ◌∙◌, ap, subst, arith, length-append, append_assoc}
use Rattle.std.specs.Prelude.{slice_index_or, nat_le, if◌then◌else◌}
use Rattle.std.specs.List.{flat_map}
use native.Mathlib.Nat.{add-mul}
use Rattle.std.proofs.Math.Nat.{mul-le-mul_right, lt-div-mul-add}
use Rattle.std.proofs.lemmas.Bool.{leb-true, le-leb, lt-leb}
use Rattle.std.proofs.lemmas.Bool.Decides.{nat_tests}
use Rattle.std.proofs.lemmas.List.{length-set, length-take, get_or_read}
use Rattle.std.proofs.lemmas.List.Elements.{All-append}
use Rattle.aea_lattice.specs.declared.shape.Shape.{Shape}
use Rattle.aea_disk.specs.Files.{Files}
use Rattle.aea_records.specs.Format.{raised_limit, limit_when}
use Rattle.aea_ledger.specs.Values.{Opened, IsThisOne}
use Rattle.aea_messages.specs.declared.message.Message.TheVariants.{Chunk}
use Rattle.aea_machine.specs.Machine.{Upload, Machine, Step, Made, Full, BadSlot, SlotFree, stays, step, in_slot, with_slot, weave, slots_count, is_no_slot, has_room, nodes_now, nodes_of_blocks, filled_by, chunk_in}
use Rattle.aea_machine.specs.Holding.{blocks_at}
use Rattle.aea_machine.specs.Sound.{HaveOwnNames, IsWithinLimits, NamesStayOwn, LimitsStay}
use Rattle.aea_uploads.specs.declared.slot.Slot.{Slot}
use Rattle.aea_uploads.specs.Gathering.{with_bytes}
use Rattle.aea_uploads.specs.Laws.{AreWide, KeepsMore, FilledAreTheMachines, FilledAreCounted}
use Rattle.aea_uploads.specs.Slots.{Rise, Keeps, KeepsSome}
use Rattle.aea_session.specs.declared.work.Work.{Work}
use Rattle.aea_session.specs.Chunks.{TakesChunk, AddsChunk}
use Rattle.aea_session.specs.Stands.{IsKept, KeepsMachine, StandsFor, IsTheSessions}
use Rattle.aea_session.specs.Steps.{Steps, made_by}
use Rattle.aea_session.proofs.Slotted.{kept_more, kept_set, slot_within, slot_counted, machine_has}

-- ---- faults that are passed on

-- the fault of a result, or another one
abbrev err_in : {T E : Type 0} → E → Result T E → E
err_in other (Ok x) = other
err_in other (Err e) = e

-- faults of equal results are equal
pub fault_is : {T E : Type 0} (x y : E) → ◌≡◌ {A = Result T E} (Err x) (Err y) → x ≡ y
fault_is x y e = ap (err_in x) e

-- and so they are in results of another kind
pub fault_as : {T U E : Type 0} (x y : E) → ◌≡◌ {A = Result T E} (Err x) (Err y) → ◌≡◌ {A = Result U E} (Err x) (Err y)
fault_as {T} {U} {E} x y e = ap (λ (f : E). Err f) (fault_is x y e)

-- ---- numbers

-- so many nodes, and those that the bytes fill, hold all of the bytes
pub room_for : (n block have count limit : ℕ) → 1 ≤ block → n + (have + count) / block ≤ limit → n * block + have + count < (limit + 1) * block
room_for n block have count limit some fits =
    let rest : have + count < (have + count) / block * block + block = lt-div-mul-add {a = have + count} {b = block} some in
    let sum : (n + (have + count) / block) * block ≡ n * block + (have + count) / block * block = add-mul n ((have + count) / block) block in
    let most : (n + (have + count) / block) * block ≤ limit * block = mul-le-mul_right block fits in
    let one : (limit + 1) * block ≡ limit * block + 1 * block = add-mul limit 1 block in
    let single : 1 * block ≡ block = omega arith in
    omega (arith, rest, sum, most, one, single)

-- a block of an archive has at most 65,536 bytes
pub block_most : (shape : Shape) → shape.block ≤ 65536
block_most shape = let h = shape.in_profile in grind (arith, nat_tests)

-- blocks at nodes that rise have no more bytes than all
rise-short : (shape : Shape) (datas : List (List ℕ)) (after : ℕ) (nodes : List ℕ) → AreWide shape datas → after ≤ length datas → Rise after (length datas) nodes
    → length (flat_map (λ d. d) (blocks_at nodes datas)) ≤ (length datas - after) * shape.block
rise-short shape datas after [] wide within rise = omega arith
rise-short shape datas after (i ∷ nodes) wide within rise =
    let a = rise.0 in
    let m = rise.1 in
    let head : length (get_or datas (i - 1) []) ≡ shape.block = wide (i - 1) [] (omega (arith, a, m)) in
    let tail : length (flat_map (λ (d : List ℕ). d) (blocks_at nodes datas)) ≤ (length datas - i) * shape.block = rise-short shape datas i nodes wide m rise.2 in
    let sum : (length datas - i + 1) * shape.block ≡ (length datas - i) * shape.block + 1 * shape.block = add-mul (length datas - i) 1 shape.block in
    let single : 1 * shape.block ≡ shape.block = omega arith in
    let most : (length datas - i + 1) * shape.block ≤ (length datas - after) * shape.block = mul-le-mul_right shape.block (let e : length datas - i + 1 ≤ length datas - after = omega (arith, a, m) in e) in
    let joined = length-append (get_or datas (i - 1) []) (flat_map (λ (d : List ℕ). d) (blocks_at nodes datas)) in
    omega (arith, joined, head, tail, sum, single, most)

-- an upload has no more bytes than the nodes and its rest
bytes-short : (shape : Shape) (datas : List (List ℕ)) (s : Slot) (u : Upload) → AreWide shape datas → Keeps shape datas s u → length u.bytes ≤ length datas * shape.block + s.have
bytes-short shape datas s u wide k =
    let all = rise-short shape datas 0 u.nodes wide (omega arith) k.rise in
    let none : (length datas - 0) * shape.block ≡ length datas * shape.block = ap (λ (n : ℕ). n * shape.block) (let e : length datas - 0 ≡ length datas = omega arith in e) in
    let rest : length (take s.have s.block.items) ≤ s.have = omega (arith, length-take s.have s.block.items) in
    let are : length u.bytes ≡ length (flat_map (λ (d : List ℕ). d) (blocks_at u.nodes datas)) + length (take s.have s.block.items) =
    ap length k.are ∙ length-append (flat_map (λ (d : List ℕ). d) (blocks_at u.nodes datas)) (take s.have s.block.items) in
    omega (arith, all, none, rest, are)

-- and with the bytes of a chunk that fits it has few
pub length-small : (shape : Shape) (datas : List (List ℕ)) (s : Slot) (u : Upload) (count : ℕ) → AreWide shape datas → Keeps shape datas s u
    → length datas * shape.block + s.have + count < (raised_limit + 1) * shape.block → s.length + count < 2 ^ 64
length-small shape datas s u count wide k fits =
    let all = bytes-short shape datas s u wide k in
    let long = k.long in
    let block = block_most shape in
    omega (arith, all, long, block, fits)

-- ---- what the session keeps of the state

-- nothing, and not the upload that is there
abbrev IsFree : Option Upload → Type 0
IsFree None = Unit {0}
IsFree (Some u) = ⊥

pub nothing_there : (u : Upload) → (let none : Option Upload = None in none ≡ Some u) → ⊥
nothing_there u e = absurd (subst (λ (o : Option Upload). IsFree o) e tt)

-- X and W together have as many blocks as the heads have nodes
pub nodes_are : (v : Work) (m : Machine) → KeepsMachine v m → v.heads.lattice.n ≡ nodes_now m
nodes_are v m keeps = let n = keeps.grown.nodes in let d = keeps.datas in omega (arith, n, d)

pub datas_are : (v : Work) (m : Machine) → KeepsMachine v m → length (m.datas ++ m.woven) ≡ v.heads.lattice.n
datas_are v m keeps = length-append m.datas m.woven ∙ sym (nodes_are v m keeps)

-- the Slot keeps the upload that the machine has
pub slot_keeps : (v : Work) (m : Machine) (slot : ℕ) (s : Slot) (u : Upload) → KeepsMachine v m → slice_index_or v.slots slot None ≡ Some s → in_slot m slot ≡ Some u → Keeps v.ledger.shape (m.datas ++ m.woven) s u
slot_keeps v m slot s u keeps was there =
    subst (λ (p : Option Upload). IsKept v.ledger.shape (m.datas ++ m.woven) (Some s) p) there
    (subst (λ (o : Option Slot). IsKept v.ledger.shape (m.datas ++ m.woven) o (in_slot m slot)) was (keeps.slots slot))

-- it keeps some upload
pub keeps_some : (v : Work) (m : Machine) (slot : ℕ) (s : Slot) (u : Upload) → KeepsMachine v m → Keeps v.ledger.shape (m.datas ++ m.woven) s u → KeepsSome v.ledger.shape v.heads.lattice.n s
keeps_some v m slot s u keeps kept = record {
  datas = m.datas ++ m.woven;
  many = datas_are v m keeps;
  wide = keeps.wide;
  upload = u;
  keeps = kept;
}

-- the nodes, with those that the chunk fills, are within the limit
pub chunk_fits : FilledAreCounted → (v : Work) (m : Machine) (slot : ℕ) (s : Slot) (bytes : List ℕ) → KeepsMachine v m → (t : TakesChunk v.ledger.shape m slot bytes)
    → Keeps v.ledger.shape (m.datas ++ m.woven) s t.upload → v.heads.lattice.n + (s.have + length bytes) / v.ledger.shape.block ≤ raised_limit
chunk_fits counted v m slot s bytes keeps t kept =
    let some = leb-true (nodes_now m + length (filled_by v.ledger.shape t.upload bytes)) raised_limit t.fits in
    let count = (counted v.ledger.shape (m.datas ++ m.woven) s t.upload bytes keeps.wide kept).0 in
    let nodes = nodes_are v m keeps in
    omega (arith, some, count, nodes)

-- ---- what the machine decides

-- the step by what is tested
slot_step : (shape : Shape) (m : Machine) (slot : ℕ) (bytes : List ℕ) (b : Bool) (o : Option Upload) → is_no_slot slot ≡ b → in_slot m slot ≡ o
    → step shape m (Chunk slot bytes) ≡ (if b then stays m BadSlot else chunk_in shape m slot bytes o)
slot_step shape m slot bytes b o is there =
    ap (λ (a : Bool). if a then stays m BadSlot else chunk_in shape m slot bytes (in_slot m slot)) is
    ∙ ap (λ (p : Option Upload). if b then stays m BadSlot else chunk_in shape m slot bytes p) there

-- there is no such slot
pub decided_bad : (shape : Shape) (m : Machine) (slot : ℕ) (bytes : List ℕ) → slots_count ≤ slot → step shape m (Chunk slot bytes) ≡ stays m BadSlot
decided_bad shape m slot bytes past = slot_step shape m slot bytes true (in_slot m slot) (le-leb slots_count slot past) refl

-- it is free
pub decided_free : (shape : Shape) (m : Machine) (slot : ℕ) (bytes : List ℕ) → slot < slots_count → in_slot m slot ≡ None → step shape m (Chunk slot bytes) ≡ stays m SlotFree
decided_free shape m slot bytes inside there = slot_step shape m slot bytes false None (lt-leb slots_count slot inside) there

-- the state after a chunk that fills these blocks
abbrev pub with_chunk : Machine → ℕ → Upload → List ℕ → List (List ℕ) → Machine
with_chunk m slot u bytes filled = with_slot (weave m filled) slot (Some (record { name = u.name; bytes = u.bytes ++ bytes; nodes = u.nodes ++ nodes_of_blocks m filled }))

-- the step of an upload that has room, or not
upload_step : (shape : Shape) (m : Machine) (slot : ℕ) (bytes : List ℕ) (u : Upload) (b : Bool) → slot < slots_count → in_slot m slot ≡ Some u → has_room m (length (filled_by shape u bytes)) ≡ b
    → step shape m (Chunk slot bytes) ≡ (if b then record { state = with_chunk m slot u bytes (filled_by shape u bytes); answer = Made } else stays m (Full (nodes_now m)))
upload_step shape m slot bytes u b inside there is =
    slot_step shape m slot bytes false (Some u) (lt-leb slots_count slot inside) there
    ∙ ap (λ (a : Bool). if a then record { state = with_chunk m slot u bytes (filled_by shape u bytes); answer = Made } else stays m (Full (nodes_now m))) is

-- there is no node left
pub decided_full : (shape : Shape) (m : Machine) (slot : ℕ) (bytes : List ℕ) (u : Upload) → slot < slots_count → in_slot m slot ≡ Some u → has_room m (length (filled_by shape u bytes)) ≡ false
    → step shape m (Chunk slot bytes) ≡ stays m (Full (nodes_now m))
decided_full shape m slot bytes u inside there is = upload_step shape m slot bytes u false inside there is

-- it is taken
decided_taken : (shape : Shape) (m : Machine) (slot : ℕ) (bytes : List ℕ) (filled : List (List ℕ)) (t : TakesChunk shape m slot bytes) → filled ≡ filled_by shape t.upload bytes
    → step shape m (Chunk slot bytes) ≡ record { state = with_chunk m slot t.upload bytes filled; answer = Made }
decided_taken shape m slot bytes filled t are =
    upload_step shape m slot bytes t.upload true t.inside t.there t.fits
    ∙ ap (λ (l : List (List ℕ)). record { state = with_chunk m slot t.upload bytes l; answer = Made }) (sym are)

-- ---- what a session reads of it

-- what is read of a slot
pub slot_read : (xs : List (Option Slot)) (slot place : ℕ) (o : Option Slot) (s : Slot) → place ≡ slot → place < length xs → o ≡ get_or xs place o → o ≡ Some s → slice_index_or xs slot None ≡ Some s
slot_read xs slot place o s same within is some =
    ap (λ (k : ℕ). get_or xs k None) (sym same) ∙ sym (get_or_read xs place o within is None) ∙ some

pub slot_none : (xs : List (Option Slot)) (slot place : ℕ) (o : Option Slot) → place ≡ slot → place < length xs → o ≡ get_or xs place o → o ≡ None → slice_index_or xs slot None ≡ None
slot_none xs slot place o same within is none =
    ap (λ (k : ℕ). get_or xs k None) (sym same) ∙ sym (get_or_read xs place o within is None) ∙ none

-- whether there is room, by numbers that are read
room_is : FilledAreCounted → (v : Work) (m : Machine) (s : Slot) (bytes : List ℕ) (u : Upload) (nodes limit size : ℕ) (b : Bool) → KeepsMachine v m → Keeps v.ledger.shape (m.datas ++ m.woven) s u
    → nodes ≡ v.heads.lattice.n → limit ≡ limit_when v.ledger.raised → size ≡ v.ledger.shape.block → nat_le (nodes + (s.have + length bytes) / size) limit ≡ b
    → has_room m (length (filled_by v.ledger.shape u bytes)) ≡ b
room_is counted v m s bytes u nodes limit size b keeps kept nodes_is limit_is size_is is =
    ap (λ (k : ℕ). nat_le (nodes_now m + k) raised_limit) (counted v.ledger.shape (m.datas ++ m.woven) s u bytes keeps.wide kept).0
    ∙ ap (λ (k : ℕ). nat_le (k + (s.have + length bytes) / v.ledger.shape.block) raised_limit) (sym (nodes_is ∙ nodes_are v m keeps))
    ∙ ap (λ (k : ℕ). nat_le (nodes + (s.have + length bytes) / k) raised_limit) (sym size_is)
    ∙ ap (λ (k : ℕ). nat_le (nodes + (s.have + length bytes) / size) k) (sym (limit_is ∙ ap limit_when keeps.raised))
    ∙ is

pub decided_room : FilledAreCounted → (v : Work) (m : Machine) (slot : ℕ) (s : Slot) (bytes : List ℕ) (nodes limit size : ℕ) → KeepsMachine v m → slot < slots_count → slice_index_or v.slots slot None ≡ Some s
    → nodes ≡ v.heads.lattice.n → limit ≡ limit_when v.ledger.raised → size ≡ v.ledger.shape.block → nat_le (nodes + (s.have + length bytes) / size) limit ≡ true
    → TakesChunk v.ledger.shape m slot bytes
decided_room counted v m slot s bytes nodes limit size keeps inside was nodes_is limit_is size_is is =
    let has = machine_has v m slot s keeps was in
    record {
      upload = has.upload;
      inside = inside;
      there = has.is;
      fits = room_is counted v m s bytes has.upload nodes limit size true keeps has.keeps nodes_is limit_is size_is is;
    }

pub decided_over : FilledAreCounted → (v : Work) (m : Machine) (slot : ℕ) (s : Slot) (bytes : List ℕ) (nodes limit size : ℕ) → KeepsMachine v m → slot < slots_count → slice_index_or v.slots slot None ≡ Some s
    → nodes ≡ v.heads.lattice.n → limit ≡ limit_when v.ledger.raised → size ≡ v.ledger.shape.block → nat_le (nodes + (s.have + length bytes) / size) limit ≡ false
    → step v.ledger.shape m (Chunk slot bytes) ≡ stays m (Full nodes)
decided_over counted v m slot s bytes nodes limit size keeps inside was nodes_is limit_is size_is is =
    let has = machine_has v m slot s keeps was in
    decided_full v.ledger.shape m slot bytes has.upload inside has.is (room_is counted v m s bytes has.upload nodes limit size false keeps has.keeps nodes_is limit_is size_is is)
    ∙ ap (λ (k : ℕ). stays m (Full k)) (sym (nodes_is ∙ nodes_are v m keeps))

-- ---- the step of the session

module _ (reveals : Type 0) (v w : Work) (m : Machine) (slot : ℕ) (bytes : List ℕ) (old new : Files) (keeps : KeepsMachine v m) (t : TakesChunk v.ledger.shape m slot bytes) (a : AddsChunk reveals v w slot bytes old new) where
  abbrev shape : Shape
  shape = v.ledger.shape

  abbrev datas : List (List ℕ)
  datas = m.datas ++ m.woven

  abbrev filled : List (List ℕ)
  filled = a.gathers.filled

  abbrev after : Machine
  after = with_chunk m slot t.upload bytes filled

  -- all blocks, as the state after it has them
  assoc : datas ++ filled ≡ m.datas ++ (m.woven ++ filled)
  assoc = append_assoc m.datas m.woven filled

  kept : Keeps shape datas a.before t.upload
  kept = slot_keeps v m slot a.before t.upload keeps a.was t.there

  -- what the slot keeps after it
  kept_now : Keeps shape (datas ++ filled) a.after (with_bytes t.upload bytes v.heads.lattice.n (length filled))
  kept_now = a.gathers.keeps datas t.upload (datas_are v m keeps) kept

  wide_now : AreWide shape (m.datas ++ (m.woven ++ filled))
  wide_now = subst (AreWide shape) assoc (All-append (λ (d : List ℕ). length d ≡ shape.block) datas filled keeps.wide a.gathers.wide)

  -- the blocks are those of the machine
  filled_is : FilledAreTheMachines → filled ≡ filled_by shape t.upload bytes
  filled_is law =
      law shape datas filled a.before a.after t.upload bytes keeps.wide a.gathers.wide kept
      (subst (λ (n : ℕ). Keeps shape (datas ++ filled) a.after (with_bytes t.upload bytes n (length filled))) (sym (datas_are v m keeps)) kept_now)

  taken : FilledAreTheMachines → step shape m (Chunk slot bytes) ≡ record { state = after; answer = Made }
  taken law = decided_taken shape m slot bytes filled t (filled_is law)

  -- what the slot keeps is the machine's upload
  one : IsKept shape (m.datas ++ (m.woven ++ filled)) (Some a.after) (Some (record { name = t.upload.name; bytes = t.upload.bytes ++ bytes; nodes = t.upload.nodes ++ nodes_of_blocks m filled }))
  one =
      subst (λ (d : List (List ℕ)). Keeps shape d a.after (record { name = t.upload.name; bytes = t.upload.bytes ++ bytes; nodes = t.upload.nodes ++ nodes_of_blocks m filled })) assoc
      (subst (λ (n : ℕ). Keeps shape (datas ++ filled) a.after (with_bytes t.upload bytes n (length filled))) (nodes_are v m keeps) kept_now)

  -- and each other one keeps its own
  each : KeepsMore → (k : ℕ) → IsKept shape (m.datas ++ (m.woven ++ filled)) (slice_index_or w.slots k None) (in_slot after k)
  each law k =
      subst (λ (xs : List (Option Slot)). IsKept shape (m.datas ++ (m.woven ++ filled)) (slice_index_or xs k None) (in_slot after k)) (sym a.slots)
      (kept_set shape (m.datas ++ (m.woven ++ filled)) v.slots m.slots slot (Some a.after) (Some (record { name = t.upload.name; bytes = t.upload.bytes ++ bytes; nodes = t.upload.nodes ++ nodes_of_blocks m filled }))
      (slot_within v m slot keeps t.inside) (slot_counted v m slot keeps t.inside)
      (λ (j : ℕ). subst (λ (d : List (List ℕ)). IsKept shape d (slice_index_or v.slots j None) (in_slot m j)) assoc (kept_more law shape datas filled (slice_index_or v.slots j None) (in_slot m j) (keeps.slots j)))
      one k)

  digests_now : length w.digests.items ≡ length (m.woven ++ filled) * (1 + shape.alpha)
  digests_now =
      let more : w.heads.lattice.n - v.heads.lattice.n ≡ length filled = (let n = a.gathers.grown.nodes in omega (arith, n)) in
      a.counted
      ∙ ap (λ (n : ℕ). length v.digests.items + n * (1 + shape.alpha)) more
      ∙ ap (λ (n : ℕ). n + length filled * (1 + shape.alpha)) keeps.digests
      ∙ sym (ap (λ (n : ℕ). n * (1 + shape.alpha)) (length-append m.woven filled) ∙ add-mul (length m.woven) (length filled) (1 + shape.alpha))

  -- the session keeps the state after it
  keeps_now : NamesStayOwn → LimitsStay → FilledAreTheMachines → KeepsMore → KeepsMachine (record w { ledger = v.ledger }) after
  keeps_now own within machine more = record {
    objects = keeps.objects;
    raised = keeps.raised;
    datas = keeps.datas;
    grown = record {
      shape = record {
        alpha = a.gathers.grown.shape.alpha ∙ keeps.grown.shape.alpha;
        s = a.gathers.grown.shape.s ∙ keeps.grown.shape.s;
        p = a.gathers.grown.shape.p ∙ keeps.grown.shape.p;
      };
      nodes = (let n = a.gathers.grown.nodes in let k = keeps.grown.nodes in omega (arith, n, k, length-append m.woven filled));
      fences = a.gathers.grown.fences ∙ keeps.grown.fences;
    };
    size = a.gathers.size ∙ keeps.size;
    wide = wide_now;
    digests = digests_now;
    cell = a.cell ∙ keeps.cell;
    many = ap length a.slots ∙ length-set v.slots slot (Some a.after) ∙ keeps.many;
    count = length-set m.slots slot _ ∙ keeps.count;
    slots = each more;
    names = subst (λ (s : Step). HaveOwnNames s.state) (taken machine) (own shape m (Chunk slot bytes) keeps.count keeps.names);
    limits = subst (λ (s : Step). IsWithinLimits s.state) (taken machine) (within shape m (Chunk slot bytes) keeps.limits);
  }

  -- and stands for it
  stands_now : StandsFor v m → StandsFor (record w { ledger = v.ledger }) after
  stands_now stands = record {
    records = stands.records;
    has = stands.has;
    recorded = stands.recorded;
    woven = a.gathers.values v.ledger.lattice m.datas m.woven stands.woven;
  }

  -- the session's ledger is the one that it had
  with_ledger : w.ledger ≡ v.ledger → (let x : Work = record w { ledger = v.ledger } in x) ≡ w
  with_ledger same = ap (λ (l : Opened). record w { ledger = l }) (sym same)

  pub chunk_steps : NamesStayOwn → LimitsStay → FilledAreTheMachines → KeepsMore → w.ledger ≡ v.ledger → Steps made_by v w m (Chunk slot bytes) (Ok tt)
  chunk_steps own within machine more same = record {
    answer = ap (λ (s : Step). s.answer) (taken machine);
    keeps = subst (λ (s : Step). KeepsMachine w s.state) (sym (taken machine)) (subst (λ (x : Work). KeepsMachine x after) (with_ledger same) (keeps_now own within machine more));
    stands = λ stands. subst (λ (s : Step). StandsFor w s.state) (sym (taken machine)) (subst (λ (x : Work). StandsFor x after) (with_ledger same) (stands_now stands));
    shape = ap (λ (l : Opened). l.shape) same;
  }

-- ---- the disk

-- it is the session's after a chunk that left the ledger's file
pub chunk_this : (reveals : Type 0) (v w : Work) (slot : ℕ) (bytes : List ℕ) (old new : Files) → AddsChunk reveals v w slot bytes old new → w.ledger ≡ v.ledger → v.ledger.lattice.n ≤ v.heads.lattice.n → reveals
    → new 0 ≡ old 0 → IsTheSessions v old → IsTheSessions w new
chunk_this reveals v w slot bytes old new a same before revealed file this =
    let intact = a.gathers.intact v.ledger.lattice.n before (record { long = this.cells.long; each = λ _ b on. this.cells.each tt b on }) in
    subst (λ (x : Work). IsTheSessions x new) (let e : (let x : Work = record w { ledger = v.ledger } in x) ≡ w = ap (λ (l : Opened). record w { ledger = l }) (sym same) in e)
    (record {
      ledger = subst (IsThisOne v.ledger) (sym file) this.ledger;
      cells = record { long = intact.long; each = λ _ b on. intact.each revealed b on };
    })
