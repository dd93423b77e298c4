-- What a session that is begun keeps, and what it stands for.
use Rattle.std.proofs.Common.{◌≡◌, ◌⊎◌, inl, inr, ℕ, ◌+◌, ◌-◌, ◌*◌, ◌≤◌, Bool, true, List, [], ◌++◌, length, Option, None, Ok, Err, Result, refl, sym, ◌∙◌, ap, subst, arith}
use Rattle.std.specs.Prelude.{slice_index_or, replicate}
use Rattle.std.specs.FinMap.{len}
use Rattle.std.proofs.lemmas.Bool.{cases_lt}
use Rattle.std.proofs.lemmas.List.{append-nil, get_or-replicate, get_or_past, length-replicate}
use Rattle.std.proofs.lemmas.List.Elements.{All-replicate}
use Rattle.aea_lattice.specs.declared.blocks.BlockId.{BlockId}
use Rattle.aea_lattice.specs.declared.grid.Lattice.{Lattice}
use Rattle.aea_lattice.specs.declared.shape.Shape.{Shape}
use Rattle.aea_lattice.specs.Data.{IsDataList}
use Rattle.aea_lattice.specs.Growth.{IsGrown}
use Rattle.aea_disk.specs.Files.{Files}
use Rattle.aea_shelf.specs.Places.{cell_size}
use Rattle.aea_records.specs.Format.{Record, limit_when, greatest_objects, raised_limit, stored_of}
use Rattle.aea_records.specs.Laws.{ObjectsAreCounted, RecordsAreFew}
use Rattle.aea_ledger.specs.Values.{Opened, HasRecords, HasSomeRecords, IsThisOne}
use Rattle.aea_ledger.specs.Recorded.{AreRecordsOf}
use Rattle.aea_archive.specs.Blocks.{IsBlockOn}
use Rattle.aea_archive.specs.Lasts.{AreLastsHonest}
use Rattle.aea_catalog.specs.Catalogs.{Objects}
use Rattle.aea_weave.specs.Woven.{Woven}
use Rattle.aea_machine.specs.Machine.{Upload, begun, in_slot, slots_count}
use Rattle.aea_machine.specs.Sound.{NoneHaveNames}
use Rattle.aea_append.specs.Weaving.{IsWovenOf, AreIntactOn}
use Rattle.aea_uploads.specs.declared.slot.Slot.{Slot}
use Rattle.aea_uploads.specs.Laws.{AreWide}
use Rattle.aea_append.specs.declared.heads.HeadFault.{HeadFault}
use Rattle.aea_append.specs.declared.heads.HeadFault.TheVariants as loading
use Rattle.aea_session.specs.declared.begin.BeginFault.{BeginFault}
use Rattle.aea_session.specs.declared.begin.BeginFault.TheVariants.{HeadDamaged}
use Rattle.aea_session.specs.declared.work.Work.{Work}
use Rattle.aea_session.specs.Stands.{IsKept, KeepsMachine, StandsFor, IsTheSessions}

-- ---- the limits of an archive

-- an opened ledger has no more objects than there may be (as the lemma of this name of aea_ledger)
pub few_objects : (v : Opened) → ObjectsAreCounted → RecordsAreFew → HasSomeRecords v → len v.objects ≤ greatest_objects
few_objects v counted few has =
    let number : len v.objects ≡ length (stored_of has.0) = ap len has.1.objects ∙ counted v.shape has.0 has.1.valid in
    omega (arith, number, (few v.shape has.0 has.1.valid).objects)

-- ---- free slots

-- a slot of the machine that is begun is free
begun_slot : (datas : List (List ℕ)) (objects : Objects) (slot : ℕ) → in_slot (begun datas objects) slot ≡ None
begun_slot datas objects slot = elim (cases_lt slot slots_count) [
  | inl before ↦ get_or-replicate slots_count slot None None before
  | inr past ↦ get_or_past (replicate slots_count None) slot None past
]

-- nothing is kept in slots that are free
frees_kept : (shape : Shape) (datas : List (List ℕ)) (o : Option Slot) (p : Option Upload) → o ≡ None → p ≡ None → IsKept shape datas o p
frees_kept shape datas o p free none = subst (λ (a : Option Slot). IsKept shape datas a p) (sym free) (subst (λ (b : Option Upload). IsKept shape datas None b) (sym none) tt)

-- ---- what it keeps

-- no digest for each of no blocks
no_digests : (k : ℕ) → 0 ≡ 0 * k
no_digests k = omega arith

no_more : (n k : ℕ) → 0 ≡ (n - n) * k
no_more n k = let none : n - n ≡ 0 = omega arith in no_digests k ∙ sym (ap (λ (j : ℕ). j * k) none)

-- a lattice is grown by no node
grown_none : (l m : Lattice) → m ≡ l → IsGrown l (l.n + 0) m
grown_none l m is = subst (IsGrown l (l.n + 0)) (sym is) (record { shape = record { alpha = refl; s = refl; p = refl }; nodes = omega arith; fences = refl })

-- A session that has the heads after an archive's nodes, no digest, a buffer for a cell and free slots keeps the machine in which
-- nothing was woven, with each data list of so many nodes.
pub begins_keeping : NoneHaveNames → (w : Work) (datas : List (List ℕ)) → w.ledger.raised ≡ true → len w.ledger.objects ≤ greatest_objects → w.ledger.lattice.n ≤ limit_when w.ledger.raised
    → w.heads.lattice ≡ w.ledger.lattice → w.heads.size ≡ w.ledger.shape.block → w.digests.items ≡ [] → length w.cell.items ≡ cell_size w.ledger.shape
    → length w.slots ≡ slots_count → ((slot : ℕ) → slice_index_or w.slots slot None ≡ None)
    → length datas ≡ w.ledger.lattice.n → AreWide w.ledger.shape datas → KeepsMachine w (begun datas w.ledger.objects)
begins_keeping names w datas raised few most lattice size none cell many free long wide =
    let under : w.ledger.lattice.n ≤ raised_limit = subst (λ (b : Bool). w.ledger.lattice.n ≤ limit_when b) raised most in
    let within : length datas + 0 ≤ raised_limit = omega (arith, long, under) in
    record {
      objects = refl;
      raised = raised;
      datas = long;
      grown = grown_none w.ledger.lattice w.heads.lattice lattice;
      size = size;
      wide = subst (AreWide w.ledger.shape) (sym (append-nil datas)) wide;
      digests = ap length none ∙ no_digests (1 + w.ledger.shape.alpha);
      cell = cell;
      many = many;
      count = length-replicate {A = Option Upload} slots_count None;
      slots = λ slot. frees_kept w.ledger.shape (datas ++ []) (slice_index_or w.slots slot None) (in_slot (begun datas w.ledger.objects) slot) (free slot) (begun_slot datas w.ledger.objects slot);
      names = names datas w.ledger.objects;
      limits = record { nodes = within; objects = few };
    }

-- ---- what it stands for

-- a data list that a ledger records is one for its lattice
pub data_of_records : (v : Opened) (records : List Record) (datas : List (List ℕ)) → HasRecords v records → AreRecordsOf v.shape records datas → IsDataList v.lattice v.shape.block datas
data_of_records v records datas has are = record {
  some_bytes = are.is_data.some_bytes;
  long = are.is_data.long ∙ are.is_lattice.n ∙ sym has.lattice.n;
  each = are.is_data.each;
}

-- It stands for this list where the ledger records it and the last parities are honest for it.
pub begins_standing : (reveals : Type 0) (w : Work) (files : Files) → w.digests.items ≡ []
    → (reveals → (datas : List (List ℕ)) → IsDataList w.ledger.lattice w.ledger.shape.block datas → AreLastsHonest w.ledger.shape w.ledger.lattice w.ledger.digests datas files
    → IsWovenOf w.ledger.shape w.ledger.lattice w.heads datas [] [])
    → reveals → (records : List Record) (datas : List (List ℕ)) → HasRecords w.ledger records → AreRecordsOf w.ledger.shape records datas
    → AreLastsHonest w.ledger.shape w.ledger.lattice w.ledger.digests datas files → StandsFor w (begun datas w.ledger.objects)
begins_standing reveals w files none values revealed records datas has are honest = record {
  records = records;
  has = has;
  recorded = are;
  woven = subst (IsWovenOf w.ledger.shape w.ledger.lattice w.heads datas []) (sym none) (values revealed datas (data_of_records w.ledger records datas has are) honest);
}

-- ---- whose disk it is

-- no block is on nodes of which there are none
none_on : (shape : Shape) (n : ℕ) (b : BlockId) → IsBlockOn shape n n b → ⊥
none_on shape n b on = omega (arith, on.after, on.most)

-- A disk that has its ledger is its own, since no block was woven.
pub begins_its_own : (w : Work) (old new : Files) → w.heads.lattice ≡ w.ledger.lattice → w.digests.items ≡ [] → new ≡ old → IsThisOne w.ledger (old 0) → IsTheSessions w new
begins_its_own w old new lattice none same this = record {
  ledger = subst (λ (c : Files). IsThisOne w.ledger (c 0)) (sym same) this;
  cells =
      subst (λ (l : Lattice). AreIntactOn (Unit {0}) w.ledger.shape w.ledger.lattice.n l.n w.digests.items new) (sym lattice)
      (record { long = ap length none ∙ no_more w.ledger.lattice.n (1 + w.ledger.shape.alpha); each = λ revealed b on. absurd (none_on w.ledger.shape w.ledger.lattice.n b on) });
}

-- ---- why it is not begun

abbrev block_in : {T : Type 0} → BlockId → Result T BeginFault → BlockId
block_in d (Err (HeadDamaged b)) = b
block_in d r = d

-- faults of a damaged last parity that are the same name the same block
pub same_block : {T : Type 0} (x y : BlockId) → ◌≡◌ {A = Result T BeginFault} (Err (HeadDamaged x)) (Err (HeadDamaged y)) → x ≡ y
same_block x y e = ap (block_in x) e

-- heads that were loaded are not refused
pub not_refused : (r : Result Woven HeadFault) (heads : Woven) → r ≡ Ok heads → ((b : BlockId) × (r ≡ Err (loading.HeadDamaged b))) ⊎ ((r ≡ Err loading.DiskFault) ⊎ (r ≡ Err loading.NoMemory)) → ⊥
not_refused r heads is (inl named) = let e = sym is ∙ named.1 in cc
not_refused r heads is (inr (inl failed)) = let e = sym is ∙ failed in cc
not_refused r heads is (inr (inr none)) = let e = sym is ∙ none in cc

abbrev fault_in : HeadFault → Result Woven HeadFault → HeadFault
fault_in d (Ok heads) = d
fault_in d (Err fault) = fault

-- a fault that is two is one
pub one_fault : (r : Result Woven HeadFault) (fault x y : HeadFault) → r ≡ Err fault → fault ≡ x → r ≡ Err y → x ≡ y
one_fault r fault x y is one other = sym one ∙ ap (fault_in fault) (sym is ∙ other)

-- ---- some data list

-- so many blocks of zeros
abbrev pub zeros : Shape → ℕ → List (List ℕ)
zeros shape n = replicate n (replicate shape.block 0)

pub zeros_long : (shape : Shape) (n : ℕ) → length (zeros shape n) ≡ n
zeros_long shape n = length-replicate n (replicate shape.block 0)

pub zeros_wide : (shape : Shape) (n : ℕ) → AreWide shape (zeros shape n)
zeros_wide shape n = All-replicate (λ (d : List ℕ). length d ≡ shape.block) n (replicate shape.block 0) (length-replicate shape.block 0)
