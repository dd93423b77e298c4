-- What holds when the calls of a repair end.
use Rattle.std.proofs.Common.{◌≡◌, ◌≢◌, inl, inr, ℕ, List, Bool, Ok, Err, refl, sym, ◌∙◌, ap, subst}
use Rattle.std.specs.Prelude.{IsTrue, ◌↔◌, Result}
use Rattle.std.proofs.lemmas.Bool.{cases_Bool, false≢true}
use Rattle.aea_lattice.specs.declared.blocks.BlockId.{BlockId}
use Rattle.aea_lattice.specs.Blocks.{HasBlock}
use Rattle.aea_lattice.specs.Shapes.{IsBlockOf}
use Rattle.aea_lattice.specs.Data.{Determines}
use Rattle.aea_disk.specs.Files.{Files}
use Rattle.aea_disk.specs.State.{State}
use Rattle.aea_disk.specs.Frames.{OnlyReads}
use Rattle.aea_shelf.specs.Places.{padded_home}
use Rattle.aea_shelf.specs.Facts.{PlainDamageStays, HomesAreOnItsSites}
use Rattle.aea_shelf.proofs.Runs.{padded_kept}
use Rattle.aea_view.specs.Marked.{Marked, is_marked}
use Rattle.aea_records.specs.Format.{Record}
use Rattle.aea_ledger.specs.Recorded.{AreRecordsOf}
use Rattle.aea_ledger.specs.Values.{Opened, HasRecords}
use Rattle.aea_archive.specs.Blocks.{recorded_in, IsIntactBy, RevealsSurvivors}
use Rattle.aea_archive.specs.Data.{AreSurvivorsHonest, AreSomeHonest, IsDamagePlain}
use Rattle.aea_restore.specs.Drawn.{IsClash}
use Rattle.aea_restore.specs.Repairs.{IsLeft, WritesBlocks, IsRepaired, MarksSome}
use Rattle.aea_restore.specs.Repairs as stage
use Rattle.aea_restore.specs.declared.fault.RestoreFault.{RestoreFault}
use Rattle.aea_restore.specs.declared.fault.RestoreFault.TheVariants as of_stage
use Rattle.aea_restore.proofs.Same.{leaves_same}
use Rattle.aea_repair.specs.declared.fault.RepairFault.{RepairFault}
use Rattle.aea_repair.specs.declared.fault.RepairFault.TheVariants.{Clash, DiskFault, WriteFault, NoMemory}
use Rattle.aea_restore.specs.Laws.{IsRestorable}
use Rattle.aea_repair.specs.Repairs.{fault_of, LeavesAt, Leaves, IsWritten, Repairs}
use Rattle.aea_repair.proofs.Survivors.{AreInside, known_determined}
use Rattle.aea_archive.proofs.Writes.{cells_read, read_then_cells, cells_as, cells_less_as}

-- after another fault than the output's not all was written
pub not_written : {T : Type 0} (f : RepairFault) → f ≢ WriteFault → IsWritten {T = T} (Err f) → ⊥
not_written {T} f other written = elim written [
  | inl ok ↦ false≢true ok
  | inr e ↦ other (let h = e in cc)
]

-- the result of a call with this fault
abbrev Failed : (T : Type 0) → RepairFault → Result T RepairFault
Failed T f = Err f

-- two calls with the same fault
pub err_as : {T U : Type 0} {f g : RepairFault} → Failed T f ≡ Failed T g → Failed U f ≡ Failed U g
err_as e = ap Err (let h = e in cc)

-- ---- the faults of the writing stage

pub left_as : (v : Opened) (mends : BlockId → Type 0) (old new : Files) (fault : RestoreFault) → stage.Leaves v mends old new (Err fault) → LeavesAt v mends old new (fault_of fault)
left_as v mends old new (of_stage.Clash b revealed computed) is = is
left_as v mends old new of_stage.DiskFault is = is

pub was_clash : (fault : RestoreFault) (b : BlockId) (revealed computed : List ℕ) → fault_of fault ≡ Clash b revealed computed → fault ≡ of_stage.Clash b revealed computed
was_clash (of_stage.Clash d first second) b revealed computed e = cc
was_clash of_stage.DiskFault b revealed computed e = absurd (let h : DiskFault ≡ Clash b revealed computed = e in cc)

pub was_disk : (fault : RestoreFault) → fault_of fault ≡ DiskFault → fault ≡ of_stage.DiskFault
was_disk (of_stage.Clash d first second) e = absurd (let h : Clash d first second ≡ DiskFault = e in cc)
was_disk of_stage.DiskFault e = refl

pub is_of_stage : (fault : RestoreFault) → (fault_of fault ≢ NoMemory) × (fault_of fault ≢ WriteFault)
is_of_stage (of_stage.Clash d first second) = (λ e. let h : Clash d first second ≡ NoMemory = e in cc, λ e. let h : Clash d first second ≡ WriteFault = e in cc)
is_of_stage of_stage.DiskFault = (λ e. let h : DiskFault ≡ NoMemory = e in cc, λ e. let h : DiskFault ≡ WriteFault = e in cc)

-- ---- the ends of the writing stage

-- where it stopped
pub repairs_failed : {T : Type 0} (reveals : Type 0) (v : Opened) (known : BlockId → Bool) (old new : State) (f : RepairFault) → f ≢ WriteFault
    → LeavesAt v (IsRestorable v.lattice known) old.files new.files f
    → WritesBlocks reveals v (IsLeft (IsRestorable v.lattice known)) (f ≡ DiskFault) old new
    → ((b : BlockId) (revealed computed : List ℕ) → f ≡ Clash b revealed computed → IsRestorable v.lattice known b × IsClash v known old.files b revealed computed)
    → Repairs {T = T} reveals v known old new (Err f)
repairs_failed {T} reveals v known old new f other left alone clash = record {
  restores = record {
    left = left;
    determined = λ written. absurd (not_written {T = T} f other written);
    plain = λ written. absurd (not_written {T = T} f other written);
    honest = λ written. absurd (not_written {T = T} f other written);
    clash = λ b revealed computed e. clash b revealed computed (let h = e in cc);
  };
  alone = cells_as reveals (f ≡ DiskFault) _ v.shape v.lattice.n (IsLeft (IsRestorable v.lattice known)) old new (λ e. (let h = e in cc)) (λ e. cc) alone;
}

-- what is determined is marked in the end
pub all_ready : (v : Opened) (known : BlockId → Bool) (old new : Marked) (given : BlockId → Type 0) → ((b : BlockId) → HasBlock v.lattice b → is_marked old b ≡ known b)
    → ((b : BlockId) → given b ↔ IsRestorable v.lattice known b) → MarksSome v.lattice given old new × ((b : BlockId) → given b → IsTrue (is_marked new b))
    → (b : BlockId) → HasBlock v.lattice b → Determines v.lattice known b → IsTrue (is_marked new b)
all_ready v known old new given same mends marks b has is = elim (cases_Bool (known b)) [
  | inl yes' ↦ marks.0.stay b has (same b has ∙ yes')
  | inr no' ↦ marks.1 b ((mends b).1 (record { block = has; damaged = no'; determined = is }))
]

-- where all is written and synced
pub repairs_done : {T : Type 0} (reveals fault : Type 0) (v : Opened) (known given ready : BlockId → Bool) (old new : State) (x : T) → PlainDamageStays → AreInside v → ((b : BlockId) → HasBlock v.lattice b → IsBlockOf v.shape b)
    → RevealsSurvivors v.shape v.lattice.n v.digests old.files known
    → ((b : BlockId) → IsTrue (given b) ↔ IsRestorable v.lattice known b)
    → IsRepaired v (λ b. IsTrue (given b)) old.files new.files
    → (fault → ⊥) → WritesBlocks reveals v (IsLeft (λ b. IsTrue (given b))) fault old new
    → ((b : BlockId) → HasBlock v.lattice b → Determines v.lattice known b → IsTrue (ready b))
    → ((b : BlockId) → HasBlock v.lattice b → IsTrue (ready b) → IsIntactBy v.shape v.digests new.files b)
    → ((records : List Record) (datas : List (List ℕ)) → HasRecords v records → AreRecordsOf v.shape records datas → AreSurvivorsHonest v.shape v.lattice v.digests datas old.files → AreSomeHonest ready v.shape v.lattice v.digests datas new.files)
    → Repairs {T = T} reveals v known old new (Ok x)
repairs_done {T} reveals fault v known given ready old new x stays inside fits reveal mends repaired fine writes marked intact honest =
    let done = leaves_same (λ b. IsTrue (given b)) (IsRestorable v.lattice known) (λ b. (mends b).0) (λ b. (mends b).1) v old.files new.files (Ok tt) repaired in
    record {
      restores = record {
        left = done;
        determined = λ written b has is. intact b has (marked b has is);
        plain = λ written plain b has is. elim (cases_Bool (given b)) [
          | inl yes' ↦ ((mends b).0 yes').determined
          | inr no' ↦
              known_determined v.lattice known b has
              ((reveal b (inside b has)).1
              (stays v.lattice v.shape (recorded_in v.shape v.digests) old.files new.files plain b has (repaired.grown b (fits b has) (λ one. false≢true (sym no' ∙ one))) is))
        ];
        honest = λ written records datas has are own b here is. honest records datas has are own b here (marked b here is) (intact b here (marked b here is));
        clash = λ b revealed computed e. absurd (let h = e in cc);
      };
      alone = cells_less_as reveals fault _ v.shape v.lattice.n (IsLeft (λ b. IsTrue (given b))) (IsLeft (IsRestorable v.lattice known)) old new (λ a left one. left ((mends a).0 one)) (λ e. absurd (let h = e in cc)) (λ e. absurd (fine e)) writes;
    }

-- ---- what only read, before and without the writing stage

-- the disk failed
pub repairs_broken : {T : Type 0} → HomesAreOnItsSites → (reveals fault : Type 0) (v : Opened) (known : BlockId → Bool) (old new : State) → reveals → fault → OnlyReads reveals fault old new → Repairs {T = T} reveals v known old new (Err DiskFault)
repairs_broken {T} sites reveals fault v known old new revealed is reads =
    repairs_failed {T = T} reveals v known old new DiskFault (λ e. (let h = e in cc))
    (inl (record {
      grown = padded_kept v.shape (IsLeft (IsRestorable v.lattice known)) old.files new.files (reads.contents revealed);
      restored = λ b one. inr (ap (λ (c : Files). padded_home v.shape b c) (reads.contents revealed));
    }))
    (cells_read sites reveals fault (DiskFault ≡ DiskFault) v.shape v.lattice.n (IsLeft (IsRestorable v.lattice known)) old new (λ e. is) (λ e. refl) reads)
    (λ b t k e. absurd (let h = e in cc))

-- memory ran out
pub repairs_unwritten : {T : Type 0} → HomesAreOnItsSites → (reveals fault : Type 0) (v : Opened) (known : BlockId → Bool) (old new : State) → reveals → (fault → ⊥) → OnlyReads reveals fault old new → Repairs {T = T} reveals v known old new (Err NoMemory)
repairs_unwritten {T} sites reveals fault v known old new revealed fine reads =
    repairs_failed {T = T} reveals v known old new NoMemory (λ e. (let h = e in cc)) (reads.contents revealed)
    (cells_read sites reveals fault (NoMemory ≡ DiskFault) v.shape v.lattice.n (IsLeft (IsRestorable v.lattice known)) old new (λ e. absurd (let h = e in cc)) (λ e. absurd (fine e)) reads)
    (λ b t k e. absurd (let h = e in cc))

-- calls that only read, and the writing stage after them
pub repairs_later : {T : Type 0} → HomesAreOnItsSites → (reveals first : Type 0) (v : Opened) (known : BlockId → Bool) (old mid new : State) (result : Result T RepairFault) → reveals → (first → ⊥) → OnlyReads reveals first old mid
    → Repairs reveals v known mid new result → Repairs reveals v known old new result
repairs_later sites reveals first v known old mid new result revealed fine reads late =
    let same : mid.files ≡ old.files = reads.contents revealed in
    record {
      restores = record {
        left = subst (λ (c : Files). Leaves v (IsRestorable v.lattice known) c new.files result) same late.restores.left;
        determined = late.restores.determined;
        plain = λ written plain. late.restores.plain written (subst (IsDamagePlain v.shape v.lattice v.digests) (sym same) plain);
        honest = λ written records datas has are own. late.restores.honest written records datas has are (subst (AreSurvivorsHonest v.shape v.lattice v.digests datas) (sym same) own);
        clash = λ b t k e. let one = late.restores.clash b t k e in (one.0, subst (λ (c : Files). IsClash v known c b t k) same one.1);
      };
      alone = read_then_cells sites reveals first _ v.shape v.lattice.n (IsLeft (IsRestorable v.lattice known)) old mid new fine reads late.alone;
    }

-- ---- other results of what was done

pub repairs_ok : {T U : Type 0} (reveals : Type 0) (v : Opened) (known : BlockId → Bool) (old new : State) (x : T) (y : U) → Repairs reveals v known old new (Ok x) → Repairs {T = U} reveals v known old new (Ok y)
repairs_ok {T} {U} reveals v known old new x y done = record {
  restores = record {
    left = done.restores.left;
    determined = λ written. done.restores.determined (inl refl);
    plain = λ written. done.restores.plain (inl refl);
    honest = λ written. done.restores.honest (inl refl);
    clash = λ b t k e. absurd (let h = e in cc);
  };
  alone = cells_as reveals _ _ v.shape v.lattice.n (IsLeft (IsRestorable v.lattice known)) old new (λ e. absurd (let h = e in cc)) (λ e. absurd (let h = e in cc)) done.alone;
}

pub repairs_unprinted : {T U : Type 0} (reveals : Type 0) (v : Opened) (known : BlockId → Bool) (old new : State) (x : T) → Repairs reveals v known old new (Ok x) → Repairs {T = U} reveals v known old new (Err WriteFault)
repairs_unprinted {T} {U} reveals v known old new x done = record {
  restores = record {
    left = done.restores.left;
    determined = λ written. done.restores.determined (inl refl);
    plain = λ written. done.restores.plain (inl refl);
    honest = λ written. done.restores.honest (inl refl);
    clash = λ b t k e. absurd (let h = e in cc);
  };
  alone = cells_as reveals _ _ v.shape v.lattice.n (IsLeft (IsRestorable v.lattice known)) old new (λ e. absurd (let h = e in cc)) (λ e. absurd (let h = e in cc)) done.alone;
}

pub repairs_err : {T U : Type 0} (reveals : Type 0) (v : Opened) (known : BlockId → Bool) (old new : State) (f : RepairFault) → Repairs {T = T} reveals v known old new (Err f) → Repairs {T = U} reveals v known old new (Err f)
repairs_err {T} {U} reveals v known old new f failed = record {
  restores = record {
    left = failed.restores.left;
    determined = λ written. failed.restores.determined (written_as written);
    plain = λ written. failed.restores.plain (written_as written);
    honest = λ written. failed.restores.honest (written_as written);
    clash = λ b t k e. failed.restores.clash b t k (ap Err (let h = e in cc));
  };
  alone = cells_as reveals _ _ v.shape v.lattice.n (IsLeft (IsRestorable v.lattice known)) old new (λ e. err_as e) (λ e. err_as e) failed.alone;
}
  where
    written_as : IsWritten {T = U} (Err f) → IsWritten {T = T} (Err f)
    written_as written = elim written [
      | inl ok ↦ absurd (false≢true ok)
      | inr e ↦ inr (ap Err (let h = e in cc))
    ]

-- ---- which fault it is

-- a fault that is none of the others is lack of memory
pub only_memory : (f : RepairFault) → f ≢ WriteFault → f ≢ DiskFault → ((b : BlockId) (revealed computed : List ℕ) → f ≢ Clash b revealed computed) → f ≡ NoMemory
only_memory (Clash b revealed computed) output disk clash = absurd (clash b revealed computed refl)
only_memory DiskFault output disk clash = absurd (disk refl)
only_memory WriteFault output disk clash = absurd (output refl)
only_memory NoMemory output disk clash = refl
