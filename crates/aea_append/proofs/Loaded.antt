-- Heads that a call loaded, or why it did not.
use Rattle.std.proofs.Common.{◌≡◌, ◌⊎◌, inl, inr, ℕ, List, [], Result, Ok, Err, IsOk, OnOk, refl}
use Rattle.std.specs.Prelude.{IfOk}
use Rattle.aea_faults.specs.Faults.{Rose}
use Rattle.aea_lattice.specs.declared.blocks.BlockId.{BlockId}
use Rattle.aea_lattice.specs.Data.{IsDataList}
use Rattle.aea_disk.specs.Files.{Files}
use Rattle.aea_disk.specs.State.{State}
use Rattle.aea_disk.specs.Frames.{OnlyReads}
use Rattle.aea_weave.specs.Woven.{Woven}
use Rattle.aea_weave.specs.Sums.{LastParitiesAreSums}
use Rattle.aea_ledger.specs.Values.{Opened}
use Rattle.aea_archive.specs.Lasts.{IsLastParity, IsDamagedLast, IsFirstDamagedLast, AreLastsIntact, AreLastsHonest}
use Rattle.aea_archive.specs.Laws.{LastsAreValues}
use Rattle.aea_append.specs.declared.heads.HeadFault.{HeadFault}
use Rattle.aea_append.specs.declared.heads.HeadFault.TheVariants.{HeadDamaged, DiskFault, NoMemory}
use Rattle.aea_append.specs.Weaving.{HasWoven, IsWovenOf}
use Rattle.aea_append.proofs.Space.{none_damaged}
use Rattle.aea_append.proofs.Starts.{sums_start}

-- of each data list for which the last parities are honest, the loaded heads are the strand sums
pub loaded_values : LastsAreValues → LastParitiesAreSums → (reveals : Type 0) (v : Opened) (first files : Files) (r : Result Woven HeadFault)
    → IfOk r (λ heads. heads.lattice ≡ v.lattice) → IfOk r (λ heads. heads.size ≡ v.shape.block)
    → IfOk r (λ heads. HasWoven reveals v.shape v.lattice v.digests first files heads [] [])
    → IfOk r (λ heads. reveals → (datas : List (List ℕ)) → IsDataList v.lattice v.shape.block datas → AreLastsHonest v.shape v.lattice v.digests datas first → IsWovenOf v.shape v.lattice heads datas [] [])
loaded_values values are reveals v first files (Ok heads) lattice size has = λ revealed datas is honest. sums_start values are reveals revealed v heads first files datas lattice size is honest has
loaded_values values are reveals v first files (Err fault) lattice size has = tt

-- where a last parity is damaged, one is named, but for a fault of the disk and lack of memory
pub damaged_named : {T : Type 0} (reveals : Type 0) (v : Opened) (s : State) (r : Result T HeadFault) → OnOk r (reveals → AreLastsIntact v.shape v.lattice v.digests s.files)
    → reveals → (a : BlockId) → IsDamagedLast v.shape v.lattice v.digests s.files a
    → ((b : BlockId) × (r ≡ Err (HeadDamaged b))) ⊎ ((r ≡ Err DiskFault) ⊎ (r ≡ Err NoMemory))
damaged_named reveals v s (Ok heads) intact revealed a damaged = absurd (none_damaged v s (intact revealed) a damaged)
damaged_named reveals v s (Err (HeadDamaged b)) intact revealed a damaged = inl (b, refl)
damaged_named reveals v s (Err DiskFault) intact revealed a damaged = inr (inl refl)
damaged_named reveals v s (Err NoMemory) intact revealed a damaged = inr (inr refl)

-- where all are intact and no count rose, the heads are loaded, but for lack of memory
pub heads_come : {T : Type 0} (reveals : Type 0) (v : Opened) (old new : State) (r : Result T HeadFault)
    → ((b : BlockId) → r ≡ Err (HeadDamaged b) → IsLastParity v.lattice b × (reveals → IsFirstDamagedLast v.shape v.lattice v.digests old.files b))
    → OnlyReads reveals (r ≡ Err DiskFault) old new
    → reveals → AreLastsIntact v.shape v.lattice v.digests old.files → (Rose old.faults new.faults → ⊥) → IsOk r ⊎ (r ≡ Err NoMemory)
heads_come reveals v old new (Ok heads) head reads revealed intact still = inl refl
heads_come reveals v old new (Err (HeadDamaged b)) head reads revealed intact still = absurd (none_damaged v old intact b (((head b refl).1 revealed).damaged))
heads_come reveals v old new (Err DiskFault) head reads revealed intact still = absurd (still (reads.cause refl))
heads_come reveals v old new (Err NoMemory) head reads revealed intact still = inr refl
