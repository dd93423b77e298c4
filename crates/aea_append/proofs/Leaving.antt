-- What is left at each end of a call that puts: before the record, and after it.
use Rattle.std.proofs.Common.{◌≡◌, inl, inr, ℕ, List, [], ◌∷◌, ◌++◌, length, take, drop, Option, All, refl, sym, ap, subst, arith}
use Rattle.std.proofs.lemmas.List.{append-nil}
use Rattle.std.proofs.lemmas.List.Elements.{All-cons}
use Rattle.aea_lattice.specs.declared.blocks.BlockId.{BlockId}
use Rattle.aea_lattice.specs.declared.grid.Lattice.{Lattice}
use Rattle.aea_lattice.specs.declared.shape.Shape.{Shape}
use Rattle.aea_disk.specs.Files.{Files, ChangesOnly}
use Rattle.aea_disk.specs.State.{State, IsReady, IsFixed}
use Rattle.aea_disk.specs.Frames.{OnlyWrites}
use Rattle.aea_disk.proofs.Moments.{during_more}
use Rattle.aea_disk.proofs.Frames.{writes_wider, writes_both, writes_others}
use Rattle.aea_envelope.specs.Cells.{cell_of}
use Rattle.aea_shelf.specs.Places.{home_file, home_place}
use Rattle.aea_shelf.specs.Writes.{KeepsPadded}
use Rattle.aea_shelf.proofs.Runs.{shelf_others, padded_others, no_home_in_ledger}
use Rattle.aea_records.specs.Format.{Record, limit_when, nodes_of}
use Rattle.aea_records.specs.Laws.{HasOneReading}
use Rattle.aea_ledger.specs.Taking.{FitsAdding}
use Rattle.aea_ledger.proofs.Readying.{ready_same, adding_later}
use Rattle.aea_ledger.specs.Values.{Opened}
use Rattle.aea_ledger.specs.Next.{AreItsRecords}
use Rattle.aea_ledger.specs.Recorded.{AreRecordsOf}
use Rattle.aea_ledger.specs.Stops.{HasLedger}
use Rattle.aea_archive.specs.Blocks.{IsBlockIn}
use Rattle.aea_archive.specs.Cells.{IsBesides, IsNoSite, ChangesArchive, FitsRows, AreAtHome, WritesCells}
use Rattle.aea_archive.specs.Next.{NewObject}
use Rattle.aea_archive.specs.Data.{RecordsMore}
use Rattle.aea_archive.specs.Stretches.{Adds}
use Rattle.aea_archive.proofs.Cells.{changes_both, changes_less, changes_ledger, file_kept}
use Rattle.aea_archive.proofs.Stretches.{has_ledger, adds_nothing, adds_later}
use Rattle.aea_append.specs.Causes.{HasWantedRoom}
use Rattle.aea_append.specs.Puts.{MayHaveStored, LeavesLedger}
use Rattle.aea_append.specs.Wanted.{KeepsHomes, StoresNone}

-- the blocks of the archive
abbrev pub old_blocks : Opened → BlockId → Type 0
old_blocks v = IsBlockIn v.shape v.lattice.n

-- cells that were written are a change of the archive
pub cells_wider : (reveals fault : Type 0) (v : Opened) (name : List ℕ) (want : Option ℕ) (left rest : Option (List ℕ)) (old new : State) → WritesCells reveals v.shape (limit_when v.raised) (IsBlockIn v.shape v.lattice.n) fault old new
    → OnlyWrites reveals (IsReady old) (HasWantedRoom v name want left rest old) fault (ChangesArchive v.shape (limit_when v.raised) (IsBlockIn v.shape v.lattice.n) (IsBesides v.shape)) old new
cells_wider reveals fault v name want left rest old new writes =
    writes_wider reveals (IsReady old) (FitsRows v.shape (limit_when v.raised) old) (IsReady old) (HasWantedRoom v name want left rest old) fault
    (ChangesArchive v.shape (limit_when v.raised) (IsBlockIn v.shape v.lattice.n) (IsNoSite v.shape)) (ChangesArchive v.shape (limit_when v.raised) (IsBlockIn v.shape v.lattice.n) (IsBesides v.shape)) old new
    (λ c d step. changes_less v.shape (limit_when v.raised) (IsBlockIn v.shape v.lattice.n) (IsBlockIn v.shape v.lattice.n) (IsNoSite v.shape) (IsBesides v.shape) c d (λ a kept. kept) (λ f past. inr past) step) (λ _ is. is)
    (λ _ room. room.sites) writes

-- the ledger's file stays
pub leaves_ledger : (reveals fault : Type 0) → reveals → (v : Opened) (old new : State) → IsFixed old 0 → WritesCells reveals v.shape (limit_when v.raised) (IsBlockIn v.shape v.lattice.n) fault old new → LeavesLedger old new
leaves_ledger reveals fault revealed v old new fixed writes = record {
  images = file_kept reveals (IsReady old) (FitsRows v.shape (limit_when v.raised) old) fault v.shape (limit_when v.raised) (IsBlockIn v.shape v.lattice.n) (IsNoSite v.shape) old new 0 (inl refl) writes fixed;
  reads = (writes.contents revealed).stay 0 (inl refl);
}

-- so nothing was stored
pub stores_none : (reveals fault : Type 0) (v : Opened) (old new : State) → (reveals → IsFixed old 0) → WritesCells reveals v.shape (limit_when v.raised) (IsBlockIn v.shape v.lattice.n) fault old new → KeepsHomes reveals v old new → StoresNone reveals v v old new
stores_none reveals fault v old new fixed writes padded = record { same = refl; leaves = λ revealed. leaves_ledger reveals fault revealed v old new (fixed revealed) writes; padded = padded }

-- no object more records no data more
none_more : (shape : Shape) (records : List Record) (datas : List (List ℕ)) (l : Lattice) (payload : BlockId → List ℕ) → AreRecordsOf shape records datas → RecordsMore shape records [] datas [] l l payload
none_more shape records datas l payload old = record {
  recorded = subst (λ (ds : List (List ℕ)). AreRecordsOf shape (records ++ []) ds) (sym (append-nil datas)) (subst (λ (rs : List Record). AreRecordsOf shape rs datas) (sym (append-nil records)) old);
  values = λ b on. absurd (let a = on.after in let m = on.most in omega (arith, a, m));
}

-- a fact of all of one object
pub one_of : (P : NewObject → Type 0) (o : NewObject) → P o → All P (o ∷ [])
one_of P o is = All-cons P o [] is (λ k d inside. absurd (omega (arith, inside)))

-- nothing was stored
pub stopped_before : HasOneReading → (reveals fault : Type 0) → reveals → (v : Opened) (Fits : NewObject → Type 0) (old new : State) → IsFixed old 0 → WritesCells reveals v.shape (limit_when v.raised) (IsBlockIn v.shape v.lattice.n) fault old new → MayHaveStored v Fits old new
stopped_before one reveals fault revealed v Fits old new fixed writes =
    let leaves = leaves_ledger reveals fault revealed v old new fixed writes in
    record {
      objects = [];
      most = inl refl;
      payload = λ b. [];
      homes = λ some. absurd (some refl);
      lasts_wide = λ some. absurd (some refl);
      bytes = λ k d inside. absurd (omega (arith, inside));
      added = [];
      lattice = v.lattice;
      next = refl;
      adds = λ records its.
          let ledger = has_ledger v records (old.files 0) its in
          adds_nothing one v.shape records [] (λ b. []) old new writes.earlier
          (during_more old new (λ c. c 0 ≡ old.files 0) (λ c. HasLedger v.shape records (c 0)) (λ c same. subst (HasLedger v.shape records) (sym same) ledger) leaves.images)
          (subst (HasLedger v.shape records) (sym leaves.reads) ledger);
      records_more = λ records datas has valid recorded honest. none_more v.shape records datas v.lattice (λ b. []) recorded;
      long = (let same = ap length leaves.reads in omega (arith, same));
    }

-- ---- a commit after the cells

-- cells that are written, and then the ledger's file alone, are a change of the archive that leaves its old blocks
-- and the files besides it, where the space of a put includes that of the ledger's write
pub both_write : (reveals first second : Type 0) (v : Opened) (name : List ℕ) (want : Option ℕ) (left rest : Option (List ℕ)) (end : ℕ) (old mid new : State) → (first → ⊥)
    → WritesCells reveals v.shape (limit_when v.raised) (IsBlockIn v.shape v.lattice.n) first old mid
    → OnlyWrites reveals (IsReady mid) (FitsAdding mid 1 end) second (ChangesOnly 0) mid new → (reveals → HasWantedRoom v name want left rest old → FitsAdding old 1 end)
    → OnlyWrites reveals (IsReady old) (HasWantedRoom v name want left rest old) second (ChangesArchive v.shape (limit_when v.raised) (IsBlockIn v.shape v.lattice.n) (IsBesides v.shape)) old new
both_write reveals first second v name want left rest end old mid new fine cells commit room =
    writes_both reveals (IsReady old) (IsReady old) (IsReady mid) (HasWantedRoom v name want left rest old) (FitsRows v.shape (limit_when v.raised) old) (FitsAdding mid 1 end) first second
    (ChangesArchive v.shape (limit_when v.raised) (IsBlockIn v.shape v.lattice.n) (IsNoSite v.shape)) (ChangesOnly 0) (ChangesArchive v.shape (limit_when v.raised) (IsBlockIn v.shape v.lattice.n) (IsBesides v.shape)) old mid new fine
    (λ c d step. changes_less v.shape (limit_when v.raised) (IsBlockIn v.shape v.lattice.n) (IsBlockIn v.shape v.lattice.n) (IsNoSite v.shape) (IsBesides v.shape) c d (λ a kept. kept) (λ f past. inr past) step)
    (λ c d e step only. changes_both v.shape (limit_when v.raised) (IsBlockIn v.shape v.lattice.n) (IsBesides v.shape) c d e
    (changes_less v.shape (limit_when v.raised) (IsBlockIn v.shape v.lattice.n) (IsBlockIn v.shape v.lattice.n) (IsNoSite v.shape) (IsBesides v.shape) c d (λ a kept. kept) (λ f past. inr past) step)
    (changes_ledger v.shape (limit_when v.raised) (IsBlockIn v.shape v.lattice.n) d e only))
    (λ _ is. is) (λ _ is step goes. ready_same old mid (step.stay 0 (inl refl)) goes is)
    (λ _ has. has.sites) (λ revealed has step time. adding_later old mid 1 end (step.stay 0 (inl refl)) time (room revealed has)) cells commit

-- where the disk's contents are known, and nothing was pending on the ledger's file, calls that write cells and then add a record
-- by a change of that file alone add it over all
pub adds_put : HasOneReading → (reveals first second taken fits : Type 0) → reveals → (v : Opened) (records : List Record) (r : Record) (payload : BlockId → List ℕ) (old mid new : State) → AreItsRecords v records (old.files 0) → IsFixed old 0
    → WritesCells reveals v.shape (limit_when v.raised) (IsBlockIn v.shape v.lattice.n) first old mid → OnlyWrites reveals taken fits second (ChangesOnly 0) mid new
    → Adds v.shape records (r ∷ []) payload mid new → Adds v.shape records (r ∷ []) payload old new
adds_put one reveals first second taken fits revealed v records r payload old mid new its fixed cells commit late =
    let leaves = leaves_ledger reveals first revealed v old mid fixed cells in
    let ledger = has_ledger v records (old.files 0) its in
    adds_later one reveals v.shape records (r ∷ []) payload old mid new cells.time commit.time cells.earlier
    (during_more old mid (λ c. c 0 ≡ old.files 0) (λ c. HasLedger v.shape records (c 0)) (λ c same. subst (HasLedger v.shape records) (sym same) ledger) leaves.images)
    (subst (HasLedger v.shape records) (sym leaves.reads) ledger)
    (shelf_others reveals v.shape (IsBlockIn v.shape (nodes_of records)) 0 mid new (λ a block. no_home_in_ledger v.shape a) (writes_others reveals taken fits second (ChangesOnly 0) 0 mid new (λ c d step f other. step f other) commit))
    late

-- the records of the ledger are those of its file after the cells
pub its_later : (reveals fault : Type 0) → reveals → (v : Opened) (records : List Record) (old mid : State) → WritesCells reveals v.shape (limit_when v.raised) (IsBlockIn v.shape v.lattice.n) fault old mid → AreItsRecords v records (old.files 0) → AreItsRecords v records (mid.files 0)
its_later reveals fault revealed v records old mid cells its = subst (λ (l : List ℕ). AreItsRecords v records l) (sym ((cells.contents revealed).stay 0 (inl refl))) its

-- cells stay after a commit
pub cells_stay : (shape : Shape) (before last : ℕ) (payload : BlockId → List ℕ) (mid new : Files) → ChangesOnly 0 mid new → AreAtHome shape before last payload mid → AreAtHome shape before last payload new
cells_stay shape before last payload mid new only cells b on =
    subst (λ (l : List ℕ). take (length (cell_of b (payload b))) (drop (home_place shape b) l) ≡ cell_of b (payload b)) (sym (only (home_file shape b) (no_home_in_ledger shape b))) (cells b on)

-- a change of the ledger's file alone leaves each home of the archive as it reads with zeros past the end
pub padded_commit : (v : Opened) (mid new : Files) → ChangesOnly 0 mid new → KeepsPadded v.shape (IsBlockIn v.shape v.lattice.n) mid new
padded_commit v mid new only = padded_others v.shape (IsBlockIn v.shape v.lattice.n) 0 mid new (λ a kept. no_home_in_ledger v.shape a) (λ f other. only f other)
