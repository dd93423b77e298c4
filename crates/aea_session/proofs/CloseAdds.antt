-- What a close leaves of the disk: its frame, and the ledger in each image.
use Rattle.std.proofs.Common.{◌≡◌, ◌≢◌, inl, inr, ℕ, ◌+◌, ◌*◌, ◌≤◌, max, List, [], ◌∷◌, ◌++◌, length, refl, sym, ◌∙◌, ap, subst, arith}
use Rattle.std.specs.List.{sum_by}
use Rattle.std.proofs.lemmas.List.{append-nil}
use Rattle.sha2.specs.Sha256.{sha256}
use Rattle.aea_lattice.specs.declared.blocks.BlockId.{BlockId}
use Rattle.aea_lattice.specs.declared.shape.Shape.{Shape}
use Rattle.aea_disk.specs.Files.{Files, ChangesOnly}
use Rattle.aea_disk.specs.State.{State, Passes, KeepsImages, IsReady, IsFixed, IsSynced}
use Rattle.aea_disk.specs.Frames.{OnlyWrites}
use Rattle.aea_disk.proofs.Moments.{during_more, during_then_kept}
use Rattle.aea_disk.proofs.Frames.{writes_wider, writes_both, writes_others}
use Rattle.aea_envelope.specs.Facts.{CellsHaveLengths, CellsHaveParts}
use Rattle.aea_shelf.specs.Intact.{payload_at}
use Rattle.aea_shelf.specs.Writes.{KeepsPadded}
use Rattle.aea_shelf.proofs.Runs.{shelf_others, padded_others, padded_both, padded_less, no_home_in_ledger}
use Rattle.aea_weave.specs.Woven.{Woven}
use Rattle.aea_records.specs.Format.{Record, nodes_of, digests_of, raised_limit, body, entry}
use Rattle.aea_records.specs.Laws.{HasOneReading, DigestsAreCounted}
use Rattle.aea_ledger.specs.Values.{HasRecords, HasSomeRecords}
use Rattle.aea_ledger.specs.Next.{AreItsRecords}
use Rattle.aea_ledger.specs.Recorded.{AreRecordsOf}
use Rattle.aea_ledger.specs.Stops.{HasLedger, committed}
use Rattle.aea_ledger.specs.Taking.{FitsAdding}
use Rattle.aea_ledger.proofs.Readying.{ready_same, adding_later}
use Rattle.aea_archive.specs.Blocks.{IsBlockOn, IsBlockIn, IsHeldBy}
use Rattle.aea_archive.specs.Cells.{IsBesides, IsNoSite, ChangesArchive, FitsRows, AreAtHome, WritesCells}
use Rattle.aea_archive.specs.Laws.{PartsRecordMore}
use Rattle.aea_archive.specs.Stretches.{Adds}
use Rattle.aea_archive.proofs.Cells.{changes_both, changes_less, changes_ledger, file_kept}
use Rattle.aea_archive.proofs.Stretches.{has_ledger, adds_later}
use Rattle.aea_machine.specs.Closings.{Closing}
use Rattle.aea_machine.specs.Machine.{Upload, Machine}
use Rattle.aea_append.specs.Puts.{LeavesLedger}
use Rattle.aea_uploads.specs.declared.slot.Slot.{Slot}
use Rattle.aea_uploads.specs.Laws.{ClosedAreNext}
use Rattle.aea_session.specs.declared.work.Work.{Work}
use Rattle.aea_session.specs.Closes.{AddsCloses, HasClosed, HasCloseRoom}
use Rattle.aea_session.proofs.CloseSteps.{the_closing}
use Rattle.aea_session.proofs.CloseWoven.{Readied, more_of}
use Rattle.aea_session.proofs.CloseHomes.{homes_are, digests_are, held_are, wides_are}
use Rattle.aea_session.proofs.CloseRecord.{stored_by, joined_by, joined_is, next_closed, more_recorded, nodes_to, digests_to}
use Rattle.aea_session.proofs.Taking.{adds_none as adds_nothing_more}

-- ---- frames

-- a block of the nodes so far is none of the next node
is_old : (shape : Shape) (n : ℕ) (a : BlockId) → IsBlockIn shape n a → a.node ≢ n + 1
is_old shape n a on same = let most = on.most in omega (arith, most, same)

-- the change that leaves the blocks of the nodes so far
abbrev pub Leaves : Work → Files → Files → Type 0
Leaves v = ChangesArchive v.ledger.shape raised_limit (IsBlockIn v.ledger.shape v.heads.lattice.n) (IsBesides v.ledger.shape)

-- cells of the next node are such a change
leaves_cells : (v : Work) (c d : Files) → ChangesArchive v.ledger.shape raised_limit (λ a. a.node ≢ v.heads.lattice.n + 1) (IsNoSite v.ledger.shape) c d → Leaves v c d
leaves_cells v c d step =
    changes_less v.ledger.shape raised_limit (λ a. a.node ≢ v.heads.lattice.n + 1) (IsBlockIn v.ledger.shape v.heads.lattice.n) (IsNoSite v.ledger.shape) (IsBesides v.ledger.shape) c d
    (is_old v.ledger.shape v.heads.lattice.n) (λ f past. inr past) step

abbrev pub Cells : Type 0 → Type 0 → Work → State → State → Type 0
Cells reveals fault v old mid = WritesCells reveals v.ledger.shape raised_limit (λ a. a.node ≢ v.heads.lattice.n + 1) fault old mid

-- where nothing but these is written
pub cells_wider : (reveals fault : Type 0) (v : Work) (slot : ℕ) (old mid : State) → Cells reveals fault v old mid → OnlyWrites reveals (IsReady old) (HasCloseRoom v slot old) fault (Leaves v) old mid
cells_wider reveals fault v slot old mid writes =
    writes_wider reveals (IsReady old) (FitsRows v.ledger.shape raised_limit old) (IsReady old) (HasCloseRoom v slot old) fault
    (ChangesArchive v.ledger.shape raised_limit (λ a. a.node ≢ v.heads.lattice.n + 1) (IsNoSite v.ledger.shape)) (Leaves v) old mid
    (leaves_cells v) (λ _ is. is) (λ _ room. record { sites = room.sites; sync = room.sync }) writes

-- and where the ledger's file is written after them
pub both_write : (reveals first second : Type 0) (v : Work) (slot end : ℕ) (old mid new : State) → (first → ⊥) → Cells reveals first v old mid
    → OnlyWrites reveals (IsReady mid) (FitsAdding mid 1 end) second (ChangesOnly 0) mid new → (reveals → HasCloseRoom v slot old → FitsAdding old 1 end)
    → OnlyWrites reveals (IsReady old) (HasCloseRoom v slot old) second (Leaves v) old new
both_write reveals first second v slot end old mid new fine cells commit room =
    writes_both reveals (IsReady old) (IsReady old) (IsReady mid) (HasCloseRoom v slot old) (FitsRows v.ledger.shape raised_limit old) (FitsAdding mid 1 end) first second
    (ChangesArchive v.ledger.shape raised_limit (λ a. a.node ≢ v.heads.lattice.n + 1) (IsNoSite v.ledger.shape)) (ChangesOnly 0) (Leaves v) old mid new fine
    (leaves_cells v)
    (λ c d e step only. changes_both v.ledger.shape raised_limit (IsBlockIn v.ledger.shape v.heads.lattice.n) (IsBesides v.ledger.shape) c d e (leaves_cells v c d step)
    (changes_ledger v.ledger.shape raised_limit (IsBlockIn v.ledger.shape v.heads.lattice.n) d e only))
    (λ _ is. is) (λ _ is step goes. ready_same old mid (step.stay 0 (inl refl)) goes is)
    (λ _ has. record { sites = has.sites; sync = has.sync }) (λ revealed has step time. adding_later old mid 1 end (step.stay 0 (inl refl)) time (room revealed has)) cells commit

-- the homes of the blocks so far, with zeros past the ends
pub padded_cells : (v : Work) (old mid : Files) → KeepsPadded v.ledger.shape (λ a. a.node ≢ v.heads.lattice.n + 1) old mid → KeepsPadded v.ledger.shape (IsBlockIn v.ledger.shape v.heads.lattice.n) old mid
padded_cells v old mid padded = padded_less v.ledger.shape (λ a. a.node ≢ v.heads.lattice.n + 1) (IsBlockIn v.ledger.shape v.heads.lattice.n) old mid (is_old v.ledger.shape v.heads.lattice.n) padded

pub padded_commit : (v : Work) (old mid new : Files) → KeepsPadded v.ledger.shape (λ a. a.node ≢ v.heads.lattice.n + 1) old mid → ChangesOnly 0 mid new → KeepsPadded v.ledger.shape (IsBlockIn v.ledger.shape v.heads.lattice.n) old new
padded_commit v old mid new padded only =
    padded_both v.ledger.shape (IsBlockIn v.ledger.shape v.heads.lattice.n) old mid new (padded_cells v old mid padded)
    (padded_others v.ledger.shape (IsBlockIn v.ledger.shape v.heads.lattice.n) 0 mid new (λ a kept. no_home_in_ledger v.ledger.shape a) (λ f other. only f other))

-- ---- the ledger

-- cells leave its file
pub leaves_ledger : (reveals fault : Type 0) → reveals → (v : Work) (old mid : State) → IsFixed old 0 → Cells reveals fault v old mid → LeavesLedger old mid
leaves_ledger reveals fault revealed v old mid fixed writes = record {
  images = file_kept reveals (IsReady old) (FitsRows v.ledger.shape raised_limit old) fault v.ledger.shape raised_limit (λ a. a.node ≢ v.heads.lattice.n + 1) (IsNoSite v.ledger.shape) old mid 0 (inl refl) writes fixed;
  reads = (writes.contents revealed).stay 0 (inl refl);
}

-- and a commit that was not made leaves the images
pub leaves_commit : (reveals first : Type 0) → reveals → (v : Work) (old mid new : State) → IsFixed old 0 → Cells reveals first v old mid → Passes mid new → KeepsImages mid new → new.files ≡ mid.files → LeavesLedger old new
leaves_commit reveals first revealed v old mid new fixed writes time kept same =
    let leaves = leaves_ledger reveals first revealed v old mid fixed writes in
    record {
      images = during_then_kept old mid new (λ d. d 0 ≡ old.files 0) writes.time time kept leaves.images;
      reads = ap (λ (f : Files). f 0) same ∙ leaves.reads;
    }

-- nothing was added
pub adds_none : HasOneReading → (reveals fault : Type 0) → reveals → (v : Work) (m : Machine) (old mid : State) → IsFixed old 0 → Cells reveals fault v old mid → AddsCloses v m [] [] old mid
adds_none one reveals fault revealed v m old mid fixed writes = adds_nothing_more one v m old mid writes.earlier (leaves_ledger reveals fault revealed v old mid fixed writes)

-- its records are those of the file after the cells
its_later : (reveals fault : Type 0) → reveals → (v : Work) (records : List Record) (old mid : State) → Cells reveals fault v old mid → AreItsRecords v.ledger records (old.files 0) → AreItsRecords v.ledger records (mid.files 0)
its_later reveals fault revealed v records old mid cells its = subst (λ (l : List ℕ). AreItsRecords v.ledger records l) (sym ((cells.contents revealed).stay 0 (inl refl))) its

-- a commit after cells that leave the ledger's file adds its record over all
adds_close : HasOneReading → (reveals first second taken fits : Type 0) → reveals → (v : Work) (records : List Record) (r : Record) (payload : BlockId → List ℕ) (old mid new : State) → AreItsRecords v.ledger records (old.files 0) → IsFixed old 0
    → Cells reveals first v old mid → OnlyWrites reveals taken fits second (ChangesOnly 0) mid new
    → Adds v.ledger.shape records (r ∷ []) payload mid new → Adds v.ledger.shape records (r ∷ []) payload old new
adds_close one reveals first second taken fits revealed v records r payload old mid new its fixed cells commit late =
    let leaves = leaves_ledger reveals first revealed v old mid fixed cells in
    let ledger = has_ledger v.ledger records (old.files 0) its in
    adds_later one reveals v.ledger.shape records (r ∷ []) payload old mid new cells.time commit.time cells.earlier
    (during_more old mid (λ c. c 0 ≡ old.files 0) (λ c. HasLedger v.ledger.shape records (c 0)) (λ c same. subst (HasLedger v.ledger.shape records) (sym same) ledger) leaves.images)
    (subst (HasLedger v.ledger.shape records) (sym leaves.reads) ledger)
    (shelf_others reveals v.ledger.shape (IsBlockIn v.ledger.shape (nodes_of records)) 0 mid new (λ a block. no_home_in_ledger v.ledger.shape a) (writes_others reveals taken fits second (ChangesOnly 0) 0 mid new (λ c d step f other. step f other) commit))
    late

-- a close that was made, of what is closed by another name
pub closed_as : (v w : Work) (m : Machine) (one two : List Closing) (old new : State) → two ≡ one → HasClosed v w m one old new → HasClosed v w m two old new
closed_as v w m one two old new same has = subst (λ (closings : List Closing). HasClosed v w m closings old new) (sym same) has

module _ (lengths : CellsHaveLengths) (parts : CellsHaveParts) (one : HasOneReading) (next_law : ClosedAreNext) (more_law : PartsRecordMore) (reveals first second taken fits : Type 0) (revealed : reveals)
    (v : Work) (m : Machine) (u : Upload) (t : Slot) (k : Woven) (es : List (List ℕ)) (old mid new : State) (ready : Readied reveals v m u t k es mid.files)
    (digest : List ℕ) (hashed : digest ≡ sha256 u.bytes) (count : ℕ) (counted : count ≡ length (more_of v.ledger.shape m u))
    (fixed : IsFixed old 0) (cells : Cells reveals first v old mid) (commit : OnlyWrites reveals taken fits second (ChangesOnly 0) mid new)
    (commit_adds : (records : List Record) (payload : BlockId → List ℕ) → AreItsRecords v.ledger records (mid.files 0) → AreAtHome v.ledger.shape v.ledger.lattice.n (v.ledger.lattice.n + count) payload mid.files
    → Adds v.ledger.shape records (joined_by v.ledger t digest count es ∷ []) payload mid new)
    (commit_long : length (new.files 0) ≤ max (length (mid.files 0)) (v.ledger.end + length (entry (joined_by v.ledger t digest count es)) + 1)) where
  abbrev r : Record
  r = joined_by v.ledger t digest count es

  last_is : k.lattice.n ≡ v.ledger.lattice.n + count
  last_is = let n = ready.grown.nodes in omega (arith, n, counted)

  -- the record of the close is the one that is added
  pub adds_closes : AddsCloses v m (the_closing v.ledger.shape m u ∷ []) (r ∷ []) old new
  adds_closes = record {
    payload = payload_at v.ledger.shape mid.files;
    longer = k.lattice;
    are = (
      k.lattice,
      stored_by v.ledger t digest count es,
      joined_is reveals v m u t k es mid.files ready digest hashed count counted,
      next_closed reveals v m u t k es mid.files ready digest hashed count counted (payload_at v.ledger.shape mid.files) (digests_are lengths parts reveals v.ledger.shape v.ledger.lattice.n k.lattice.n es mid.files revealed ready.intact),
      refl,
    );
    wide = wides_are lengths parts reveals v.ledger.shape v.ledger.lattice.n k.lattice.n es mid.files revealed ready.intact;
    adds = λ records its.
        adds_close one reveals first second taken fits revealed v records r (payload_at v.ledger.shape mid.files) old mid new its fixed cells commit
        (commit_adds records (payload_at v.ledger.shape mid.files) (its_later reveals first revealed v records old mid cells its)
        (subst (λ (n : ℕ). AreAtHome v.ledger.shape v.ledger.lattice.n n (payload_at v.ledger.shape mid.files) mid.files) last_is (homes_are lengths parts reveals v.ledger.shape v.ledger.lattice.n k.lattice.n es mid.files revealed ready.intact)));
    more = λ records has recorded woven valid.
        subst (λ (ds : List (List ℕ)). AreRecordsOf v.ledger.shape (records ++ r ∷ []) (m.datas ++ ds)) (sym (append-nil (more_of v.ledger.shape m u)))
        (more_recorded reveals v m u t k es mid.files ready digest hashed count counted next_law more_law records has recorded woven valid);
    long = (let same = ap length ((cells.contents revealed).stay 0 (inl refl)) in
        let sum : sum_by (λ (q : Record). length (entry q)) (r ∷ []) ≡ length (entry r) = omega arith in omega (arith, same, commit_long, sum));
  }

  -- and the close was made
  module _ (w : Work) (counts : DigestsAreCounted) (same : w.ledger.shape ≡ v.ledger.shape) (some : HasSomeRecords v.ledger)
      (value : (records : List Record) → HasRecords v.ledger records → HasRecords w.ledger (records ++ joined_by v.ledger t digest count es ∷ []))
      (appended : (records : List Record) → AreItsRecords v.ledger records (mid.files 0) → HasLedger v.ledger.shape (records ++ joined_by v.ledger t digest count es ∷ []) (new.files 0))
      (exactly : new.files 0 ≡ committed (mid.files 0) v.ledger.end (body (joined_by v.ledger t digest count es) ++ 0 ∷ [])) (synced : IsSynced new) where
    pub has_closed : HasClosed v w m (the_closing v.ledger.shape m u ∷ []) old new
    has_closed = record {
      r = r;
      adds = adds_closes;
      added = λ records its.
          let has = its.has in
          let now = value records has in
          let after_n = nodes_to reveals v m u t k es mid.files ready digest hashed count counted w.ledger same records has now in
          record {
            ledger = appended records (its_later reveals first revealed v records old mid cells its);
            synced = synced;
            blocks = λ b on.
                let here : IsBlockOn v.ledger.shape v.ledger.lattice.n k.lattice.n b = record {
                  after = (let a = on.after in omega (arith, a, has.lattice.n));
                  most = (let o = on.most in omega (arith, o, now.lattice.n, after_n, last_is));
                  used = on.used;
                } in
                let long : length (digests_of records) ≡ v.ledger.lattice.n * (1 + v.ledger.shape.alpha) = counts v.ledger.shape records has.valid ∙ ap (λ (n : ℕ). n * (1 + v.ledger.shape.alpha)) (sym has.lattice.n) in
                subst (λ (ds : List (List ℕ)). IsHeldBy v.ledger.shape ds new b) (sym (digests_to reveals v m u t k es mid.files ready digest hashed count counted w.ledger same records has now))
                (held_are lengths parts reveals v.ledger.shape v.ledger.lattice.n k.lattice.n es mid.files revealed ready.intact (digests_of records) new long (commit.contents revealed) synced b here);
          };
      value = value;
      exactly = exactly ∙ ap (λ (l : List ℕ). committed l v.ledger.end (body r ++ 0 ∷ [])) ((cells.contents revealed).stay 0 (inl refl));
    }
