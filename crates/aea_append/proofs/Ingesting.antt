-- What is known from the results of a call that takes a frame, and what holds where it wrote nothing.
use Rattle.std.proofs.Common.{◌≡◌, ⊎_elim, inl, inr, refl, ◌∙◌, ℕ, ◌+◌, ◌<◌, ◌≤◌, List, ◌++◌, length, Option, Result, Ok, Err, sym, ap, subst, arith}
use Rattle.std.specs.Io.KnownBytes.{Consumes}
use Rattle.std.proofs.KnownBytes.{Consumes-trans}
use Rattle.aea_faults.specs.Faults.{Rose}
use Rattle.aea_disk.specs.State.{State, IsFixed}
use Rattle.aea_disk.specs.Frames.{OnlyWrites}
use Rattle.aea_disk.proofs.Frames.{writes_none, writes_as}
use Rattle.aea_records.specs.Format.{nodes_for, limit_when}
use Rattle.aea_records.specs.Laws.{RecordsAreFew}
use Rattle.aea_ledger.specs.Values.{Opened, HasSomeRecords}
use Rattle.aea_archive.specs.Blocks.{IsBlockIn}
use Rattle.aea_archive.specs.Cells.{IsBesides, ChangesArchive}
use Rattle.aea_archive.specs.Next.{NewObject}
use Rattle.aea_archive.proofs.Cells.{changes_none}
use Rattle.aea_append.specs.declared.store.Stored.{Stored}
use Rattle.aea_append.specs.declared.ingest.Ingest.{Ingest}
use Rattle.aea_append.specs.declared.ingest.Ingest.TheVariants as frame
use Rattle.aea_append.specs.declared.ingest.IngestFault.{IngestFault}
use Rattle.aea_append.specs.declared.ingest.IngestFault.TheVariants.{BadStream}
use Rattle.aea_append.specs.declared.fault.PutFault.{PutFault}
use Rattle.aea_append.specs.declared.fault.PutFault.TheVariants as put
use Rattle.aea_append.specs.Faults.{ingest_of, as_put}
use Rattle.aea_append.specs.Causes.{IsHeadRefused}
use Rattle.aea_append.specs.Taking.{room_left}
use Rattle.aea_append.specs.Puts.{IsCut, MayHaveStored, LeavesLedger}
use Rattle.aea_append.specs.Frames.{frame_head, IsFramed, IsHeadFault}
use Rattle.aea_append.proofs.Faults.{fault_is}
use Rattle.aea_append.proofs.Rooms.{fits_room, room_fits, less_by}
use Rattle.aea_append.proofs.Leaving.{leaves_ledger}
use Rattle.aea_archive.proofs.Writes.{cells_none}

abbrev err_in : {T : Type 0} → IngestFault → Result T IngestFault → IngestFault
err_in other (Ok x) = other
err_in other (Err e) = e

abbrev ok_in : Ingest → Result Ingest IngestFault → Ingest
ok_in other (Ok x) = x
ok_in other (Err e) = other

abbrev at_in : IngestFault → ℕ
at_in (BadStream n) = n
at_in fault = 0

abbrev text_in : List ℕ → Ingest → List ℕ
text_in other (frame.Stored text stored) = text
text_in other frame.End = other

abbrev stored_in : Stored → Ingest → Stored
stored_in other (frame.Stored text stored) = stored
stored_in other frame.End = other

-- equal results name the same place, and the same object
pub same_at : {T : Type 0} (m n : ℕ) → ◌≡◌ {A = Result T IngestFault} (Err (BadStream m)) (Err (BadStream n)) → m ≡ n
same_at m n e = ap (λ (r : Result _ IngestFault). at_in (err_in (BadStream m) r)) e

pub same_text : (s t : List ℕ) (x y : Stored) → ◌≡◌ {A = Result Ingest IngestFault} (Ok (frame.Stored s x)) (Ok (frame.Stored t y)) → s ≡ t
same_text s t x y e = ap (λ (r : Result Ingest IngestFault). text_in s (ok_in frame.End r)) e

pub same_stored : (s t : List ℕ) (x y : Stored) → ◌≡◌ {A = Result Ingest IngestFault} (Ok (frame.Stored s x)) (Ok (frame.Stored t y)) → x ≡ y
same_stored s t x y e = ap (λ (r : Result Ingest IngestFault). stored_in x (ok_in frame.End r)) e

-- the fault of a frame is that of its put, if it is one
put_back : (f : PutFault) → as_put (ingest_of f) ≡ Ok f
put_back put.BadName = refl
put_back put.NameTaken = refl
put_back put.CatalogFull = refl
put_back (put.HeadDamaged block) = refl
put_back (put.Full nodes) = refl
put_back put.ReadFault = refl
put_back put.DiskFault = refl
put_back put.NoMemory = refl

abbrev put_in : PutFault → Result PutFault ℕ → PutFault
put_in other (Ok f) = f
put_in other (Err at) = other

pub came : {T : Type 0} {x : IngestFault} {f : PutFault} → x ≡ ingest_of f → (g : PutFault) → ◌≡◌ {A = Result T IngestFault} (Err x) (Err (ingest_of g)) → f ≡ g
came {T} {x} {f} from g is =
    let same : x ≡ ingest_of g = ap (err_in x) is in
    ap (put_in f) (sym (put_back f) ∙ ap as_put (sym from ∙ same) ∙ put_back g)

pub went : {T : Type 0} {x : IngestFault} {f g : PutFault} → x ≡ ingest_of f → f ≡ g → ◌≡◌ {A = Result T IngestFault} (Err x) (Err (ingest_of g))
went {T} {x} {f} {g} from is = ap (λ (y : IngestFault). let r : Result T IngestFault = Err y in r) (from ∙ ap ingest_of is)

-- a put does not say that the stream ended
pub never_cut : {T : Type 0} {x : IngestFault} {n : ℕ} (f : PutFault) → x ≡ ingest_of f → ◌≡◌ {A = Result T IngestFault} (Err x) (Err (BadStream n)) → ⊥
never_cut {T} {x} {n} f from is =
    let same : x ≡ BadStream n = ap (err_in x) is in
    let no : (let r : Result PutFault ℕ = Ok f in r ≡ Err n) = sym (put_back f) ∙ ap as_put (sym from ∙ same) in
    cc

-- nor does it hide a damaged last parity
pub head_fault : {T : Type 0} {x : IngestFault} {f : PutFault} → x ≡ ingest_of f → IsHeadRefused {T = T} (Err f) → IsHeadFault {T = T} (Err x)
head_fault {T} {x} {f} from (inl head) = inl (head.0, went from (fault_is f (put.HeadDamaged head.0) head.1))
head_fault {T} {x} {f} from (inr (inl disk)) = inr (inl (went from (fault_is f put.DiskFault disk)))
head_fault {T} {x} {f} from (inr (inr memory)) = inr (inr (went from (fault_is f put.NoMemory memory)))

-- nothing was written
pub nothing_written : (reveals taken fits fault : Type 0) (v : Opened) (s : State) → (fault → ⊥)
    → OnlyWrites reveals taken fits fault (ChangesArchive v.shape (limit_when v.raised) (IsBlockIn v.shape v.lattice.n) (IsBesides v.shape)) s s
nothing_written reveals taken fits fault v s fine =
    writes_as reveals taken fits ⊥ fault (ChangesArchive v.shape (limit_when v.raised) (IsBlockIn v.shape v.lattice.n) (IsBesides v.shape)) s s fine (λ none. absurd none)
    (writes_none reveals taken fits (ChangesArchive v.shape (limit_when v.raised) (IsBlockIn v.shape v.lattice.n) (IsBesides v.shape)) s
    (λ c. changes_none v.shape (limit_when v.raised) (IsBlockIn v.shape v.lattice.n) (IsBesides v.shape) c))

-- so the ledger's file stays
pub leaves_same : (reveals : Type 0) → reveals → (v : Opened) (s : State) → IsFixed s 0 → LeavesLedger s s
leaves_same reveals revealed v s fixed = leaves_ledger reveals ⊥ revealed v s s fixed (cells_none reveals ⊥ v.shape (limit_when v.raised) (IsBlockIn v.shape v.lattice.n) s (λ none. none))

-- what does not fit is more than the space
pub over_room : RecordsAreFew → (v : Opened) (k : ℕ) → HasSomeRecords v → limit_when v.raised < v.lattice.n + nodes_for v.shape k → room_left v < k
over_room law v k some past = less_by (room_left v) k (λ few. (let f = room_fits law v k some few in omega (arith, f, past)))

-- and what is more than the space does not fit
pub over_limit : (v : Opened) (k : ℕ) → room_left v < k → limit_when v.raised < v.lattice.n + nodes_for v.shape k
over_limit v k over = less_by (limit_when v.raised) (v.lattice.n + nodes_for v.shape k) (λ fits. (let f = fits_room v k fits in omega (arith, f, over)))

-- a fact about the object that may be stored is another that follows from it
pub may_as : (v : Opened) (Fits More : NewObject → Type 0) (old new : State) → ((o : NewObject) → Fits o → More o) → MayHaveStored v Fits old new → MayHaveStored v More old new
may_as v Fits More old new so may = record {
  objects = may.objects;
  most = ⊎_elim (λ none. inl none) (λ some. inr (some.0, so some.0 some.1, some.2)) may.most;
  payload = may.payload;
  homes = may.homes;
  lasts_wide = may.lasts_wide;
  bytes = may.bytes;
  added = may.added;
  lattice = may.lattice;
  next = may.next;
  adds = may.adds;
  records_more = may.records_more;
  long = may.long;
}

-- an object after the head of its frame is framed
pub framed_of : (left mid rest : Option (List ℕ)) (name : List ℕ) (size : ℕ) (o : NewObject) → Consumes left mid (frame_head name size) → IsCut name size mid rest o → IsFramed left rest o
framed_of left mid rest name size o head cut =
    let all : Consumes left rest (frame_head name size ++ o.bytes) = Consumes-trans left mid rest (frame_head name size) o.bytes head cut.taken in
    subst (λ (n : List ℕ). Consumes left rest (frame_head n (length o.bytes) ++ o.bytes)) (sym cut.name_is)
    (subst (λ (k : ℕ). Consumes left rest (frame_head name k ++ o.bytes)) (sym cut.long) all)

-- a count that rose since then rose since before it
pub rose_before : (a b c : ℕ) → a ≤ b → Rose b c → Rose a c
rose_before a b c less rose = omega (arith, less, rose)
