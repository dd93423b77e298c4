-- What `fence` does, by where it ends.
pub mod Running
use Rattle.std.proofs.Common.{◌≡◌, ◌≢◌, ◌⊎◌, ◌↔◌, inl, inr, ℕ, ◌+◌, ◌<◌, ◌≤◌, List, length, refl, sym, ◌∙◌, ap, subst, arith, Result, Ok, Err}
use Rattle.std.proofs.lemmas.Bool.{cases_lt}
use Rattle.aea_lattice.specs.declared.shape.Shape.{Shape}
use Rattle.aea_lattice.specs.Fences.{greatest_fences, last_fence}
use Rattle.aea_lattice.specs.Facts.{BlocksAreInside}
use Rattle.aea_lattice.proofs.Parted.{last_fence-within, fences_few}
use Rattle.aea_disk.specs.State.{State, IsReady}
use Rattle.aea_disk.specs.Files.{ChangesOnly}
use Rattle.aea_disk.specs.Frames.{OnlyWrites}
use Rattle.aea_disk.proofs.Frames.{writes_as}
use Rattle.aea_records.specs.Format.{Record, Fence, nodes_of, fences_of, entry, spelled}
use Rattle.aea_records.specs.Grammar.{IsNext, IsLedger}
use Rattle.aea_records.specs.Laws.{IsSomeLedger, HasOneReading, FencesMayFollow, RecordsAreFew}
use Rattle.aea_ledger.specs.declared.fences.FenceFault.{FenceFault}
use Rattle.aea_ledger.specs.declared.fences.FenceFault.TheVariants as fencing
use Rattle.aea_ledger.specs.Committing.{LeavesOldOrNew, HasCommitted}
use Rattle.aea_ledger.specs.Stops.{HasLedger}
use Rattle.aea_ledger.specs.Taking.{FitsAdding}
use Rattle.aea_ledger.specs.Values.{Opened, HasRecords, IsThisOne}
use Rattle.aea_command.specs.declared.refusal.Refusal.{Refusal}
use Rattle.aea_command.specs.declared.refusal.Refusal.TheVariants.{NoArchive, LedgerBad, AlreadyFenced, TooManyFences, Occupied}
use Rattle.aea_command.specs.declared.refusal.Failure.{Failure}
use Rattle.aea_command.specs.declared.refusal.Failure.TheVariants as failure
use Rattle.aea_command_store.specs.Adding.{AddsRecord, KeepsTheRest}
use Rattle.aea_command.specs.Causes.{place_of, IsFirst, Refuses}
use Rattle.aea_command.specs.Failures.{fence_failure}
use Rattle.aea_command_store.specs.Fence.{next_fence, IsFencedAtEnd, HasAllFences, FenceCauses}
use Rattle.aea_command.specs.Openings.{OpeningCauses, Opens}
use Rattle.aea_command_store.proofs.Adding.{IsCommitting, adds_read, adds_failed, adds_done, rest_behind, rest_committed}
use Rattle.aea_command.proofs.Behind.{AreBehindOpening, some_ledger, opened_no_opening}
use Rattle.aea_ledger.proofs.Recording.{fence_records}
use Rattle.aea_command.proofs.Refusing.{refuses_none, refuses_one, refuses_stopped}

from_opening : (bytes : List ℕ) (why : Refusal) → OpeningCauses bytes why → FenceCauses bytes why
from_opening bytes NoArchive cause = cause
from_opening bytes (LedgerBad at) cause = cause
from_opening bytes why cause = absurd cause

back_to_opening : (bytes : List ℕ) (why : Refusal) → FenceCauses bytes why → OpeningCauses bytes why ⊎ (IsSomeLedger bytes × (place_of Occupied ≤ place_of why))
back_to_opening bytes NoArchive cause = inl cause
back_to_opening bytes (LedgerBad at) cause = inl cause
back_to_opening bytes (AlreadyFenced nodes) cause = inr (some_ledger bytes cause.shape cause.records cause.ledger, omega arith)
back_to_opening bytes TooManyFences cause = inr (some_ledger bytes cause.shape cause.records cause.ledger, omega arith)
back_to_opening bytes why cause = absurd cause

-- the causes of `fence` come after the opening
pub fence_behind : (bytes : List ℕ) → AreBehindOpening bytes (FenceCauses bytes)
fence_behind bytes = record { from = from_opening bytes; back = back_to_opening bytes }

-- a fence is after the last node of the opened ledger, or it has no node
abbrev pub StandsFenced : Opened → Type 0
StandsFenced v = last_fence v.lattice.fences ≡ v.lattice.n

-- what the bytes say of fences, the opened ledger says
fenced_as : HasOneReading → (bytes : List ℕ) (v : Opened) (nodes : ℕ) → IsThisOne v bytes → IsFencedAtEnd bytes nodes → (nodes ≡ v.lattice.n) × StandsFenced v
fenced_as reading bytes v nodes one cause =
    let same = (reading bytes v.shape cause.shape one.records cause.records v.end (length (spelled cause.shape cause.records)) one.ledger cause.ledger).1.0 in
    let counted : nodes ≡ v.lattice.n = cause.counted ∙ ap nodes_of (sym same) ∙ sym one.has.lattice.n in
    let fences : v.lattice.fences ≡ fences_of cause.records = one.has.lattice.fences_are ∙ ap fences_of same in (
      counted,
      elim cause.fenced [
        | inl none ↦ let most = last_fence-within v.lattice.n v.lattice.fences v.lattice.fenced in omega arith
        | inr last ↦ ap last_fence fences ∙ last ∙ counted
      ],
    )

all_fences_as : HasOneReading → (bytes : List ℕ) (v : Opened) → IsThisOne v bytes → HasAllFences bytes → length v.lattice.fences ≡ greatest_fences
all_fences_as reading bytes v one cause =
    let same = (reading bytes v.shape cause.shape one.records cause.records v.end (length (spelled cause.shape cause.records)) one.ledger cause.ledger).1.0 in
    ap length (one.has.lattice.fences_are ∙ ap fences_of same) ∙ cause.many

-- and what the opened ledger says, they say
is_fenced : (bytes : List ℕ) (v : Opened) (nodes : ℕ) → IsThisOne v bytes → nodes ≡ v.lattice.n → StandsFenced v → IsFencedAtEnd bytes nodes
is_fenced bytes v nodes one counted stands = record {
  shape = v.shape;
  records = one.records;
  ledger = subst (λ (n : ℕ). IsLedger bytes v.shape one.records n) one.has.end one.ledger;
  counted = counted ∙ one.has.lattice.n;
  fenced = inr (ap last_fence (sym one.has.lattice.fences_are) ∙ stands ∙ sym counted);
}

has_all_fences : (bytes : List ℕ) (v : Opened) → IsThisOne v bytes → length v.lattice.fences ≡ greatest_fences → HasAllFences bytes
has_all_fences bytes v one many = record {
  shape = v.shape;
  records = one.records;
  ledger = subst (λ (n : ℕ). IsLedger bytes v.shape one.records n) one.has.end one.ledger;
  many = ap length (sym one.has.lattice.fences_are) ∙ many;
}

-- how the answers after the opening show why
before_fenced : (reveals : Type 0) (old mid : State) (v : Opened) → Opens reveals old mid (Ok v) → reveals → (nodes : ℕ) (other : Refusal) → place_of other < place_of (AlreadyFenced nodes) → FenceCauses (old.files 0) other → ⊥
before_fenced reveals old mid v opens revealed nodes NoArchive before cause = opened_no_opening reveals old mid v opens revealed NoArchive cause
before_fenced reveals old mid v opens revealed nodes (LedgerBad at) before cause = opened_no_opening reveals old mid v opens revealed (LedgerBad at) cause
before_fenced reveals old mid v opens revealed nodes (AlreadyFenced k) before cause = omega arith
before_fenced reveals old mid v opens revealed nodes TooManyFences before cause = omega arith
before_fenced reveals old mid v opens revealed nodes why before cause = cause

one_fenced : HasOneReading → (reveals : Type 0) (old mid : State) (v : Opened) (nodes : ℕ) → Opens reveals old mid (Ok v) → nodes ≡ v.lattice.n → StandsFenced v → reveals → (why : Refusal) → IsFirst (FenceCauses (old.files 0)) why → why ≡ AlreadyFenced nodes
one_fenced reading reveals old mid v nodes opens counted stands revealed NoArchive first = absurd (opened_no_opening reveals old mid v opens revealed NoArchive first.stands)
one_fenced reading reveals old mid v nodes opens counted stands revealed (LedgerBad at) first = absurd (opened_no_opening reveals old mid v opens revealed (LedgerBad at) first.stands)
one_fenced reading reveals old mid v nodes opens counted stands revealed (AlreadyFenced k) first =
    ap AlreadyFenced ((fenced_as reading (old.files 0) v k (opens.this_one revealed) first.stands).0 ∙ sym counted)
one_fenced reading reveals old mid v nodes opens counted stands revealed TooManyFences first =
    absurd (first.none (AlreadyFenced nodes) (omega arith) (is_fenced (old.files 0) v nodes (opens.this_one revealed) counted stands))
one_fenced reading reveals old mid v nodes opens counted stands revealed why first = absurd first.stands

before_many : HasOneReading → (reveals : Type 0) (old mid : State) (v : Opened) → Opens reveals old mid (Ok v) → (StandsFenced v → ⊥) → reveals → (other : Refusal) → place_of other < place_of TooManyFences → FenceCauses (old.files 0) other → ⊥
before_many reading reveals old mid v opens free revealed NoArchive before cause = opened_no_opening reveals old mid v opens revealed NoArchive cause
before_many reading reveals old mid v opens free revealed (LedgerBad at) before cause = opened_no_opening reveals old mid v opens revealed (LedgerBad at) cause
before_many reading reveals old mid v opens free revealed (AlreadyFenced k) before cause = free (fenced_as reading (old.files 0) v k (opens.this_one revealed) cause).1
before_many reading reveals old mid v opens free revealed TooManyFences before cause = omega arith
before_many reading reveals old mid v opens free revealed why before cause = cause

one_many : HasOneReading → (reveals : Type 0) (old mid : State) (v : Opened) → Opens reveals old mid (Ok v) → (StandsFenced v → ⊥) → reveals → (why : Refusal) → IsFirst (FenceCauses (old.files 0)) why → why ≡ TooManyFences
one_many reading reveals old mid v opens free revealed NoArchive first = absurd (opened_no_opening reveals old mid v opens revealed NoArchive first.stands)
one_many reading reveals old mid v opens free revealed (LedgerBad at) first = absurd (opened_no_opening reveals old mid v opens revealed (LedgerBad at) first.stands)
one_many reading reveals old mid v opens free revealed (AlreadyFenced k) first = absurd (free (fenced_as reading (old.files 0) v k (opens.this_one revealed) first.stands).1)
one_many reading reveals old mid v opens free revealed TooManyFences first = refl
one_many reading reveals old mid v opens free revealed why first = absurd first.stands

none_against : HasOneReading → (reveals : Type 0) (old mid : State) (v : Opened) → Opens reveals old mid (Ok v) → (StandsFenced v → ⊥) → length v.lattice.fences ≢ greatest_fences → reveals → (why : Refusal) → FenceCauses (old.files 0) why → ⊥
none_against reading reveals old mid v opens free few revealed NoArchive cause = opened_no_opening reveals old mid v opens revealed NoArchive cause
none_against reading reveals old mid v opens free few revealed (LedgerBad at) cause = opened_no_opening reveals old mid v opens revealed (LedgerBad at) cause
none_against reading reveals old mid v opens free few revealed (AlreadyFenced k) cause = free (fenced_as reading (old.files 0) v k (opens.this_one revealed) cause).1
none_against reading reveals old mid v opens free few revealed TooManyFences cause = few (all_fences_as reading (old.files 0) v (opens.this_one revealed) cause)
none_against reading reveals old mid v opens free few revealed why cause = cause

-- The fence may follow the records of an opened ledger where none is there, and it has not the most.
fence_next : FencesMayFollow → (v : Opened) → (StandsFenced v → ⊥) → length v.lattice.fences ≢ greatest_fences → (records : List Record) → HasRecords v records → IsNext v.shape records (Fence v.lattice.n)
fence_next follow v free few records has =
    let n = has.lattice.n in
    let fences = has.lattice.fences_are in
    let most = last_fence-within v.lattice.n v.lattice.fences v.lattice.fenced in
    let all = fences_few v.lattice.n v.lattice.fences v.lattice.fenced in
    let before : last_fence v.lattice.fences < v.lattice.n = omega (arith, most, free) in
    let room : length v.lattice.fences < greatest_fences = omega (arith, all, few) in
    subst (λ (k : ℕ). IsNext v.shape records (Fence k)) (sym n)
    (follow v.shape records has.valid
    (subst (λ (k : ℕ). last_fence (fences_of records) < k) n (subst (λ (fs : List ℕ). last_fence fs < v.lattice.n) fences before))
    (subst (λ (fs : List ℕ). length fs < greatest_fences) fences room))

fence_is : (v : Opened) (records : List Record) → HasRecords v records → next_fence records ≡ Fence v.lattice.n
fence_is v records has = ap Fence (sym has.lattice.n)

-- what the call that adds a fence gave, after the opening, where it failed
pub record IsUnfenced (reveals : Type 0) (v : Opened) (fault : FenceFault) (old mid new : State) : Type 1 where
  pub opens : Opens reveals old mid (Ok v)
  pub already : (n : ℕ) → (fault ≡ fencing.AlreadyFenced n) ↔ ((n ≡ v.lattice.n) × StandsFenced v)
  pub many : (fault ≡ fencing.TooManyFences) ↔ ((length v.lattice.fences ≡ greatest_fences) × (StandsFenced v → ⊥))
  pub unchanged : fault ≢ fencing.DiskFault → new ≡ mid
  pub leaves : LeavesOldOrNew reveals v (Fence v.lattice.n) mid new
  pub writes : OnlyWrites reveals (IsReady mid) (FitsAdding mid 1 (v.end + 10)) (fault ≡ fencing.DiskFault) (ChangesOnly 0) mid new

same_fault : (a b : FenceFault) → (let one : Result ℕ FenceFault = Err a in one ≡ Err b) → a ≡ b
same_fault a b e = cc

as_err : (a b : FenceFault) → a ≡ b → (let one : Result ℕ FenceFault = Err a in one ≡ Err b)
as_err a b e = ap Err e

-- the same from its answer
pub unfenced_of : (reveals : Type 0) (v : Opened) (fault : FenceFault) (old mid new : State) → Opens reveals old mid (Ok v)
    → ((n : ℕ) → (let one : Result ℕ FenceFault = Err fault in one ≡ Err (fencing.AlreadyFenced n)) ↔ ((n ≡ v.lattice.n) × StandsFenced v))
    → ((let one : Result ℕ FenceFault = Err fault in one ≡ Err fencing.TooManyFences) ↔ ((length v.lattice.fences ≡ greatest_fences) × (StandsFenced v → ⊥)))
    → ((let one : Result ℕ FenceFault = Err fault in one ≢ Err fencing.DiskFault) → new ≡ mid) → LeavesOldOrNew reveals v (Fence v.lattice.n) mid new
    → OnlyWrites reveals (IsReady mid) (FitsAdding mid 1 (v.end + 10)) (let one : Result ℕ FenceFault = Err fault in one ≡ Err fencing.DiskFault) (ChangesOnly 0) mid new → IsUnfenced reveals v fault old mid new
unfenced_of reveals v fault old mid new opens already many unchanged leaves writes = record {
  opens = opens;
  already = λ n. (λ e. (already n).0 (as_err fault (fencing.AlreadyFenced n) e), λ h. same_fault fault (fencing.AlreadyFenced n) ((already n).1 h));
  many = (λ e. many.0 (as_err fault fencing.TooManyFences e), λ h. same_fault fault fencing.TooManyFences (many.1 h));
  unchanged = λ differs. unchanged (λ e. differs (same_fault fault fencing.DiskFault e));
  leaves = leaves;
  writes = writes_as reveals _ (FitsAdding mid 1 (v.end + 10)) _ _ (ChangesOnly 0) mid new (as_err fault fencing.DiskFault) (λ is. cc) writes;
}

-- it was committed, or the disk failed at that
unfenced_committing : FencesMayFollow → (reveals : Type 0) (v : Opened) (old mid new : State) → IsUnfenced reveals v fencing.DiskFault old mid new → IsCommitting next_fence reveals v (Fence v.lattice.n) (fencing.DiskFault ≡ fencing.DiskFault) old mid new
unfenced_committing follow reveals v old mid new gave =
    let free : StandsFenced v → ⊥ = λ stands. let h : fencing.DiskFault ≡ fencing.AlreadyFenced v.lattice.n = (gave.already v.lattice.n).1 (refl, stands) in cc in
    let few : length v.lattice.fences ≢ greatest_fences = λ many. let h : fencing.DiskFault ≡ fencing.TooManyFences = gave.many.1 (many, free) in cc in
    record {
      opens = gave.opens;
      is = fence_is v;
      next = fence_next follow v free few;
      leaves = gave.leaves;
      writes = subst (λ (n : ℕ). OnlyWrites reveals (IsReady mid) (FitsAdding mid 1 n) (fencing.DiskFault ≡ fencing.DiskFault) (ChangesOnly 0) mid new) (let e : v.end + 10 ≡ v.end + length (entry (Fence v.lattice.n)) = omega arith in e) gave.writes;
    }

opened_not_disk : (v : Opened) → Ok v ≡ Err failure.Disk → ⊥
opened_not_disk v e = cc

refused_same : (why : Refusal) → failure.Refused why ≡ failure.Disk → ⊥
refused_same why e = cc

-- where the call that adds a fence failed, with the failure of that fault what holds of a run that adds one holds
pub unfenced_adds : {T : Type 0} → HasOneReading → FencesMayFollow → BlocksAreInside → RecordsAreFew → (reveals : Type 0) (v : Opened) (fault : FenceFault) (old mid new : State) → IsUnfenced reveals v fault old mid new → AddsRecord {T = T} next_fence reveals old new (Err (fence_failure fault))
unfenced_adds {T} reading follow inside few reveals v (fencing.AlreadyFenced n) old mid new gave =
    subst (λ (s : State). AddsRecord {T = T} next_fence reveals old s (Err (failure.Refused (AlreadyFenced n)))) (sym (gave.unchanged (λ e. cc)))
    (adds_read next_fence (fence_records inside few) reveals old mid (Ok v) (failure.Refused (AlreadyFenced n)) gave.opens (λ e. cc) (λ e. absurd (refused_same (AlreadyFenced n) e)) (λ e. absurd (opened_not_disk v e)))
unfenced_adds {T} reading follow inside few reveals v fencing.TooManyFences old mid new gave =
    subst (λ (s : State). AddsRecord {T = T} next_fence reveals old s (Err (failure.Refused TooManyFences))) (sym (gave.unchanged (λ e. cc)))
    (adds_read next_fence (fence_records inside few) reveals old mid (Ok v) (failure.Refused TooManyFences) gave.opens (λ e. cc) (λ e. absurd (refused_same TooManyFences e)) (λ e. absurd (opened_not_disk v e)))
unfenced_adds {T} reading follow inside few reveals v fencing.DiskFault old mid new gave =
    adds_failed reading next_fence (fence_records inside few) reveals v (Fence v.lattice.n) _ old mid new (unfenced_committing follow reveals v old mid new gave) refl

-- where the call that adds a fence to the opened ledger failed, the failure shows each refusal
pub unfenced_refuses : {T : Type 0} → HasOneReading → (reveals : Type 0) (v : Opened) (fault : FenceFault) (old mid new : State) → IsUnfenced reveals v fault old mid new → Refuses {T = T} reveals (FenceCauses (old.files 0)) (Err (fence_failure fault))
unfenced_refuses {T} reading reveals v (fencing.AlreadyFenced n) old mid new gave =
    let is = (gave.already n).0 refl in
    refuses_one reveals (FenceCauses (old.files 0)) (Err (failure.Refused (AlreadyFenced n))) (AlreadyFenced n) refl
    (λ revealed. record { stands = is_fenced (old.files 0) v n (gave.opens.this_one revealed) is.0 is.1; none = before_fenced reveals old mid v gave.opens revealed n })
    (one_fenced reading reveals old mid v n gave.opens is.0 is.1)
unfenced_refuses {T} reading reveals v fencing.TooManyFences old mid new gave =
    let is = gave.many.0 refl in
    refuses_one reveals (FenceCauses (old.files 0)) (Err (failure.Refused TooManyFences)) TooManyFences refl
    (λ revealed. record { stands = has_all_fences (old.files 0) v (gave.opens.this_one revealed) is.0; none = before_many reading reveals old mid v gave.opens is.1 revealed })
    (one_many reading reveals old mid v gave.opens is.1)
unfenced_refuses {T} reading reveals v fencing.DiskFault old mid new gave = refuses_stopped reveals (FenceCauses (old.files 0)) (Err failure.Disk) (inl refl)

failure_disk : (fault : FenceFault) → fence_failure fault ≡ failure.Disk → fault ≡ fencing.DiskFault
failure_disk (fencing.AlreadyFenced n) e = absurd (refused_same (AlreadyFenced n) e)
failure_disk fencing.TooManyFences e = absurd (refused_same TooManyFences e)
failure_disk fencing.DiskFault e = refl

err_same : {T : Type 0} (f g : Failure) → (let one : Result T Failure = Err f in one ≡ Err g) → f ≡ g
err_same f g e = cc

-- where the call that adds a fence failed, each other file stays, and a returned fault of the disk has its cause
pub unfenced_rest : {T : Type 0} (reveals : Type 0) (v : Opened) (fault : FenceFault) (old mid new : State) → IsUnfenced reveals v fault old mid new → KeepsTheRest reveals (let answer : Result T Failure = Err (fence_failure fault) in answer ≡ Err failure.Disk) old new
unfenced_rest {T} reveals v fault old mid new gave =
    rest_behind reveals _ (fault ≡ fencing.DiskFault) (let answer : Result T Failure = Err (fence_failure fault) in answer ≡ Err failure.Disk) v old mid new gave.opens gave.writes
    (λ is. failure_disk fault (err_same {T = T} (fence_failure fault) failure.Disk is)) (λ is. ap (λ (a : FenceFault). Err (fence_failure a)) is)

-- what it gave where it was done
pub record IsFencedNow (reveals : Type 0) (v w : Opened) (nodes : ℕ) (old mid new : State) : Type 1 where
  pub opens : Opens reveals old mid (Ok v)
  pub node : nodes ≡ v.lattice.n
  pub free : StandsFenced v → ⊥
  pub few : length v.lattice.fences ≢ greatest_fences
  pub leaves : LeavesOldOrNew reveals v (Fence v.lattice.n) mid new
  pub committed : HasCommitted reveals v w (Fence v.lattice.n) mid new
  pub writes : OnlyWrites reveals (IsReady mid) (FitsAdding mid 1 (v.end + 10)) ⊥ (ChangesOnly 0) mid new

fenced_committing : FencesMayFollow → (reveals : Type 0) (v w : Opened) (nodes : ℕ) (old mid new : State) → IsFencedNow reveals v w nodes old mid new → IsCommitting next_fence reveals v (Fence v.lattice.n) ⊥ old mid new
fenced_committing follow reveals v w nodes old mid new gave = record {
  opens = gave.opens;
  is = fence_is v;
  next = fence_next follow v gave.free gave.few;
  leaves = gave.leaves;
  writes = subst (λ (n : ℕ). OnlyWrites reveals (IsReady mid) (FitsAdding mid 1 n) ⊥ (ChangesOnly 0) mid new) (let e : v.end + 10 ≡ v.end + length (entry (Fence v.lattice.n)) = omega arith in e) gave.writes;
}

-- where a fence was added, what holds of a run that adds one holds with any value as its answer
pub fenced_adds : {T : Type 0} → HasOneReading → FencesMayFollow → BlocksAreInside → RecordsAreFew → (reveals : Type 0) (v w : Opened) (nodes : ℕ) (old mid new : State) (value : T) → IsFencedNow reveals v w nodes old mid new → AddsRecord next_fence reveals old new (Ok value)
fenced_adds reading follow inside few reveals v w nodes old mid new value gave =
    adds_done reading next_fence (fence_records inside few) reveals v w (Fence v.lattice.n) ⊥ old mid new value (fenced_committing follow reveals v w nodes old mid new gave) gave.committed

-- where a fence was added, no cause of a refusal holds if the disk's contents are known, and an answer with a value is no
-- refusal
pub fenced_refuses : {T : Type 0} → HasOneReading → (reveals : Type 0) (v w : Opened) (nodes : ℕ) (old mid new : State) (value : T) → IsFencedNow reveals v w nodes old mid new → Refuses reveals (FenceCauses (old.files 0)) (Ok value)
fenced_refuses reading reveals v w nodes old mid new value gave =
    refuses_none reveals (FenceCauses (old.files 0)) (Ok value) (λ why e. let h : Ok value ≡ Err (failure.Refused why) = e in cc)
    (λ revealed why first. none_against reading reveals old mid v gave.opens gave.free gave.few revealed why first.stands)

-- where a fence was added, each other file stays, time goes on, and the count of faults does not fall
pub fenced_rest : {T : Type 0} → FencesMayFollow → (reveals : Type 0) (v w : Opened) (nodes : ℕ) (old mid new : State) (value : T) → IsFencedNow reveals v w nodes old mid new → KeepsTheRest reveals (let answer : Result T Failure = Ok value in answer ≡ Err failure.Disk) old new
fenced_rest {T} follow reveals v w nodes old mid new value gave =
    rest_committed next_fence reveals v (Fence v.lattice.n) ⊥ _ old mid new (fenced_committing follow reveals v w nodes old mid new gave) (λ is. let h : (let answer : Result T Failure = Ok value in answer ≡ Err failure.Disk) = is in cc) (λ none. absurd none)

-- where a fence was added and the disk's contents are known, the number that was given is that of the ledger's nodes
pub fenced_nodes : HasOneReading → (reveals : Type 0) (v w : Opened) (nodes : ℕ) (old mid new : State) → IsFencedNow reveals v w nodes old mid new → reveals → (shape : Shape) (records : List Record) → HasLedger shape records (old.files 0) → nodes ≡ nodes_of records
fenced_nodes reading reveals v w nodes old mid new gave revealed shape records has =
    let one = gave.opens.this_one revealed in
    let same = (reading (old.files 0) v.shape shape one.records records v.end (length (spelled shape records)) one.ledger has).1.0 in
    gave.node ∙ one.has.lattice.n ∙ ap nodes_of same
