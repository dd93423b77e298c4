-- What `upgrade` does, by where it ends.
pub mod Running
use Rattle.std.proofs.Common.{◌≡◌, ◌≢◌, ◌⊎◌, ◌↔◌, inl, inr, ℕ, ◌+◌, ◌<◌, ◌≤◌, List, Bool, true, false, length, refl, sym, ◌∙◌, ap, subst, arith, Result, Ok, Err}
use Rattle.std.specs.List.{list_any}
use Rattle.aea_disk.specs.State.{State, IsReady}
use Rattle.aea_disk.specs.Files.{ChangesOnly}
use Rattle.aea_disk.specs.Frames.{OnlyWrites}
use Rattle.aea_records.specs.Format.{Record, Raise, is_raise, limit_when, raised_limit, entry, spelled}
use Rattle.aea_records.specs.Grammar.{IsNext, IsLedger}
use Rattle.aea_records.specs.Laws.{IsSomeLedger, HasOneReading}
use Rattle.aea_ledger.specs.declared.raise.UpgradeFault.{UpgradeFault}
use Rattle.aea_ledger.specs.declared.raise.UpgradeFault.TheVariants as raising
use Rattle.aea_ledger.specs.Committing.{LeavesOldOrNew, HasCommitted}
use Rattle.aea_ledger.specs.Taking.{FitsAdding}
use Rattle.aea_ledger.specs.Values.{Opened, HasRecords, IsThisOne}
use Rattle.aea_command.specs.declared.refusal.Refusal.{Refusal}
use Rattle.aea_command.specs.declared.refusal.Refusal.TheVariants.{NoArchive, LedgerBad, AlreadyUpgraded, Occupied}
use Rattle.aea_command.specs.declared.refusal.Failure.{Failure}
use Rattle.aea_command.specs.declared.refusal.Failure.TheVariants as failure
use Rattle.aea_command_store.specs.Adding.{AddsRecord, KeepsTheRest}
use Rattle.aea_command.specs.Causes.{place_of, IsFirst, Refuses}
use Rattle.aea_command.specs.Failures.{upgrade_failure}
use Rattle.aea_command.specs.Openings.{OpeningCauses, Opens}
use Rattle.aea_command_store.specs.Upgrade.{next_raise, IsRaised, UpgradeCauses}
use Rattle.aea_command_store.proofs.Adding.{IsCommitting, adds_read, adds_failed, adds_done, rest_behind, rest_committed}
use Rattle.aea_command.proofs.Behind.{AreBehindOpening, some_ledger, opened_no_opening}
use Rattle.aea_ledger.proofs.Recording.{raise_records}
use Rattle.aea_command.proofs.Refusing.{refuses_none, refuses_one, refuses_stopped}

from_opening : (bytes : List ℕ) (why : Refusal) → OpeningCauses bytes why → UpgradeCauses bytes why
from_opening bytes NoArchive cause = cause
from_opening bytes (LedgerBad at) cause = cause
from_opening bytes why cause = absurd cause

back_to_opening : (bytes : List ℕ) (why : Refusal) → UpgradeCauses bytes why → OpeningCauses bytes why ⊎ (IsSomeLedger bytes × (place_of Occupied ≤ place_of why))
back_to_opening bytes NoArchive cause = inl cause
back_to_opening bytes (LedgerBad at) cause = inl cause
back_to_opening bytes AlreadyUpgraded cause = inr (some_ledger bytes cause.shape cause.records cause.ledger, omega arith)
back_to_opening bytes why cause = absurd cause

-- the causes of `upgrade` come after the opening
pub upgrade_behind : (bytes : List ℕ) → AreBehindOpening bytes (UpgradeCauses bytes)
upgrade_behind bytes = record { from = from_opening bytes; back = back_to_opening bytes }

-- what the bytes say of a raise, the opened ledger says, and the other way round
raised_as : HasOneReading → (bytes : List ℕ) (v : Opened) → IsThisOne v bytes → IsRaised bytes → v.raised ≡ true
raised_as reading bytes v one cause =
    let same = (reading bytes v.shape cause.shape one.records cause.records v.end (length (spelled cause.shape cause.records)) one.ledger cause.ledger).1.0 in
    one.has.raised ∙ ap (λ (records : List Record). list_any is_raise records) same ∙ cause.raised

is_raised : (bytes : List ℕ) (v : Opened) → IsThisOne v bytes → v.raised ≡ true → IsRaised bytes
is_raised bytes v one raised = record {
  shape = v.shape;
  records = one.records;
  ledger = subst (λ (n : ℕ). IsLedger bytes v.shape one.records n) one.has.end one.ledger;
  raised = sym one.has.raised ∙ raised;
}

-- how the answers after the opening show why
before_raised : (reveals : Type 0) (old mid : State) (v : Opened) → Opens reveals old mid (Ok v) → reveals → (other : Refusal) → place_of other < place_of AlreadyUpgraded → UpgradeCauses (old.files 0) other → ⊥
before_raised reveals old mid v opens revealed NoArchive before cause = opened_no_opening reveals old mid v opens revealed NoArchive cause
before_raised reveals old mid v opens revealed (LedgerBad at) before cause = opened_no_opening reveals old mid v opens revealed (LedgerBad at) cause
before_raised reveals old mid v opens revealed AlreadyUpgraded before cause = omega arith
before_raised reveals old mid v opens revealed why before cause = cause

one_raised : (reveals : Type 0) (old mid : State) (v : Opened) → Opens reveals old mid (Ok v) → reveals → (why : Refusal) → IsFirst (UpgradeCauses (old.files 0)) why → why ≡ AlreadyUpgraded
one_raised reveals old mid v opens revealed NoArchive first = absurd (opened_no_opening reveals old mid v opens revealed NoArchive first.stands)
one_raised reveals old mid v opens revealed (LedgerBad at) first = absurd (opened_no_opening reveals old mid v opens revealed (LedgerBad at) first.stands)
one_raised reveals old mid v opens revealed AlreadyUpgraded first = refl
one_raised reveals old mid v opens revealed why first = absurd first.stands

none_against : HasOneReading → (reveals : Type 0) (old mid : State) (v : Opened) → Opens reveals old mid (Ok v) → (v.raised ≡ true → ⊥) → reveals → (why : Refusal) → UpgradeCauses (old.files 0) why → ⊥
none_against reading reveals old mid v opens free revealed NoArchive cause = opened_no_opening reveals old mid v opens revealed NoArchive cause
none_against reading reveals old mid v opens free revealed (LedgerBad at) cause = opened_no_opening reveals old mid v opens revealed (LedgerBad at) cause
none_against reading reveals old mid v opens free revealed AlreadyUpgraded cause = free (raised_as reading (old.files 0) v (opens.this_one revealed) cause)
none_against reading reveals old mid v opens free revealed why cause = cause

-- The raise may follow the records of an opened ledger that has none.
raise_next : (v : Opened) → (v.raised ≡ true → ⊥) → (records : List Record) → HasRecords v records → IsNext v.shape records Raise
raise_next v free records has same = free (has.raised ∙ raised_from (list_any is_raise records) same)
  where
    raised_from : (raised : Bool) → limit_when raised ≡ raised_limit → raised ≡ true
    raised_from true same = refl
    raised_from false same = absurd (omega arith)

raise_is : (v : Opened) (records : List Record) → HasRecords v records → next_raise records ≡ Raise
raise_is v records has = refl

opened_not_disk : (v : Opened) → Ok v ≡ Err failure.Disk → ⊥
opened_not_disk v e = cc

-- what the call that raises the limit gave, after the opening, where it failed
pub record IsUnraised (reveals : Type 0) (v : Opened) (fault : UpgradeFault) (old mid new : State) : Type 1 where
  pub opens : Opens reveals old mid (Ok v)
  pub already : (fault ≡ raising.AlreadyUpgraded) ↔ (v.raised ≡ true)
  pub unchanged : fault ≡ raising.AlreadyUpgraded → new ≡ mid
  pub leaves : LeavesOldOrNew reveals v Raise mid new
  pub writes : OnlyWrites reveals (IsReady mid) (FitsAdding mid 1 (v.end + 10)) (fault ≡ raising.DiskFault) (ChangesOnly 0) mid new

unraised_committing : (reveals : Type 0) (v : Opened) (old mid new : State) → IsUnraised reveals v raising.DiskFault old mid new → IsCommitting next_raise reveals v Raise (raising.DiskFault ≡ raising.DiskFault) old mid new
unraised_committing reveals v old mid new gave = record {
  opens = gave.opens;
  is = raise_is v;
  next = raise_next v (λ raised. let h : raising.DiskFault ≡ raising.AlreadyUpgraded = gave.already.1 raised in cc);
  leaves = gave.leaves;
  writes = subst (λ (n : ℕ). OnlyWrites reveals (IsReady mid) (FitsAdding mid 1 n) (raising.DiskFault ≡ raising.DiskFault) (ChangesOnly 0) mid new) (let e : v.end + 10 ≡ v.end + length (entry Raise) = omega arith in e) gave.writes;
}

-- where the call that raises the limit failed, with the failure of that fault what holds of a run that adds the
-- raise holds
pub unraised_adds : {T : Type 0} → HasOneReading → (reveals : Type 0) (v : Opened) (fault : UpgradeFault) (old mid new : State) → IsUnraised reveals v fault old mid new → AddsRecord {T = T} next_raise reveals old new (Err (upgrade_failure fault))
unraised_adds {T} reading reveals v raising.AlreadyUpgraded old mid new gave =
    subst (λ (s : State). AddsRecord {T = T} next_raise reveals old s (Err (failure.Refused AlreadyUpgraded))) (sym (gave.unchanged refl))
    (adds_read next_raise raise_records reveals old mid (Ok v) (failure.Refused AlreadyUpgraded) gave.opens (λ e. cc) (λ e. let h : failure.Refused AlreadyUpgraded ≡ failure.Disk = e in cc) (λ e. absurd (opened_not_disk v e)))
unraised_adds {T} reading reveals v raising.DiskFault old mid new gave =
    adds_failed reading next_raise raise_records reveals v Raise _ old mid new (unraised_committing reveals v old mid new gave) refl

-- where the call that raises the limit of the opened ledger failed, the failure shows each refusal
pub unraised_refuses : {T : Type 0} → HasOneReading → (reveals : Type 0) (v : Opened) (fault : UpgradeFault) (old mid new : State) → IsUnraised reveals v fault old mid new → Refuses {T = T} reveals (UpgradeCauses (old.files 0)) (Err (upgrade_failure fault))
unraised_refuses {T} reading reveals v raising.AlreadyUpgraded old mid new gave =
    refuses_one reveals (UpgradeCauses (old.files 0)) (Err (failure.Refused AlreadyUpgraded)) AlreadyUpgraded refl
    (λ revealed. record { stands = is_raised (old.files 0) v (gave.opens.this_one revealed) (gave.already.0 refl); none = before_raised reveals old mid v gave.opens revealed })
    (one_raised reveals old mid v gave.opens)
unraised_refuses {T} reading reveals v raising.DiskFault old mid new gave = refuses_stopped reveals (UpgradeCauses (old.files 0)) (Err failure.Disk) (inl refl)

failure_disk : (fault : UpgradeFault) → upgrade_failure fault ≡ failure.Disk → fault ≡ raising.DiskFault
failure_disk raising.AlreadyUpgraded e = let h : failure.Refused AlreadyUpgraded ≡ failure.Disk = e in cc
failure_disk raising.DiskFault e = refl

err_same : {T : Type 0} (f g : Failure) → (let one : Result T Failure = Err f in one ≡ Err g) → f ≡ g
err_same f g e = cc

-- where the call that raises the limit failed, each other file stays, and a returned fault of the disk has its
-- cause
pub unraised_rest : {T : Type 0} (reveals : Type 0) (v : Opened) (fault : UpgradeFault) (old mid new : State) → IsUnraised reveals v fault old mid new → KeepsTheRest reveals (let answer : Result T Failure = Err (upgrade_failure fault) in answer ≡ Err failure.Disk) old new
unraised_rest {T} reveals v fault old mid new gave =
    rest_behind reveals _ (fault ≡ raising.DiskFault) (let answer : Result T Failure = Err (upgrade_failure fault) in answer ≡ Err failure.Disk) v old mid new gave.opens gave.writes
    (λ is. failure_disk fault (err_same {T = T} (upgrade_failure fault) failure.Disk is)) (λ is. ap (λ (a : UpgradeFault). Err (upgrade_failure a)) is)

-- what it gave where it was done
pub record IsRaisedNow (reveals : Type 0) (v w : Opened) (old mid new : State) : Type 1 where
  pub opens : Opens reveals old mid (Ok v)
  pub free : v.raised ≡ true → ⊥
  pub leaves : LeavesOldOrNew reveals v Raise mid new
  pub committed : HasCommitted reveals v w Raise mid new
  pub writes : OnlyWrites reveals (IsReady mid) (FitsAdding mid 1 (v.end + 10)) ⊥ (ChangesOnly 0) mid new

raised_committing : (reveals : Type 0) (v w : Opened) (old mid new : State) → IsRaisedNow reveals v w old mid new → IsCommitting next_raise reveals v Raise ⊥ old mid new
raised_committing reveals v w old mid new gave = record {
  opens = gave.opens;
  is = raise_is v;
  next = raise_next v gave.free;
  leaves = gave.leaves;
  writes = subst (λ (n : ℕ). OnlyWrites reveals (IsReady mid) (FitsAdding mid 1 n) ⊥ (ChangesOnly 0) mid new) (let e : v.end + 10 ≡ v.end + length (entry Raise) = omega arith in e) gave.writes;
}

-- where the limit was raised, what holds of a run that adds the raise holds with any value as its answer
pub raised_adds : {T : Type 0} → HasOneReading → (reveals : Type 0) (v w : Opened) (old mid new : State) (value : T) → IsRaisedNow reveals v w old mid new → AddsRecord next_raise reveals old new (Ok value)
raised_adds reading reveals v w old mid new value gave =
    adds_done reading next_raise raise_records reveals v w Raise ⊥ old mid new value (raised_committing reveals v w old mid new gave) gave.committed

-- where the limit was raised, no cause of a refusal holds if the disk's contents are known, and an answer with a value is no
-- refusal
pub raised_refuses : {T : Type 0} → HasOneReading → (reveals : Type 0) (v w : Opened) (old mid new : State) (value : T) → IsRaisedNow reveals v w old mid new → Refuses reveals (UpgradeCauses (old.files 0)) (Ok value)
raised_refuses reading reveals v w old mid new value gave =
    refuses_none reveals (UpgradeCauses (old.files 0)) (Ok value) (λ why e. let h : Ok value ≡ Err (failure.Refused why) = e in cc)
    (λ revealed why first. none_against reading reveals old mid v gave.opens gave.free revealed why first.stands)

-- where the limit was raised, each other file stays, time goes on, and the count of faults does not fall
pub raised_rest : {T : Type 0} → (reveals : Type 0) (v w : Opened) (old mid new : State) (value : T) → IsRaisedNow reveals v w old mid new → KeepsTheRest reveals (let answer : Result T Failure = Ok value in answer ≡ Err failure.Disk) old new
raised_rest {T} reveals v w old mid new value gave =
    rest_committed next_raise reveals v Raise ⊥ _ old mid new (raised_committing reveals v w old mid new gave) (λ is. let h : (let answer : Result T Failure = Ok value in answer ≡ Err failure.Disk) = is in cc) (λ none. absurd none)
