-- How the answer of `verify` shows what the check of the report gave, and when it is refused.
use Rattle.std.proofs.Common.{◌≡◌, ◌≢◌, ◌⊎◌, inl, inr, ℕ, ◌<◌, ◌≤◌, List, [], refl, sym, ◌∙◌, ap, subst, arith, Some, Result, Ok, Err}
use Rattle.std.specs.Prelude.{IfOk, IfErr, IsSome, unwrap_or}
use Rattle.aea_io.specs.Streams.{SourceState, SinkState}
use Rattle.aea_disk.specs.State.{State}
use Rattle.aea_records.specs.Laws.{HasOneReading, IsSomeLedger}
use Rattle.aea_ledger.specs.Values.{Opened}
use Rattle.aea_verify.specs.declared.verdict.Verdict.{Verdict}
use Rattle.aea_verify.specs.declared.verdict.Verdict.TheVariants.{Accepted, Rejected}
use Rattle.aea_verify.specs.declared.verdict.VerifyFault.{VerifyFault}
use Rattle.aea_verify.specs.declared.verdict.VerifyFault.TheVariants as fault
use Rattle.aea_verify.specs.Answers.{IsReadAs, IsFree}
use Rattle.aea_command.specs.declared.refusal.Refusal.{Refusal}
use Rattle.aea_command.specs.declared.refusal.Refusal.TheVariants.{NoArchive, LedgerBad, BadLine, LineTooLong, Occupied}
use Rattle.aea_command.specs.declared.refusal.Failure.{Failure}
use Rattle.aea_command.specs.declared.refusal.Failure.TheVariants as failure
use Rattle.aea_command.specs.declared.status.Status.TheVariants.{Done, Damage}
use Rattle.aea_command.specs.Causes.{place_of, IsFirst, IsStopped, RefusesBy, IsDecided}
use Rattle.aea_command.specs.Failures.{Answer, verify_failure}
use Rattle.aea_command.specs.Openings.{OpeningCauses, IsAfterOpening, Opens}
use Rattle.aea_command_loss.specs.Verify.{VerifyCauses, PrintsVerdict, verdict_status}
use Rattle.aea_command.proofs.Behind.{AreBehindOpening, some_ledger, unopened_refuses, opened_no_opening}
use Rattle.aea_command_loss.proofs.DrillLemmas.Refused.{revealed_is}
use Rattle.aea_command.proofs.Reading.{has_ledger_of}
use Rattle.aea_command.proofs.Refusing.{refuses_by_revealed}

-- the answer to what the check gave: of a verdict its status, or a failure of the output; of a fault its failure
pub record IsAnswerTo (r : Result Verdict VerifyFault) (before after : SinkState) (answer : Answer) : Type 0 where
  pub prints : IfOk r (λ verdict. PrintsVerdict verdict before after answer)
  pub unjudged : IfErr r (λ f. (answer ≡ Err (verify_failure f)) × (after ≡ before))

-- a status of a verdict is no failure
status_never : (verdict : Verdict) (f : Failure) → Ok (verdict_status verdict) ≡ Err f → ⊥
status_never Accepted f e = let h : Ok Done ≡ Err f = e in cc
status_never (Rejected k why) f e = let h : Ok Damage ≡ Err f = e in cc

-- where a verdict is printed no other failure than that of the output is returned
printed_never : (verdict : Verdict) (before after : SinkState) (answer : Answer) (f : Failure) → PrintsVerdict verdict before after answer → f ≢ failure.Output → answer ≡ Err f → ⊥
printed_never verdict before after answer f printed differs e = elim printed.is [
  | inl ok ↦ status_never verdict f (sym ok ∙ e)
  | inr output ↦ let h : Err f ≡ Err failure.Output = sym e ∙ output in differs cc
]

-- the failure of a fault is that of the disk only where the fault is
disk_fault : (f : VerifyFault) → verify_failure f ≡ failure.Disk → f ≡ fault.DiskFault
disk_fault (fault.BadLine k) e = let h : failure.Refused (BadLine k) ≡ failure.Disk = e in cc
disk_fault (fault.LineTooLong k) e = let h : failure.Refused (LineTooLong k) ≡ failure.Disk = e in cc
disk_fault fault.ReadFault e = let h : failure.Input ≡ failure.Disk = e in cc
disk_fault fault.DiskFault e = refl
disk_fault fault.NoMemory e = let h : failure.Memory ≡ failure.Disk = e in cc

-- and of the output never
pub never_output : (f : VerifyFault) → verify_failure f ≡ failure.Output → ⊥
never_output (fault.BadLine k) e = let h : failure.Refused (BadLine k) ≡ failure.Output = e in cc
never_output (fault.LineTooLong k) e = let h : failure.Refused (LineTooLong k) ≡ failure.Output = e in cc
never_output fault.ReadFault e = let h : failure.Input ≡ failure.Output = e in cc
never_output fault.DiskFault e = let h : failure.Disk ≡ failure.Output = e in cc
never_output fault.NoMemory e = let h : failure.Memory ≡ failure.Output = e in cc

-- where the failure is not of the input, the check's fault is not that of a read
pub not_by_input : {T : Type 0} (answer : Result T Failure) (f : VerifyFault) → answer ≡ Err (verify_failure f) → answer ≢ Err failure.Input
    → (let r : Result Verdict VerifyFault = Err f in r ≢ Err fault.ReadFault)
not_by_input answer f is other e =
    let h : (let r : Result Verdict VerifyFault = Err f in r ≡ Err fault.ReadFault) = e in
    let same : f ≡ fault.ReadFault = cc in
    other (is ∙ ap (λ (g : VerifyFault). Err (verify_failure g)) same)

pub from_disk : (r : Result Verdict VerifyFault) (before after : SinkState) (answer : Answer) → IsAnswerTo r before after answer → answer ≡ Err failure.Disk → r ≡ Err fault.DiskFault
from_disk (Ok verdict) before after answer to e =
    absurd (printed_never verdict before after answer failure.Disk to.prints (λ d. let h : failure.Disk ≡ failure.Output = d in cc) e)
from_disk (Err f) before after answer to e =
    let h : Err (verify_failure f) ≡ Err failure.Disk = sym to.unjudged.0 ∙ e in
    ap Err (disk_fault f cc)

-- the refusals of a check
refused_fault : (f : VerifyFault) (why : Refusal) → verify_failure f ≡ failure.Refused why
    → ((k : ℕ) × (f ≡ fault.BadLine k) × (why ≡ BadLine k)) ⊎ ((k : ℕ) × (f ≡ fault.LineTooLong k) × (why ≡ LineTooLong k))
refused_fault (fault.BadLine k) why e = let h : failure.Refused (BadLine k) ≡ failure.Refused why = e in inl (k, refl, cc)
refused_fault (fault.LineTooLong k) why e = let h : failure.Refused (LineTooLong k) ≡ failure.Refused why = e in inr (k, refl, cc)
refused_fault fault.ReadFault why e = let h : failure.Input ≡ failure.Refused why = e in cc
refused_fault fault.DiskFault why e = let h : failure.Disk ≡ failure.Refused why = e in cc
refused_fault fault.NoMemory why e = let h : failure.Memory ≡ failure.Refused why = e in cc

-- a refusal is one of these two
refused_by : (r : Result Verdict VerifyFault) (before after : SinkState) (answer : Answer) (why : Refusal) → IsAnswerTo r before after answer → answer ≡ Err (failure.Refused why)
    → ((k : ℕ) × (r ≡ Err (fault.BadLine k)) × (why ≡ BadLine k)) ⊎ ((k : ℕ) × (r ≡ Err (fault.LineTooLong k)) × (why ≡ LineTooLong k))
refused_by (Ok verdict) before after answer why to e =
    absurd (printed_never verdict before after answer (failure.Refused why) to.prints (λ d. let h : failure.Refused why ≡ failure.Output = d in cc) e)
refused_by (Err f) before after answer why to e =
    let h : Err (verify_failure f) ≡ Err (failure.Refused why) = sym to.unjudged.0 ∙ e in
    let same : verify_failure f ≡ failure.Refused why = cc in
    elim (refused_fault f why same) [
      | inl (k, is, of) ↦ inl (k, ap Err is, of)
      | inr (k, is, of) ↦ inr (k, ap Err is, of)
    ]

-- the answer to a fault
pub answer_is : (r : Result Verdict VerifyFault) (f : VerifyFault) (before after : SinkState) (answer : Answer) → IsAnswerTo r before after answer → r ≡ Err f → answer ≡ Err (verify_failure f)
answer_is (Ok verdict) f before after answer to e = let h : Ok verdict ≡ Err f = e in cc
answer_is (Err g) f before after answer to e = let h : Err g ≡ Err f = e in let same : g ≡ f = cc in to.unjudged.0 ∙ ap (λ (x : VerifyFault). Err (verify_failure x)) same

-- a fault of the source or of the disk, and lack of memory, stop the run
stopped_by : (r : Result Verdict VerifyFault) (before after : SinkState) (answer : Answer) → IsAnswerTo r before after answer → IsFree r → IsStopped answer
stopped_by r before after answer to (inl e) = inr (inl (answer_is r fault.ReadFault before after answer to e))
stopped_by r before after answer to (inr (inl e)) = inl (answer_is r fault.DiskFault before after answer to e)
stopped_by r before after answer to (inr (inr e)) = inr (inr (answer_is r fault.NoMemory before after answer to e))

-- the causes are those of the opening, and others at what is a ledger
verify_behind : (bytes input : List ℕ) → AreBehindOpening bytes (VerifyCauses bytes input)
verify_behind bytes input = record { from = λ why cause. from_opening why cause; back = λ why cause. back_to why cause }
  where
    from_opening : (why : Refusal) → OpeningCauses bytes why → VerifyCauses bytes input why
    from_opening NoArchive cause = cause
    from_opening (LedgerBad at) cause = cause
    from_opening why cause = absurd cause

    back_to : (why : Refusal) → VerifyCauses bytes input why → OpeningCauses bytes why ⊎ (IsSomeLedger bytes × (place_of Occupied ≤ place_of why))
    back_to NoArchive cause = inl cause
    back_to (LedgerBad at) cause = inl cause
    back_to (BadLine k) cause = inr (cause.0, omega arith)
    back_to (LineTooLong k) cause = inr (cause.0, omega arith)
    back_to why cause = absurd cause

-- an archive that was not opened shows why
pub unopened_verify : {T : Type 0} (reveals some : Type 0) (old new : State) (f : Failure) (input : List ℕ) → Opens reveals old new (Err f)
    → RefusesBy {T = T} (IsDecided reveals some IsAfterOpening) (VerifyCauses (old.files 0) input) (Err f)
unopened_verify {T} reveals some old new f input opens =
    refuses_by_revealed {T = T} (λ why. reveals) (IsDecided reveals some IsAfterOpening) (VerifyCauses (old.files 0) input) (Err f) (λ why both. both.0)
    (unopened_refuses reveals old new f (VerifyCauses (old.files 0) input) (verify_behind (old.files 0) input) opens)

-- after the opening
module _ (reading : HasOneReading) (reveals : Type 0) (v : Opened) (old mid : State) (source : SourceState) (before after : SinkState) (r : Result Verdict VerifyFault) (answer : Answer)
    (opens : Opens reveals old mid (Ok v))
    (read : (report : List ℕ) → source.left ≡ Some report → IsReadAs report r)
    (to : IsAnswerTo r before after answer) where
  -- the answer is no refusal of the opening
  not_opening : (why : Refusal) → answer ≡ Err (failure.Refused why) → IsAfterOpening why
  not_opening why is = elim (refused_by r before after answer why to is) [
    | inl (k, e, same) ↦ subst IsAfterOpening (sym same) tt
    | inr (k, e, same) ↦ subst IsAfterOpening (sym same) tt
  ]

  module _ (revealed : reveals) (some : IsSome source.left) where
    -- the input that is known
    abbrev input : List ℕ
    input = unwrap_or source.left []

    is_input : source.left ≡ Some input
    is_input = revealed_is source.left some

    ledger : IsSomeLedger (old.files 0)
    ledger = let one = opens.this_one revealed in some_ledger (old.files 0) v.shape one.records (has_ledger_of reading v (old.files 0) one)

    -- no cause of the opening holds, and the two of the report have one place
    none_before : (other : Refusal) → place_of other < place_of (BadLine 0) → VerifyCauses (old.files 0) input other → ⊥
    none_before NoArchive earlier cause = opened_no_opening reveals old mid v opens revealed NoArchive cause
    none_before (LedgerBad at) earlier cause = opened_no_opening reveals old mid v opens revealed (LedgerBad at) cause
    none_before (BadLine k) earlier cause = omega arith
    none_before (LineTooLong k) earlier cause = omega arith
    none_before other earlier cause = cause

    first_bad : (k : ℕ) → r ≡ Err (fault.BadLine k) → IsFirst (VerifyCauses (old.files 0) input) (BadLine k)
    first_bad k e = record { stands = (ledger, (read input is_input).named_bad k e); none = none_before }

    first_long : (k : ℕ) → r ≡ Err (fault.LineTooLong k) → IsFirst (VerifyCauses (old.files 0) input) (LineTooLong k)
    first_long k e = record { stands = (ledger, (read input is_input).named_long k e); none = none_before }

    only_for : (why : Refusal) → answer ≡ Err (failure.Refused why) → IsFirst (VerifyCauses (old.files 0) input) why
    only_for why is = elim (refused_by r before after answer why to is) [
      | inl (k, e, same) ↦ subst (λ (w : Refusal). IsFirst (VerifyCauses (old.files 0) input) w) (sym same) (first_bad k e)
      | inr (k, e, same) ↦ subst (λ (w : Refusal). IsFirst (VerifyCauses (old.files 0) input) w) (sym same) (first_long k e)
    ]

    always_for : (why : Refusal) → IsFirst (VerifyCauses (old.files 0) input) why → (answer ≡ Err (failure.Refused why)) ⊎ IsStopped answer
    always_for NoArchive first = absurd (opened_no_opening reveals old mid v opens revealed NoArchive first.stands)
    always_for (LedgerBad at) first = absurd (opened_no_opening reveals old mid v opens revealed (LedgerBad at) first.stands)
    always_for (BadLine k) first = elim ((read input is_input).bad k first.stands.1) [
      | inl e ↦ inl (answer_is r (fault.BadLine k) before after answer to e)
      | inr free ↦ inr (stopped_by r before after answer to free)
    ]
    always_for (LineTooLong k) first = elim ((read input is_input).long k first.stands.1) [
      | inl e ↦ inl (answer_is r (fault.LineTooLong k) before after answer to e)
      | inr free ↦ inr (stopped_by r before after answer to free)
    ]
    always_for why first = absurd first.stands

  -- where the files are known, no cause of the opening holds; any other is decided by the input too
  always_decided : reveals → (why : Refusal) → (IsAfterOpening why → IsSome source.left) → IsFirst (VerifyCauses (old.files 0) (unwrap_or source.left [])) why → (answer ≡ Err (failure.Refused why)) ⊎ IsStopped answer
  always_decided revealed NoArchive some first = absurd (opened_no_opening reveals old mid v opens revealed NoArchive first.stands)
  always_decided revealed (LedgerBad at) some first = absurd (opened_no_opening reveals old mid v opens revealed (LedgerBad at) first.stands)
  always_decided revealed (BadLine k) some first = always_for revealed (some tt) (BadLine k) first
  always_decided revealed (LineTooLong k) some first = always_for revealed (some tt) (LineTooLong k) first
  always_decided revealed why some first = absurd first.stands

  pub checked_refuses : RefusesBy (IsDecided reveals (IsSome source.left) IsAfterOpening) (VerifyCauses (old.files 0) (unwrap_or source.left [])) answer
  checked_refuses = record {
    only = λ why is revealed. only_for revealed.0 (revealed.1 (not_opening why is)) why is;
    always = λ why revealed first. always_decided revealed.0 why revealed.1 first;
  }
