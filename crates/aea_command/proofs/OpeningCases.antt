-- What a call that opens the archive returns, by the fault of the opening.
use Rattle.std.proofs.Common.{◌≡◌, ◌≢◌, ℕ, ◌⊎◌, inl, inr, List, ◌<◌, arith, refl, sym, ◌∙◌, ap, subst, Ok, Err}
use Rattle.std.specs.Prelude.{Result, IsErrAnd}
use Rattle.std.proofs.lemmas.Bool.{cases_lt}
use Rattle.aea_disk.specs.Files.{Files}
use Rattle.aea_disk.specs.State.{State, Passes, During, KeepsImages}
use Rattle.aea_ledger.specs.Stops.{IsOpened, HasOpening}
use Rattle.aea_ledger.specs.declared.open.OpenFault.{OpenFault}
use Rattle.aea_ledger.specs.declared.open.OpenFault.TheVariants as opening
use Rattle.aea_records.specs.Faults.{HasOpenHeader, IsNoArchive, IsBadAt}
use Rattle.aea_ledger.specs.Openings.{Answers, IsAnswered}
use Rattle.aea_ledger.specs.Values.{Opened}
use Rattle.aea_command.specs.declared.refusal.Refusal.{Refusal}
use Rattle.aea_command.specs.declared.refusal.Refusal.TheVariants.{NoArchive, LedgerBad, Occupied}
use Rattle.aea_command.specs.declared.refusal.Failure.{Failure}
use Rattle.aea_command.specs.declared.refusal.Failure.TheVariants as failure
use Rattle.aea_command.specs.Failures.{opening_failure}
use Rattle.aea_command.specs.Causes.{place_of, IsFirst, IsStopped, Refuses}
use Rattle.aea_command.specs.Openings.{OpeningCauses, IsUntouched, Opens}
use Rattle.aea_command.proofs.Refusing.{refuses_none}

-- a file is not both no archive and one with an open header
pub header_or_none : (bytes : List ℕ) → HasOpenHeader bytes → IsNoArchive bytes → ⊥
header_or_none bytes header (inl short) = let long = header.long in omega arith
header_or_none bytes header (inr shut) = shut header.gate

-- where no call was made, every image is as it was
pub images_same : (s : State) → KeepsImages s s
images_same s t c from to here = let e : t ≡ s.moment = omega arith in subst_image s t c e here
  where
    subst_image : (s : State) (t : ℕ) (c : ℕ → List ℕ) → t ≡ s.moment → s.image t c → s.image s.moment c
    subst_image s t c e h = rw e at h

-- from the first sync on each image has what follows, too
pub opened_more : (old new : State) (P Q : Files → Type 0) → ((c : Files) → P c → Q c) → IsOpened old new P → IsOpened old new Q
opened_more old new P Q from opened = record {
  moment = opened.moment;
  from = opened.from;
  to = opened.to;
  before = opened.before;
  sure = opened.sure;
  later = λ t c after before here. from c (opened.later t c after before here);
}

-- where the first sync failed, or from it on each image has a fact, the same is so of a fact that follows from
-- that
pub opening_more : (old new : State) (P Q : Files → Type 0) → ((c : Files) → P c → Q c) → HasOpening old new P → HasOpening old new Q
opening_more old new P Q from (inl kept) = inl kept
opening_more old new P Q from (inr opened) = inr (opened_more old new P Q from opened)

-- and so it is with further calls
pub opened_then : (old mid new : State) (P Q : Files → Type 0) → Passes old mid → Passes mid new → ((c : Files) → P c → Q c) → During mid new Q → IsOpened old mid P → IsOpened old new Q
opened_then old mid new P Q first second from during opened = record {
  moment = opened.moment;
  from = opened.from;
  to = omega (arith, opened.to, second.later);
  before = λ t c after before here. opened.before t c after before ((second.keeps t c (omega (arith, opened.to))).0 here);
  sure = λ c here. opened.sure c ((second.keeps opened.moment c opened.to).0 here);
  later = λ t c after before here. elim (cases_lt t mid.moment) [
    | inl early ↦ from c (opened.later t c after (omega arith) ((second.keeps t c (omega arith)).0 here))
    | inr late ↦ during t c (omega arith) before here
  ];
}

-- an answer that is an error with this failure
pub err_with : {T : Type 0} (r : Result T Failure) (f : Failure) → IsErrAnd r (λ e. e ≡ f) → r ≡ Err f
err_with (Ok v) f is = absurd is
err_with (Err e) f is = ap Err is

with_fault : {T : Type 0} (r : Result T Failure) (fault other : OpenFault) → r ≡ Err (opening_failure fault) → fault ≡ other → r ≡ Err (opening_failure other)
with_fault r fault other is same = is ∙ ap (λ (x : OpenFault). Err (opening_failure x)) same

-- a fault where a reason was to be returned
opening_refusal : {T : Type 0} (bytes : List ℕ) (fault : OpenFault) (r : Result T Failure) → r ≡ Err (opening_failure fault) → IsAnswered bytes (Err fault) → (why : Refusal) → OpeningCauses bytes why
    → (r ≡ Err (failure.Refused why)) ⊎ IsStopped r
opening_refusal bytes fault r is answered NoArchive refusal = elim (answered.none refusal) [
  | inl e ↦ inl (with_fault r fault opening.NoArchive is cc)
  | inr (inl e) ↦ inr (inl (with_fault r fault opening.DiskFault is cc))
  | inr (inr e) ↦ inr (inr (inr (with_fault r fault opening.NoMemory is cc)))
]
opening_refusal bytes fault r is answered (LedgerBad at) refusal = elim (answered.bad at refusal) [
  | inl e ↦ inl (with_fault r fault (opening.LedgerBad at) is cc)
  | inr (inl e) ↦ inr (inl (with_fault r fault opening.DiskFault is cc))
  | inr (inr e) ↦ inr (inr (inr (with_fault r fault opening.NoMemory is cc)))
]
opening_refusal bytes fault r is answered why refusal = absurd refusal

-- an archive was opened, so there is no such reason
opened_refusal : (bytes : List ℕ) (v : Opened) → IsAnswered bytes (Ok v) → (why : Refusal) → OpeningCauses bytes why → ⊥
opened_refusal bytes v answered NoArchive refusal = elim (answered.none refusal) [
  | inl e ↦ cc
  | inr (inl e) ↦ cc
  | inr (inr e) ↦ cc
]
opened_refusal bytes v answered (LedgerBad at) refusal = elim (answered.bad at refusal) [
  | inl e ↦ cc
  | inr (inl e) ↦ cc
  | inr (inr e) ↦ cc
]
opened_refusal bytes v answered why refusal = refusal

-- of an opening nothing comes before that there is no archive
none_before_none : (bytes : List ℕ) (other : Refusal) → place_of other < place_of NoArchive → OpeningCauses bytes other → ⊥
none_before_none bytes NoArchive before cause = omega arith
none_before_none bytes (LedgerBad at) before cause = omega arith
none_before_none bytes other before cause = cause

-- what is bad is an archive, so nothing comes before that
none_before_bad : (bytes : List ℕ) (at : ℕ) → IsBadAt bytes at → (other : Refusal) → place_of other < place_of (LedgerBad at) → OpeningCauses bytes other → ⊥
none_before_bad bytes at bad NoArchive before cause = header_or_none bytes bad.header cause
none_before_bad bytes at bad (LedgerBad place) before cause = omega arith
none_before_bad bytes at bad other before cause = cause

-- the reason that an opening gives is the first that holds
first_reason : (bytes : List ℕ) (fault : OpenFault) (why : Refusal) → Answers bytes (Err fault) → opening_failure fault ≡ failure.Refused why → IsFirst (OpeningCauses bytes) why
first_reason bytes opening.NoArchive why answers is =
    let h : failure.Refused NoArchive ≡ failure.Refused why = is in
    let e : NoArchive ≡ why = cc in
    subst (λ (w : Refusal). IsFirst (OpeningCauses bytes) w) e (record { stands = answers; none = none_before_none bytes })
first_reason bytes (opening.LedgerBad at) why answers is =
    let h : failure.Refused (LedgerBad at) ≡ failure.Refused why = is in
    let e : LedgerBad at ≡ why = cc in
    subst (λ (w : Refusal). IsFirst (OpeningCauses bytes) w) e (record { stands = answers; none = none_before_bad bytes at answers })
first_reason bytes opening.DiskFault why answers is = let h : failure.Disk ≡ failure.Refused why = is in cc
first_reason bytes opening.NoMemory why answers is = let h : failure.Memory ≡ failure.Refused why = is in cc

-- how an opening that failed says why
pub opening_refuses : {T : Type 0} (reveals : Type 0) (bytes : List ℕ) (fault : OpenFault) (r : Result T Failure) → r ≡ Err (opening_failure fault) → (reveals → Answers bytes (Err fault)) → (reveals → IsAnswered bytes (Err fault))
    → Refuses reveals (OpeningCauses bytes) r
opening_refuses {T} reveals bytes fault r is answers answered = record {
  only = λ why same revealed. let h : Err (opening_failure fault) ≡ Err (failure.Refused why) = sym is ∙ same in first_reason bytes fault why (answers revealed) cc;
  always = λ why revealed first. opening_refusal bytes fault r is (answered revealed) why first.stands;
}

-- how one that did not fail does
pub opened_refuses : (reveals : Type 0) (bytes : List ℕ) (v : Opened) → (reveals → IsAnswered bytes (Ok v)) → Refuses reveals (OpeningCauses bytes) (Ok v)
opened_refuses reveals bytes v answered = refuses_none reveals (OpeningCauses bytes) (Ok v) (λ why e. let h : Ok v ≡ Err (failure.Refused why) = e in cc) (λ revealed why first. opened_refusal bytes v (answered revealed) why first.stands)

-- an opening fails by the disk only where the ledger's opening does
pub disk_fault : (fault : OpenFault) → opening_failure fault ≡ failure.Disk → fault ≡ opening.DiskFault
disk_fault opening.NoArchive e = let h : failure.Refused NoArchive ≡ failure.Disk = e in cc
disk_fault (opening.LedgerBad at) e = let h : failure.Refused (LedgerBad at) ≡ failure.Disk = e in cc
disk_fault opening.DiskFault e = refl
disk_fault opening.NoMemory e = let h : failure.Memory ≡ failure.Disk = e in cc

-- a reason of the opening is the first one, and comes before all others
pub opening_first : (bytes : List ℕ) (why : Refusal) → OpeningCauses bytes why → IsFirst (OpeningCauses bytes) why
opening_first bytes NoArchive cause = record { stands = cause; none = none_before_none bytes }
opening_first bytes (LedgerBad at) cause = record { stands = cause; none = none_before_bad bytes at cause }
opening_first bytes why cause = absurd cause

-- a cause of the opening is one of the first two in the order of refusals
pub opening_early : (bytes : List ℕ) (why : Refusal) → OpeningCauses bytes why → place_of why < place_of Occupied
opening_early bytes NoArchive cause = omega arith
opening_early bytes (LedgerBad at) cause = omega arith
opening_early bytes why cause = absurd cause

-- an answer with an opened ledger is no failure
pub opened_never : (v : Opened) (f : Failure) → Ok v ≡ Err f → ⊥
opened_never v f e = cc

-- the opening does not fail by the input
pub opening_not_input : (fault : OpenFault) → opening_failure fault ≡ failure.Input → ⊥
opening_not_input opening.NoArchive e = cc
opening_not_input (opening.LedgerBad at) e = cc
opening_not_input opening.DiskFault e = cc
opening_not_input opening.NoMemory e = cc

-- nor by the output
pub opening_not_output : (fault : OpenFault) → opening_failure fault ≡ failure.Output → ⊥
opening_not_output opening.NoArchive e = cc
opening_not_output (opening.LedgerBad at) e = cc
opening_not_output opening.DiskFault e = cc
opening_not_output opening.NoMemory e = cc

-- but after a fault of the disk an opening leaves every file, with nothing pending, and its first sync has succeeded
pub untouched : (reveals : Type 0) (old new : State) (opening : Result Opened Failure) → Opens reveals old new opening → opening ≢ Err failure.Disk → IsUntouched reveals old new
untouched reveals old new opening opens differs = record {
  images = opens.reads.crash;
  files = opens.reads.contents;
  synced = opens.synced differs;
  sure = opens.opened differs;
}
