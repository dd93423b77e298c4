-- Why `copies` is refused.
use Rattle.std.proofs.Common.{◌≡◌, ◌⊎◌, inl, inr, ◌<◌, ℕ, Bool, true, false, List, refl, sym, ◌∙◌, ap, arith, Result, Ok, Err}
use Rattle.std.proofs.lemmas.Bool.{false≢true}
use Rattle.aea_disk.specs.State.{State}
use Rattle.aea_ledger.specs.Values.{Opened}
use Rattle.aea_ledger.specs.declared.open.OpenFault.{OpenFault}
use Rattle.aea_ledger.specs.declared.open.OpenFault.TheVariants as opening
use Rattle.aea_command.specs.declared.refusal.Refusal.{Refusal}
use Rattle.aea_command.specs.declared.refusal.Refusal.TheVariants.{NoArchive, LedgerBad, CopiesAreOn}
use Rattle.aea_command.specs.declared.refusal.Failure.{Failure}
use Rattle.aea_command.specs.declared.refusal.Failure.TheVariants as failure
use Rattle.aea_command.specs.Causes.{IsFirst, IsStopped, Refuses, place_of}
use Rattle.aea_command.specs.Failures.{opening_failure}
use Rattle.aea_command.specs.Openings.{OpeningCauses, Opens}
use Rattle.aea_command.proofs.Behind.{opened_no_opening}
use Rattle.aea_command.proofs.OpeningCases.{opening_first, opening_early}
use Rattle.aea_command.proofs.Refusing.{refuses_as, refuses_none, refuses_one}
use Rattle.aea_command_copies.specs.Copies.{CopiesCauses}

from_opening : (bytes : List ℕ) (on : Bool) (why : Refusal) → OpeningCauses bytes why → CopiesCauses bytes on why
from_opening bytes on NoArchive cause = cause
from_opening bytes on (LedgerBad at) cause = cause
from_opening bytes on why cause = absurd cause

-- an archive that was not opened says why
module _ (reveals : Type 0) (old new : State) (f : Failure) (on : Bool) (opens : Opens reveals old new (Err f)) where
  none_before : (why : Refusal) → IsFirst (OpeningCauses (old.files 0)) why → (other : Refusal) → place_of other < place_of why → CopiesCauses (old.files 0) on other → ⊥
  none_before why first NoArchive before cause = first.none NoArchive before cause
  none_before why first (LedgerBad at) before cause = first.none (LedgerBad at) before cause
  none_before why first CopiesAreOn before cause = let early = opening_early (old.files 0) why first.stands in omega (arith, early, before)
  none_before why first other before cause = cause

  -- where only that copies are on is a reason, the opening was stopped
  where_on : (fault : OpenFault) → f ≡ opening_failure fault → reveals → IsFirst (CopiesCauses (old.files 0) on) CopiesAreOn → IsStopped {T = Opened} (Err f)
  where_on opening.NoArchive e revealed first = absurd (first.none NoArchive (omega arith) (opens.refuses.only NoArchive (ap Err e) revealed).stands)
  where_on (opening.LedgerBad at) e revealed first = absurd (first.none (LedgerBad at) (omega arith) (opens.refuses.only (LedgerBad at) (ap Err e) revealed).stands)
  where_on opening.DiskFault e revealed first = inl (ap Err e)
  where_on opening.NoMemory e revealed first = inr (inr (ap Err e))

  answers : (why : Refusal) → reveals → IsFirst (CopiesCauses (old.files 0) on) why → (let one : Result Opened Failure = Err f in one ≡ Err (failure.Refused why)) ⊎ IsStopped {T = Opened} (Err f)
  answers NoArchive revealed first = opens.refuses.always NoArchive revealed (opening_first (old.files 0) NoArchive first.stands)
  answers (LedgerBad at) revealed first = opens.refuses.always (LedgerBad at) revealed (opening_first (old.files 0) (LedgerBad at) first.stands)
  answers CopiesAreOn revealed first = inr (where_on opens.kinds.0 opens.kinds.1 revealed first)
  answers why revealed first = absurd first.stands

  pub unopened_refused : Refuses {T = Unit {0}} reveals (CopiesCauses (old.files 0) on) (Err f)
  unopened_refused = refuses_as {T = Opened} {U = Unit {0}} reveals (CopiesCauses (old.files 0) on) f (Err f) refl (record {
    only = λ why is revealed.
        let first = opens.refuses.only why is revealed in
        record { stands = from_opening (old.files 0) on why first.stands; none = none_before why first };
    always = answers;
  })

-- one that was opened says that copies are on, or has no reason
module _ (reveals : Type 0) (old mid : State) (v : Opened) (opens : Opens reveals old mid (Ok v)) (on : Bool) where
  before_on : reveals → (other : Refusal) → place_of other < place_of CopiesAreOn → CopiesCauses (old.files 0) on other → ⊥
  before_on revealed NoArchive before cause = opened_no_opening reveals old mid v opens revealed NoArchive cause
  before_on revealed (LedgerBad at) before cause = opened_no_opening reveals old mid v opens revealed (LedgerBad at) cause
  before_on revealed CopiesAreOn before cause = omega (arith, before)
  before_on revealed other before cause = cause

  one_on : reveals → (other : Refusal) → IsFirst (CopiesCauses (old.files 0) on) other → other ≡ CopiesAreOn
  one_on revealed NoArchive first = absurd (opened_no_opening reveals old mid v opens revealed NoArchive first.stands)
  one_on revealed (LedgerBad at) first = absurd (opened_no_opening reveals old mid v opens revealed (LedgerBad at) first.stands)
  one_on revealed CopiesAreOn first = refl
  one_on revealed other first = absurd first.stands

  pub refused_on : on ≡ true → Refuses {T = Unit {0}} reveals (CopiesCauses (old.files 0) on) (Err (failure.Refused CopiesAreOn))
  refused_on is = refuses_one reveals (CopiesCauses (old.files 0) on) (Err (failure.Refused CopiesAreOn)) CopiesAreOn refl (λ revealed. record { stands = is; none = before_on revealed }) one_on

  none_off : on ≡ false → reveals → (why : Refusal) → CopiesCauses (old.files 0) on why → ⊥
  none_off off revealed NoArchive cause = opened_no_opening reveals old mid v opens revealed NoArchive cause
  none_off off revealed (LedgerBad at) cause = opened_no_opening reveals old mid v opens revealed (LedgerBad at) cause
  none_off off revealed CopiesAreOn cause = false≢true (sym off ∙ cause)
  none_off off revealed why cause = cause

  pub refused_none : (u : Unit {0}) → on ≡ false → Refuses {T = Unit {0}} reveals (CopiesCauses (old.files 0) on) (Ok u)
  refused_none u off = refuses_none reveals (CopiesCauses (old.files 0) on) (Ok u) (λ why e. let h : Ok u ≡ Err (failure.Refused why) = e in cc) (λ revealed why first. none_off off revealed why first.stands)
