-- Why a run over a disk with copies is refused.
use Rattle.std.proofs.Common.{◌≡◌, inl, inr, ⊎_elim, ℕ, Bool, true, false, List, Option, None, Some, Result, Ok, Err, refl, sym, arith}
use Rattle.std.specs.Prelude.{IsSome}
use Rattle.aea_io.specs.Streams.{SourceState, SinkState}
use Rattle.aea_disk.specs.State.{State}
use Rattle.aea_adopt.specs.Adopts.{Adopts}
use Rattle.aea_adopt.specs.Choosing.{AreBad, AreDifferent}
use Rattle.aea_adopt.specs.declared.answers.Adopted.{Adopted}
use Rattle.aea_adopt.specs.declared.answers.AdoptFault.{AdoptFault}
use Rattle.aea_adopt.specs.declared.answers.AdoptFault.TheVariants as adopting
use Rattle.aea_mirror.specs.Mirrored.{mirror_state, fresh}
use Rattle.aea_command.specs.declared.refusal.Refusal.{Refusal}
use Rattle.aea_command.specs.declared.refusal.Refusal.TheVariants.{CopiesBad, CopiesDiffer}
use Rattle.aea_command.specs.Causes.{IsFirst}
use Rattle.aea_command.specs.Worlds.{World, world}
use Rattle.aea_dispatch.specs.declared.command.Command.{Command}
use Rattle.aea_dispatch.specs.Does.{UsesDisk, Causes, IsByInput, IsRevealedFor}
use Rattle.aea_dispatch.proofs.Alike.{causes_alike, never_bad, never_differ}
use Rattle.aea_cli.specs.Beneath.{met_world, CausesAdopted, CausesBeneath, RunCauses}
use Rattle.aea_mirror.specs.States.{outer_all}
use Rattle.aea_adopt.proofs.Left.{adopted_leaves, adopted_on, left_alike}

module _ (reveals : Type 0) (revealed : reveals) (command : Command) (uses : UsesDisk command) (old mid : State) (i : SourceState) (o : SinkState) (a : Adopted) (name : ℕ) (adopts : Adopts reveals old mid (Ok a)) where
  abbrev before : World
  before = world reveals old i o

  abbrev met : World
  met = world reveals (mirror_state reveals mid (fresh name a)) i o

  -- a cause over the Mirror is one of the run
  pub from_met : (why : Refusal) → Causes command met why → CausesBeneath command before why
  from_met (CopiesBad first second) causes = absurd (never_bad command met first second causes)
  from_met (CopiesDiffer at) causes = absurd (never_differ command met at causes)
  from_met why causes = record {
    files = mid.files;
    leaves = adopted_leaves old.files mid.files a (adopts.answers revealed);
    on = a.on;
    are = adopted_on old.files mid.files a (adopts.answers revealed);
    causes = causes_alike command met (met_world before mid.files a.on) refl refl refl why causes;
  }

  -- and the other way round
  pub to_met : (why : Refusal) → CausesBeneath command before why → Causes command met why
  to_met (CopiesBad first second) causes = absurd (⊎_elim
      (λ (e : (let r : Result Adopted AdoptFault = Ok a in r ≡ Err (adopting.CopiesBad first second))). cc)
      (λ (e : (let r : Result Adopted AdoptFault = Ok a in r ≡ Err adopting.DiskFault)). cc)
      ((adopts.exactly revealed).bad first second causes))
  to_met (CopiesDiffer at) causes = absurd (⊎_elim
      (λ (e : (let r : Result Adopted AdoptFault = Ok a in r ≡ Err (adopting.CopiesDiffer at))). cc)
      (λ (e : (let r : Result Adopted AdoptFault = Ok a in r ≡ Err adopting.DiskFault)). cc)
      ((adopts.exactly revealed).differ at causes))
  to_met why causes =
      let here : CausesAdopted command before why = causes in
      let is = adopts.answers revealed in
      let files = outer_all here.files mid.files (left_alike old.files mid.files here.files mid.files a is here.leaves (adopted_leaves old.files mid.files a is)) in
      let on = both_on here.on a.on (λ yes. (adopted_on old.files mid.files a is).1 (here.are.0 yes)) (λ yes. here.are.1 ((adopted_on old.files mid.files a is).0 yes)) in
      causes_alike command (met_world before here.files here.on) met files on refl why here.causes
    where
      both_on : (b c : Bool) → (b ≡ true → c ≡ true) → (c ≡ true → b ≡ true) → b ≡ c
      both_on true c there back = sym (there refl)
      both_on false true there back = let h = back refl in cc
      both_on false false there back = refl

  -- the first over the Mirror is the first of the run
  pub first_met : (why : Refusal) → IsFirst (Causes command met) why → IsFirst (RunCauses command before) why
  first_met why first = record {
    stands = inl (uses, from_met why first.stands);
    none = λ other earlier causes. ⊎_elim
        (λ (here : UsesDisk command × CausesBeneath command before other). first.none other earlier (to_met other here.1))
        (λ (not : (UsesDisk command → ⊥) × Causes command before other). not.0 uses)
        causes;
  }

  pub met_first : (why : Refusal) → IsFirst (RunCauses command before) why → IsFirst (Causes command met) why
  met_first why first = record {
    stands = ⊎_elim
        (λ (here : UsesDisk command × CausesBeneath command before why). to_met why here.1)
        (λ (not : (UsesDisk command → ⊥) × Causes command before why). absurd (not.0 uses))
        first.stands;
    none = λ other earlier causes. first.none other earlier (inl (uses, from_met other causes));
  }

-- a run of a command that uses no disk is refused as the command is
module _ (command : Command) (w : World) (idle : UsesDisk command → ⊥) where
  idle_cause : (why : Refusal) → RunCauses command w why → Causes command w why
  idle_cause why cause = ⊎_elim
      (λ (here : UsesDisk command × CausesBeneath command w why). absurd (idle here.0))
      (λ (not : (UsesDisk command → ⊥) × Causes command w why). not.1)
      cause

  pub first_idle : (why : Refusal) → IsFirst (Causes command w) why → IsFirst (RunCauses command w) why
  first_idle why first = record {
    stands = inr (idle, first.stands);
    none = λ other earlier cause. first.none other earlier (idle_cause other cause);
  }

  pub idle_first : (why : Refusal) → IsFirst (RunCauses command w) why → IsFirst (Causes command w) why
  idle_first why first = record {
    stands = idle_cause why first.stands;
    none = λ other earlier cause. first.none other earlier (inr (idle, cause));
  }

-- that copies could not be adopted is the first reason
pub first_bad : (command : Command) (w : World) → UsesDisk command → (first second : ℕ) → AreBad w.disk.files first second → IsFirst (RunCauses command w) (CopiesBad first second)
first_bad command w uses first second bad = record { stands = inl (uses, bad); none = λ other before cause. absurd (omega (arith, before)) }

pub first_differ : (command : Command) (w : World) → UsesDisk command → (at : ℕ) → AreDifferent w.disk.files at → IsFirst (RunCauses command w) (CopiesDiffer at)
first_differ command w uses at differ = record { stands = inl (uses, differ); none = λ other before cause. absurd (omega (arith, before)) }

-- what decides a refusal of the command is not known, and the disk is: then the input is not
pub input_unknown : (command : Command) (w : World) (why : Refusal) → (UsesDisk command → w.reveals) → (IsRevealedFor command w why → ⊥) → w.input.left ≡ None
input_unknown command w why disk unknown = none_left w.input.left (IsByInput command why) (λ known. unknown (disk, known))
  where
    none_left : (left : Option (List ℕ)) (By : Type 0) → ((By → IsSome left) → ⊥) → left ≡ None
    none_left None By unknown = refl
    none_left (Some bytes) By unknown = absurd (unknown (λ by. refl))
