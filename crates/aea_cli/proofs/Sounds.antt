-- What is so of every answer of a run, by where it ended.
use Rattle.std.proofs.Common.{◌≡◌, ◌≢◌, Result, Ok, Err, refl, sym, ap, subst, arith}
use Rattle.aea_faults.specs.Faults.{Rose}
use Rattle.aea_io.specs.Streams.{SourceState, SinkState}
use Rattle.aea_disk.specs.State.{State, Goes, IsReady}
use Rattle.aea_disk.proofs.Moments.{goes_none, goes_both, goes_passes}
use Rattle.aea_adopt.specs.Adopts.{Adopts}
use Rattle.aea_adopt.specs.declared.answers.Adopted.{Adopted}
use Rattle.aea_adopt.specs.declared.answers.AdoptFault.{AdoptFault}
use Rattle.aea_adopt.specs.declared.answers.AdoptFault.TheVariants as adopting
use Rattle.aea_adopt.proofs.Faultless.{adopted_not}
use Rattle.aea_mirror.specs.Mirrored.{Kept, mirror_state}
use Rattle.aea_command.specs.declared.refusal.Failure.{Failure}
use Rattle.aea_command.specs.declared.refusal.Failure.TheVariants as failure
use Rattle.aea_command.specs.declared.refusal.Refusal.TheVariants.{CopiesBad, CopiesDiffer}
use Rattle.aea_command.specs.Failures.{Answer}
use Rattle.aea_command.specs.Worlds.{world}
use Rattle.aea_dispatch.specs.Sound.{IsSound}
use Rattle.aea_cli.specs.Beneath.{adopting_failure}
use Rattle.aea_cli.specs.Ends.{IsSoundRun}

-- nothing was done
pub sound_unbegun : (reveals : Type 0) (s : State) (i : SourceState) (o : SinkState) (f : Failure) → (let a : Answer = Err f in a ≢ Err failure.Disk) → (let a : Answer = Err f in a ≢ Err failure.Input) → (let a : Answer = Err f in a ≢ Err failure.Output) → IsSoundRun reveals s s i i o o (Err f)
sound_unbegun reveals s i o f disk input output = record {
  well = tt;
  flushed = tt;
  disk_kept = omega arith;
  input_kept = omega arith;
  out_kept = omega arith;
  disk_cause = λ e. absurd (disk e);
  input_cause = λ e. absurd (input e);
  out_cause = λ e. absurd (output e);
  disk_still = λ no. refl;
  input_still = λ no. refl;
  out_still = λ no. refl;
  time = goes_none s;
}

-- the failure says that the disk failed, where that is why copies were not adopted
is_fault : (fault : AdoptFault) → (let a : Answer = Err (adopting_failure fault) in a ≡ Err failure.Disk) → fault ≡ adopting.DiskFault
is_fault (adopting.CopiesBad first second) e = let h : (let a : Answer = Err (failure.Refused (CopiesBad first second)) in a ≡ Err failure.Disk) = e in absurd (cc)
is_fault (adopting.CopiesDiffer at) e = let h : (let a : Answer = Err (failure.Refused (CopiesDiffer at)) in a ≡ Err failure.Disk) = e in absurd (cc)
is_fault adopting.DiskFault e = refl

not_input : (fault : AdoptFault) → (let a : Answer = Err (adopting_failure fault) in a ≡ Err failure.Input) → ⊥
not_input (adopting.CopiesBad first second) e = let h : (let a : Answer = Err (failure.Refused (CopiesBad first second)) in a ≡ Err failure.Input) = e in cc
not_input (adopting.CopiesDiffer at) e = let h : (let a : Answer = Err (failure.Refused (CopiesDiffer at)) in a ≡ Err failure.Input) = e in cc
not_input adopting.DiskFault e = let h : (let a : Answer = Err failure.Disk in a ≡ Err failure.Input) = e in cc

not_output : (fault : AdoptFault) → (let a : Answer = Err (adopting_failure fault) in a ≡ Err failure.Output) → ⊥
not_output (adopting.CopiesBad first second) e = let h : (let a : Answer = Err (failure.Refused (CopiesBad first second)) in a ≡ Err failure.Output) = e in cc
not_output (adopting.CopiesDiffer at) e = let h : (let a : Answer = Err (failure.Refused (CopiesDiffer at)) in a ≡ Err failure.Output) = e in cc
not_output adopting.DiskFault e = let h : (let a : Answer = Err failure.Disk in a ≡ Err failure.Output) = e in cc

adoption_fault : (fault : AdoptFault) → fault ≡ adopting.DiskFault → (let r : Result Adopted AdoptFault = Err fault in r ≡ Err adopting.DiskFault)
adoption_fault fault is = ap Err is

fault_is : (fault : AdoptFault) → (let r : Result Adopted AdoptFault = Err fault in r ≡ Err adopting.DiskFault) → fault ≡ adopting.DiskFault
fault_is fault e = cc

-- copies could not be adopted
pub sound_unadopted : (reveals : Type 0) (old new : State) (i : SourceState) (o : SinkState) (fault : AdoptFault) → Adopts reveals old new (Err fault) → IsSoundRun reveals old new i i o o (Err (adopting_failure fault))
sound_unadopted reveals old new i o fault adopts =
    let writes = adopts.writes in
    record {
      well = tt;
      flushed = tt;
      disk_kept = writes.kept;
      input_kept = omega arith;
      out_kept = omega arith;
      disk_cause = λ e revealed. writes.cause (adoption_fault fault (is_fault fault e));
      input_cause = λ e. absurd (not_input fault e);
      out_cause = λ e. absurd (not_output fault e);
      disk_still = λ no. writes.still (λ is. no (ap (λ (f : AdoptFault). Err (adopting_failure f)) (fault_is fault is)));
      input_still = λ no. refl;
      out_still = λ no. refl;
      time = goes_passes old new writes.kept writes.time;
    }

-- the command ran over a Mirror that was just made
pub sound_adopted : (reveals : Type 0) (old mid new : State) (k l : Kept) (i j : SourceState) (o p : SinkState) (a : Adopted) (answer : Answer) → Adopts reveals old mid (Ok a) → k.own ≡ 0 → (reveals → IsReady (mirror_state reveals mid k))
    → IsSound (world reveals (mirror_state reveals mid k) i o) (world reveals (mirror_state reveals new l) j p) answer → Goes mid new → IsSoundRun reveals old new i j o p answer
sound_adopted reveals old mid new k l i j o p a answer adopts none ready sound goes =
    let writes = adopts.writes in
    let same : mid.faults ≡ old.faults = writes.still (adopted_not a) in
    let counts = goes.counts in
    let stops = goes.stops in
    record {
      well = sound.well;
      flushed = sound.flushed;
      disk_kept = omega (arith, same, counts);
      input_kept = sound.input_kept;
      out_kept = sound.out_kept;
      disk_cause = λ e revealed. let rose : Rose mid.faults new.faults = sound.disk_beneath revealed (ready revealed) e in omega (arith, rose, same);
      input_cause = sound.input_cause;
      out_cause = sound.out_cause;
      disk_still = λ no. let still : (mirror_state reveals new l).faults ≡ (mirror_state reveals mid k).faults = sound.disk_still no in omega (arith, still, none, same, counts, stops);
      input_still = sound.input_still;
      out_still = sound.out_still;
      time = goes_both old mid new (goes_passes old mid writes.kept writes.time) goes;
    }

-- the command used no disk
pub sound_idle : (reveals : Type 0) (old new : State) (i j : SourceState) (o p : SinkState) (answer : Answer) → new ≡ old → answer ≢ Err failure.Disk → IsSound (world reveals old i o) (world reveals new j p) answer → IsSoundRun reveals old new i j o p answer
sound_idle reveals old new i j o p answer same never sound = record {
  well = sound.well;
  flushed = sound.flushed;
  disk_kept = sound.disk_kept;
  input_kept = sound.input_kept;
  out_kept = sound.out_kept;
  disk_cause = λ e. absurd (never e);
  input_cause = sound.input_cause;
  out_cause = sound.out_cause;
  disk_still = sound.disk_still;
  input_still = sound.input_still;
  out_still = sound.out_still;
  time = subst (λ (s : State). Goes old s) (sym same) (goes_none old);
}
