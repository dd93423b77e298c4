-- A run of `copies`, by the calls that begin copies and what is printed then.
use Rattle.std.proofs.Common.{◌≡◌, ◌≢◌, Bool, Err, IfOk, Result, refl, ap}
use Rattle.aea_io.specs.Streams.{SinkState}
use Rattle.aea_disk.specs.State.{State}
use Rattle.aea_command.specs.declared.refusal.Failure.{Failure}
use Rattle.aea_command.specs.declared.refusal.Failure.TheVariants as failure
use Rattle.aea_command.specs.declared.status.Status.TheVariants.{Done}
use Rattle.aea_command.specs.Failures.{Answer}
use Rattle.aea_command.specs.Printed.{PrintsText}
use Rattle.aea_command_copies.specs.Copies.{copies_line, EndsBegun, Begins, BeginsOver}

-- an answer that says no more
pub over_as : (reveals : Type 0) (on : Bool) (fault begun then done : Type 0) (old new seen now : State) → (then → fault) → (fault → then) → (done → begun) → (begun → done) → BeginsOver reveals on fault begun old new seen now → BeginsOver reveals on then done old new seen now
over_as reveals on fault begun then done old new seen now back forth has says over = record {
  makes = record {
    none = λ no fine. over.makes.none (λ is. no (says is)) (λ is. fine (forth is));
    made = λ is. over.makes.made (has is);
    synced = λ is. over.makes.synced (has is);
    others = over.makes.others;
    stays = over.makes.stays;
    any_moment = over.makes.any_moment;
    good = over.makes.good;
  };
  goes = over.goes;
  set = λ is. over.set (has is);
  contents = over.contents;
  images = over.images;
  stops = over.stops;
  kept = over.kept;
  cause = λ is. over.cause (back is);
  still = λ no. over.still (λ is. no (forth is));
  beneath = λ revealed ready is. over.beneath revealed ready (back is);
  in_room = λ revealed ready fits is. over.in_room revealed ready fits (back is);
}

-- what is printed makes it a run
pub begins_by : (reveals : Type 0) (on : Bool) (fault begun : Type 0) (old new seen now : State) (before after : SinkState) (answer : Answer) → IfOk answer (λ status. status ≡ Done) → PrintsText before after answer copies_line
    → (answer ≡ Err failure.Disk → fault) → (EndsBegun answer → begun) → BeginsOver reveals on fault begun old new seen now → Begins reveals seen now before after answer
begins_by reveals on fault begun old new seen now before after answer done prints back has over = record {
  done = done;
  prints = prints;
  set = λ is. over.set (has is);
  contents = over.contents;
  images = over.images;
  stops = over.stops;
  in_room = λ revealed ready fits is. over.in_room revealed ready fits (back is);
}

-- a failure that is none of the output says that no copies were begun
pub not_begun : (f : Failure) → f ≢ failure.Output → EndsBegun (Err f) → ⊥
not_begun failure.Output differs is = differs refl
not_begun f differs is = is

pub not_output : (f : Failure) → (let one : Result (Unit {0}) Failure = Err f in one ≢ Err failure.Output) → f ≢ failure.Output
not_output f differs e = differs (ap Err e)

-- the same failure of another call
pub as_answer : (f : Failure) → (let one : Result (Unit {0}) Failure = Err f in one ≡ Err failure.Disk) → (let a : Answer = Err f in a ≡ Err failure.Disk)
as_answer f e = let h : f ≡ failure.Disk = cc in ap Err h

pub from_answer : (f : Failure) → (let a : Answer = Err f in a ≡ Err failure.Disk) → (let one : Result (Unit {0}) Failure = Err f in one ≡ Err failure.Disk)
from_answer f e = let h : f ≡ failure.Disk = cc in ap Err h
