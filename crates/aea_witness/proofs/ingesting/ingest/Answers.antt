use Rattle.std.proofs.Common.{◌≡◌, ℕ, List, [], ◌∷◌, length, ap, subst, arith}
use Rattle.std.specs.Prelude.{codes}
use Rattle.aea_ledger.specs.Values.{Opened}
use Rattle.aea_disk.specs.Files.{Files}
use Rattle.aea_disk.proofs.Moments.{passes_both}
use Rattle.aea_append.specs.Frames.{EndsInside}
use Rattle.aea_witness.specs.Objects.{first_object, second_object, third_object, fourth_object, cut_frame, witness_stream, HasPuts}
use Rattle.aea_witness.proofs.Lists.{third_small, fourth_small, third_new, fourth_new}
use Rattle.aea_witness.specs.Streams.{BeginsWithNew, IsCutShort}
use Rattle.aea_witness.proofs.Rooms.{room_stays}
use Rattle.aea_witness.proofs.ingesting.ingest.Goals as goal

-- the stream begins with the third frame
whole : (v : Opened) (c : Files) (stream : List ℕ) → stream ≡ witness_stream → HasPuts v (first_object ∷ second_object ∷ []) c → BeginsWithNew v c stream
whole v c stream is puts = record {
  object = third_object;
  rest = cut_frame;
  small = third_small;
  begins = is;
  brief = (let long = ap length is in omega (arith, long));
  puts = first_object ∷ second_object ∷ [];
  has = puts;
  few = omega arith;
  new = third_new;
}

-- and what is left ends inside the fourth
short : (v : Opened) (c : Files) (stream : List ℕ) → stream ≡ cut_frame → HasPuts v (first_object ∷ second_object ∷ third_object ∷ []) c → IsCutShort v c stream
short v c stream is puts = record {
  object = fourth_object;
  front = codes "what never";
  small = fourth_small;
  begins = is;
  cut = omega arith;
  puts = first_object ∷ second_object ∷ third_object ∷ [];
  has = puts;
  few = omega arith;
  new = fourth_new;
}

pub take_in-requires-clause-frame : goal.take_in-requires-clause-frame
take_in-requires-clause-frame g c = whole c.args.ledger.now (g.D.Disk.state c.args.disk.now).files c.new-source.result.rest.now c.new-source.ensures c.requires.puts

pub meet_cut-requires-clause-room : goal.meet_cut-requires-clause-room
meet_cut-requires-clause-room g c = room_stays (g.D.Disk.state c.args.disk.now) (g.D.Disk.state c.take_in.new.disk) c.take_in.ensures.time c.take_in.ensures.steady c.requires.room

pub meet_cut-requires-clause-cut : goal.meet_cut-requires-clause-cut
unfolding whole
meet_cut-requires-clause-cut g c =
    let taken = c.in_ok-take_in.ensures.taken (whole c.args.ledger.now (g.D.Disk.state c.args.disk.now).files c.new-source.result.rest.now c.new-source.ensures c.requires.puts) in
    short c.take_in.new.ledger (g.D.Disk.state c.take_in.new.disk).files c.take_in.new.source.rest.now taken.1 taken.0

pub returns-clause-filled : goal.returns-clause-filled
unfolding whole short
returns-clause-filled g c =
    let taken = c.in_ok-take_in.ensures.taken (whole c.args.ledger.now (g.D.Disk.state c.args.disk.now).files c.new-source.result.rest.now c.new-source.ensures c.requires.puts) in
    record {
      puts = c.in_ok-meet_cut.ensures.stays (short c.take_in.new.ledger (g.D.Disk.state c.take_in.new.disk).files c.take_in.new.source.rest.now taken.1 taken.0);
      cut = subst (EndsInside c.meet_cut.new.ledger) taken.1 c.in_ok-meet_cut.ensures.cut;
      taken =
          let first = c.take_in.ensures.counted in
          let then = c.in_ok-meet_cut.ensures.counted in
          let long = ap length c.new-source.ensures in
          let none = c.requires.none in
          omega (arith, first, then, long, none);
    }

pub returns-clause-time : goal.returns-clause-time
returns-clause-time g c = passes_both (g.D.Disk.state c.args.disk.now) (g.D.Disk.state c.take_in.new.disk) (g.D.Disk.state c.meet_cut.new.disk) c.take_in.ensures.time c.meet_cut.ensures.time

pub take_in-requires-clause-count : goal.take_in-requires-clause-count
take_in-requires-clause-count g c = let none = c.requires.none in omega (arith, none)

pub meet_cut-requires-clause-count : goal.meet_cut-requires-clause-count
meet_cut-requires-clause-count g c =
    let first = c.take_in.ensures.counted in
    let long = ap length c.new-source.ensures in
    let none = c.requires.none in
    omega (arith, first, long, none)

pub returns-in_err-meet_cut-clause-time : goal.returns-in_err-meet_cut-clause-time
returns-in_err-meet_cut-clause-time g c = passes_both (g.D.Disk.state c.args.disk.now) (g.D.Disk.state c.take_in.new.disk) (g.D.Disk.state c.meet_cut.new.disk) c.take_in.ensures.time c.meet_cut.ensures.time
