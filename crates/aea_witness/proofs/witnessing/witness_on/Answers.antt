use Rattle.std.proofs.Common.{ℕ, [], ◌∷◌, refl, sym, subst, arith}
use Rattle.aea_disk.specs.Files.{Files}
use Rattle.aea_rehearse.specs.Rooms.{report_room}
use Rattle.aea_rehearse.proofs.Homes.{cells_room_stays, cells_willing}
use Rattle.aea_witness.specs.Objects.{first_object, second_object, third_object}
use Rattle.aea_witness.specs.Rooms.{IsEmptySink}
use Rattle.aea_witness.specs.Losses.{IsLostAndMended}
use Rattle.aea_witness.specs.Witnessed.{witness_objects}
use Rattle.aea_witness.proofs.Rooms.{room_stays}
use Rattle.aea_witness.proofs.witnessing.witness_on.Goals as goal

pub lose_and_mend-requires-clause-room : goal.lose_and_mend-requires-clause-room
lose_and_mend-requires-clause-room g c = (room_stays (g.D.Disk.state c.args.disk.now) (g.D.Disk.state c.build.new.disk) c.build.ensures.time c.build.ensures.steady c.requires.room).cells

pub lose_and_mend-requires-clause-puts : goal.lose_and_mend-requires-clause-puts
lose_and_mend-requires-clause-puts g c = (witness_objects, c.in_ok-ledger.ensures.built.puts, omega arith, omega arith)

pub lose_and_mend-requires-clause-report : goal.lose_and_mend-requires-clause-report
lose_and_mend-requires-clause-report g c = subst (λ (n : ℕ). IsEmptySink (report_room n) c.args.report.now) (sym c.in_ok-ledger.ensures.built.puts.nodes) c.requires.report

pub fetch-requires-clause-willing : goal.fetch-requires-clause-willing
fetch-requires-clause-willing g c =
    let old = g.D.Disk.state c.args.disk.now in
    let mid = g.D.Disk.state c.build.new.disk in
    let new = g.D.Disk.state c.lose_and_mend.new.disk in
    cells_willing new (cells_room_stays mid new c.lose_and_mend.ensures.time c.lose_and_mend.ensures.steady (room_stays old mid c.build.ensures.time c.build.ensures.steady c.requires.room).cells)

pub fetch-requires-clause-puts : goal.fetch-requires-clause-puts
fetch-requires-clause-puts g c =
    let again = (c.in_ok-outcome.ensures.mended witness_objects c.in_ok-ledger.ensures.built.puts).again in
    (first_object, second_object ∷ third_object ∷ [], again, refl, omega arith)

pub returns : goal.returns
returns g c =
    let v = c.in_ok-ledger.ledger in
    let whole = (g.D.Disk.state c.build.new.disk).files in
    let built = c.in_ok-ledger.ensures.built in
    let lost = c.in_ok-outcome.ensures.mended witness_objects built.puts in
    record {
      witnessed = record {
        opened = v;
        whole = whole;
        filled = built;
        mended = subst (λ (d : Files). IsLostAndMended v witness_objects c.lose_and_mend.new.report.bytes.items whole d c.in_ok-outcome.outcome) (sym (c.fetch.ensures.reads.contents c.requires.reveals)) lost;
        bytes = c.in_ok-fetch.ensures.got first_object (second_object ∷ third_object ∷ []) lost.again refl;
      };
    }
