use Rattle.std.proofs.Common.{[], ◌∷◌, ◌++◌, refl, arith}
use Rattle.aea_io.proofs.Printing.{prints_then, prints_stopped, prints_as, prints_none}
use Rattle.aea_plan.specs.Verdicts.{lines_after, line_of}
use Rattle.aea_plan.proofs.Printing.{texts_of, texts-more, past-more, whole-around}
use Rattle.aea_plan.proofs.print.print_lines.Goals as goal

pub loop-damaged-init : goal.loop-damaged-init
loop-damaged-init g c = record {
  inside = omega arith;
  kept = tt;
  room = omega arith;
  walked = ([], record { whole = refl }, prints_none (g.O.Sink.state c.args.out.now) c.args.page.now tt);
}

pub loop-damaged-preserved : goal.loop-damaged-preserved
loop-damaged-preserved g c =
    let v = c.args.verdicts.now in
    let from = c.loop-damaged.from in
    let next = c.next_damaged.new.from in
    let line = line_of v c.in-Some.damaged.block in
    let walked = c.loop-damaged.invariant.walked in
    let roomier = c.in_ok-print_block.ensures.room in
    let room = c.loop-damaged.invariant.room in
    record {
      inside = c.in-Some.ensures.inside;
      kept = c.in_ok-print_block.ensures.kept;
      room = omega arith;
      walked = (
        walked.0 ++ line ∷ [],
        past-more v from next walked.0 line walked.1 c.in-Some.ensures.lines,
        rw (texts-more walked.0 line) (prints_then walked.2 (prints_as tt c.in_ok-print_block.ensures.prints)),
      );
    }

pub returns-in_err-print_block : goal.returns-in_err-print_block
returns-in_err-print_block g c =
    let v = c.args.verdicts.now in
    let from = c.loop-damaged.from in
    let next = c.next_damaged.new.from in
    let line = line_of v c.in-Some.damaged.block in
    let walked = c.loop-damaged.invariant.walked in
    rw (whole-around v from next walked.0 line walked.1 c.in-Some.ensures.lines)
    (prints_stopped (texts_of (lines_after v next)) c.from_residual.ensures.0 (prints_then walked.2 c.in_err-print_block.ensures.prints))
