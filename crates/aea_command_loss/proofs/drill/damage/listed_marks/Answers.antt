use Rattle.std.proofs.Common.{◌≡◌, ◌+◌, arith, sym, ◌∙◌}
use Rattle.aea_command_loss.proofs.DrillLemmas.DamageLines.{taken_bad, taken_start, taken_more, taken_all, empty_list}
use Rattle.aea_command_loss.proofs.DrillLemmas.LeftMarks.{set_in}
use Rattle.aea_command_loss.proofs.drill.damage.listed_marks.Goals as goal

pub returns-in_default-clause-bad : goal.returns-in_default-clause-bad
returns-in_default-clause-bad c line e =
    let same : c.loop-rest.line + 1 ≡ line = cc in
    rw (← same)
    (taken_bad c.args.lattice.now c.args.list.now c.loop-rest.rest.now c.split_line.result.0.now c.split_line.result.1.now c.loop-rest.line c.loop-rest.marks.marks
    c.split_line.ensures.lines c.in_default.ensures.none c.loop-rest.invariant.taken)

pub loop-rest-preserved : goal.loop-rest-preserved
loop-rest-preserved c = record {
  same = c.set.ensures.lattice ∙ c.loop-rest.invariant.same;
  taken = rw (set_in c.args.lattice.now c.loop-rest.marks c.set.new.self.marks c.in-Some.block c.loop-rest.invariant.same c.set.ensures.marks)
      (taken_more c.args.lattice.now c.args.list.now c.loop-rest.rest.now c.split_line.result.0.now c.split_line.result.1.now c.loop-rest.line c.loop-rest.marks.marks c.in-Some.block
      c.split_line.ensures.lines c.in-Some.ensures.block c.in-Some.ensures.text c.loop-rest.invariant.taken);
  few = omega arith;
}

pub returns-clause-marks : goal.returns-clause-marks
returns-clause-marks c =
    (taken_all c.args.lattice.now c.args.list.now c.loop-rest.rest.now c.loop-rest.line c.loop-rest.marks.marks
    (empty_list c.loop-rest.rest.now (sym c.loop-rest-test.ensures)) c.loop-rest.invariant.taken).1

pub returns-clause-named : goal.returns-clause-named
returns-clause-named c =
    (taken_all c.args.lattice.now c.args.list.now c.loop-rest.rest.now c.loop-rest.line c.loop-rest.marks.marks
    (empty_list c.loop-rest.rest.now (sym c.loop-rest-test.ensures)) c.loop-rest.invariant.taken).0

pub loop-rest-init : goal.loop-rest-init
loop-rest-init c = record {
  same = c.in_ok-marks.ensures.lattice;
  taken = rw c.in_ok-marks.ensures.clear (taken_start c.args.lattice.now c.args.list.now);
  few = omega arith;
}
