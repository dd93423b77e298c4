use Rattle.std.proofs.Common.{Option, Ok, refl, ◌∙◌, ap, subst, arith}
use Rattle.std.specs.Io.KnownBytes.{IsAtEnd}
use Rattle.std.specs.Prelude.{IfNone}
use Rattle.aea_lattice.specs.Blocks.{blocks_count}
use Rattle.aea_view.specs.Marked.{is_marked}
use Rattle.aea_verify.specs.declared.tally.Tally.{Tally}
use Rattle.aea_verify.specs.Judged.{MovesOn, GoesOn, LineSays}
use Rattle.aea_verify.proofs.Going.{going-first, some-first}
use Rattle.aea_verify.proofs.reading.read_lines.Goals as goal

pub lines-init : goal.lines-init
lines-init g c = record {
  open_still = c.requires.open_still;
  low = let first = c.requires.first in omega arith;
  going = λ so. going-first c.args.marks.now.lattice c.args.reader.now c.begin-tally.result (c.requires.blocks so) c.requires.first c.begin-tally.ensures.least (c.begin-tally.ensures.small c.args.marks.now.lattice);
  reads = λ input h reading. some-first c.args.judged c.args.marks.now.lattice (is_marked c.args.marks.now) input h c.args.reader.now (g.S.Source.state c.args.source.now).left c.begin-tally.result
      reading (c.begin-tally.ensures.tally c.args.marks.now.lattice (is_marked c.args.marks.now));
  kept = omega arith;
  still = refl;
}

pub lines-preserved : goal.lines-preserved
lines-preserved g c =
    let moved : MovesOn c.args.judged c.args.marks.now.lattice c.lines.reader c.read_line.new.reader c.in-Some.more =
    subst (λ (o : Option Tally). GoesOn c.args.judged c.args.marks.now.lattice c.lines.reader c.read_line.new.reader o) c.in-Some.is c.in-Ok.ensures.goes in
    record {
      open_still = moved.open_still;
      low = (let inside = moved.inside in let same = ap blocks_count moved.lattice in omega arith);
      going = moved.going;
      reads = λ input h reading.
          subst (λ (o : Option Tally). LineSays c.args.judged c.args.marks.now.lattice (is_marked c.args.marks.now) input h c.read_line.new.reader (g.S.Source.state c.read_line.new.source).left c.lines.tally (Ok o)) c.in-Some.is
          (c.in-Ok.ensures.reads input h (c.lines.invariant.reads input h reading));
      kept = (let before = c.lines.invariant.kept in let after = c.read_line.ensures.kept in omega arith);
      still = c.read_line.ensures.still (λ failed. let same = c.in-Ok.is in cc) ∙ c.lines.invariant.still;
    }

pub lines-smaller : goal.lines-smaller
lines-smaller g c =
    let moved : MovesOn c.args.judged c.args.marks.now.lattice c.lines.reader c.read_line.new.reader c.in-Some.more =
    subst (λ (o : Option Tally). GoesOn c.args.judged c.args.marks.now.lattice c.lines.reader c.read_line.new.reader o) c.in-Some.is c.in-Ok.ensures.goes in
    let rises = moved.rises in
    let inside = moved.inside in
    let same = ap blocks_count moved.lattice in
    omega arith

pub returns-in-None-clause-reads : goal.returns-in-None-clause-reads
returns-in-None-clause-reads g c input h reading =
    subst (λ (o : Option Tally). LineSays c.args.judged c.args.marks.now.lattice (is_marked c.args.marks.now) input h c.read_line.new.reader (g.S.Source.state c.read_line.new.source).left c.lines.tally (Ok o)) c.in-None.is
    (c.in-Ok.ensures.reads input h (c.lines.invariant.reads input h reading))

pub returns-in-None-clause-end : goal.returns-in-None-clause-end
returns-in-None-clause-end g c =
    subst (λ (o : Option Tally). IfNone o (IsAtEnd (g.S.Source.state c.read_line.new.source).left)) c.in-None.is c.in-Ok.ensures.end

pub returns-in-Err-clause-reads : goal.returns-in-Err-clause-reads
returns-in-Err-clause-reads g c input h reading = c.in-Err.ensures.reads input h (c.lines.invariant.reads input h reading)
