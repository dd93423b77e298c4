use Rattle.std.proofs.Common.{Ok, ap, subst}
use Rattle.aea_view.specs.Marked.{is_marked}
use Rattle.aea_reader.specs.declared.answer.Next.{Next}
use Rattle.aea_reader.specs.Readings.{HasRead}
use Rattle.aea_verify.proofs.Going.{going-line, moves-on, some-more, read-fault}
use Rattle.aea_verify.proofs.reading.read_line.Goals as goal

pub returns-in-Err-clause-reads : goal.returns-in-Err-clause-reads
returns-in-Err-clause-reads g c input h some =
    read-fault input h some.lines c.next.new.self (g.S.Source.state c.next.new.source).left c.in-Err.fault (c.in-Err.ensures.read input h some.lines some.reading)

pub tally_with-requires-clause-line : goal.tally_with-requires-clause-line
tally_with-requires-clause-line g c so =
    going-line c.args.marks.now.lattice c.args.reader.now c.next.new.self c.in-Line.line c.args.tally.now (c.in-Ok.ensures.line c.in-Line.line (ap Ok c.in-Line.is)) (c.requires.going so)

pub returns-in-Line-clause-goes : goal.returns-in-Line-clause-goes
returns-in-Line-clause-goes g c =
    moves-on c.args.judged c.args.marks.now.lattice c.args.reader.now c.next.new.self c.in-Line.line c.args.tally.now c.tally_with.result
    (c.in-Ok.ensures.line c.in-Line.line (ap Ok c.in-Line.is)) c.requires.going c.tally_with.ensures.small c.tally_with.ensures.least

pub returns-in-Line-clause-reads : goal.returns-in-Line-clause-reads
returns-in-Line-clause-reads g c input h some =
    let left = (g.S.Source.state c.next.new.source).left in
    some-more c.args.judged c.args.marks.now.lattice (is_marked c.args.marks.now) input h c.args.reader.now c.next.new.self (g.S.Source.state c.args.source.now).left left c.in-Line.line c.args.tally.now c.tally_with.result
    some (subst (λ (x : Next). HasRead input h some.lines c.next.new.self left (Ok x)) c.in-Line.is (c.in-Ok.ensures.read input h some.lines some.reading))
    c.tally_with.ensures.tally

pub returns-in-End-clause-reads : goal.returns-in-End-clause-reads
returns-in-End-clause-reads g c input h some =
    let read = subst (λ (x : Next). HasRead input h some.lines c.next.new.self (g.S.Source.state c.next.new.source).left (Ok x)) c.in-End.is (c.in-Ok.ensures.read input h some.lines some.reading) in
    record { lines = some.lines; report = read.0; tally = some.tally }

pub returns-in-End-clause-end : goal.returns-in-End-clause-end
returns-in-End-clause-end g c = c.in-Ok.ensures.end (ap Ok c.in-End.is) c.requires.open_still
