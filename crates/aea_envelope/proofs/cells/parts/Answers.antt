use Rattle.std.proofs.Common.{length, ap, arith}
use Rattle.std.proofs.lemmas.List.{length-take}
use Rattle.aea_envelope.proofs.ListParts.{three_cut}
use Rattle.aea_envelope.proofs.cells.parts.Goals as goal

pub returns-clause-parts : goal.returns-clause-parts
returns-clause-parts c =
    let back = c.in_ok-body.ensures.cases in
    let front = c.in_ok-front.ensures.cases in
    three_cut 16 32 c.args.cell.now c.in_ok-body.body.now c.in_ok-body.digest.now c.in_ok-front.front.now c.in_ok-front.payload.now
    back.0 back.1 front.0 front.1

pub returns-clause-front : goal.returns-clause-front
returns-clause-front c =
    let back = c.in_ok-body.ensures.cases in
    let front = c.in_ok-front.ensures.cases in
    omega (arith, ap length front.0, length-take 16 c.in_ok-body.body.now, front.2)
