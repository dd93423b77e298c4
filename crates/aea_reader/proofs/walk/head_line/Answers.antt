use Rattle.std.proofs.Common.{refl, subst, Ok}
use Rattle.aea_reader.specs.Places.{HasFound}
use Rattle.aea_reader.proofs.Places.{none_bad}
use Rattle.aea_reader.proofs.walk.head_line.Goals as goal

pub returns-in-Ok-true-clause-found : goal.returns-in-Ok-true-clause-found
returns-in-Ok-true-clause-found g c input texts here =
    let left = (g.S.Source.state c.next_line.new.source).left in
    subst (λ b. HasFound input c.args.k texts c.next_line.new.line.items c.next_line.new.ahead left (Ok b)) c.in-Ok-true.field-0-test (c.in-Ok-true.ensures.found input texts here)

pub returns-in-Ok-false-clause-found : goal.returns-in-Ok-false-clause-found
returns-in-Ok-false-clause-found g c input texts here =
    let left = (g.S.Source.state c.next_line.new.source).left in
    let found = subst (λ b. HasFound input c.args.k texts c.next_line.new.line.items c.next_line.new.ahead left (Ok b)) c.in-Ok-false.field-0-test (c.in-Ok-false.ensures.found input texts here) in
    (refl, none_bad input c.args.k texts c.requires found.0)
