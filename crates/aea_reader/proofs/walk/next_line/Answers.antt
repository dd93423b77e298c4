use Rattle.std.proofs.Common.{◌<◌, length, refl, subst, arith}
use Rattle.std.proofs.lemmas.Bool.Decides.{nat_tests}
use Rattle.aea_reader.specs.Pieces.{HasLine}
use Rattle.aea_reader.proofs.Places.{last_bad, stopped}
use Rattle.aea_reader.proofs.walk.next_line.Goals as goal

pub returns-else-is_empty-clause-found : goal.returns-else-is_empty-clause-found
returns-else-is_empty-clause-found g c input texts here =
    let from = c.args.ahead.now in
    let old = (g.S.Source.state c.args.source.now).left in
    let now = (g.S.Source.state c.read_line.new.source).left in
    let line = c.read_line.new.line.items in
    let read = subst (HasLine from old now line c.read_line.new.ahead) c.in-Ok-Last.field-0-is c.in-Ok-Last.ensures.line in
    let some : 0 < length c.read_line.new.line.items = grind (arith, nat_tests, c.is_empty.ensures, c.if-is_empty.false) in
    (refl, last_bad input c.args.k texts from line old now here read.0 read.2 c.in-Ok-Last.ensures.plain read.3 some)

pub returns-in-Ok-TooLong-clause-found : goal.returns-in-Ok-TooLong-clause-found
returns-in-Ok-TooLong-clause-found g c input texts here =
    let from = c.args.ahead.now in
    let old = (g.S.Source.state c.args.source.now).left in
    let now = (g.S.Source.state c.read_line.new.source).left in
    let line = c.read_line.new.line.items in
    let read = subst (HasLine from old now line c.read_line.new.ahead) c.in-Ok-TooLong.field-0-is c.in-Ok-TooLong.ensures.line in
    let found = stopped input c.args.k texts from line old now here read.0 c.in-Ok-TooLong.ensures.plain read.2 in
    (refl, found.0, found.1)
