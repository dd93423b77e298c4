use Rattle.std.proofs.Common.{arith}
use Rattle.aea_view.proofs.Lowest.{lowest-from, none-from}
use Rattle.aea_sums.proofs.lists.next_bit.Goals as goal

pub returns-then-rest-eq0-clause-none : goal.returns-then-rest-eq0-clause-none
returns-then-rest-eq0-clause-none c = λ j after within.
    none-from c.args.word c.args.place (let h = c.if-rest-eq0.true in omega arith) j after

pub returns-else-rest-eq0-clause-inside : goal.returns-else-rest-eq0-clause-inside
returns-else-rest-eq0-clause-inside c =
    let lowest = lowest-from c.args.word c.args.place c.ranges.word.fits (let h = c.if-rest-eq0.false in omega arith) in
    (lowest.later, lowest.inside)

pub returns-else-rest-eq0-clause-set : goal.returns-else-rest-eq0-clause-set
returns-else-rest-eq0-clause-set c =
    (lowest-from c.args.word c.args.place c.ranges.word.fits (let h = c.if-rest-eq0.false in omega arith)).set

pub returns-else-rest-eq0-clause-before : goal.returns-else-rest-eq0-clause-before
returns-else-rest-eq0-clause-before c =
    (lowest-from c.args.word c.args.place c.ranges.word.fits (let h = c.if-rest-eq0.false in omega arith)).before
