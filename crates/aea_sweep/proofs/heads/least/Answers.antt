use Rattle.std.proofs.Common.{arith}
use Rattle.aea_sweep.proofs.Bits.{lowest, none_set}
use Rattle.aea_sweep.proofs.heads.least.Goals as goal

pub returns-then-word-eq0 : goal.returns-then-word-eq0
returns-then-word-eq0 c k less = rw c.if-word-eq0.true (none_set k)

pub returns-else-word-eq0 : goal.returns-else-word-eq0
returns-else-word-eq0 c = lowest c.args.word c.ranges.word.fits (let h = c.if-word-eq0.false in omega arith)
