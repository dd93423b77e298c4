use Rattle.std.proofs.Common.{◌-◌, sym, arith}
use Rattle.aea_ledger.proofs.Small.{last-at}
use Rattle.aea_ledger.proofs.fences.last_fence.Goals as goal

pub returns : goal.returns
returns c = sym (last-at c.args.lattice.now.fences (c.fence_count-count.result - 1) c.fence.result (omega (arith, c.fence_count-count.ensures, c.if-count-eq0.false)) c.fence.ensures)
