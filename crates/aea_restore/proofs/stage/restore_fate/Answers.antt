use Rattle.std.proofs.Common.{◌≡◌, ◌≢◌, Err, subst}
use Rattle.std.specs.Prelude.{IsTrue}
use Rattle.std.proofs.lemmas.Result.{on_ok_weaker}
use Rattle.aea_lattice.specs.Closure.{is_among}
use Rattle.aea_view.specs.Marked.{is_marked}
use Rattle.aea_restore.specs.declared.fault.RestoreFault.TheVariants.{DiskFault}
use Rattle.aea_restore.specs.Given.{block_summed, CanSum}
use Rattle.aea_restore.specs.Repairs.{IsLeft}
use Rattle.aea_restore.proofs.Planned.{summed_one, summed_adds, summed_none}
use Rattle.aea_archive.proofs.Writes.{cells_none, cells_less_as}
use Rattle.aea_restore.proofs.Loops.{torn_more}
use Rattle.aea_restore.proofs.stage.restore_fate.Goals as goal

pub restore_sum-requires-clause-block : goal.restore_sum-requires-clause-block
restore_sum-requires-clause-block g c = (subst (CanSum c.args.ledger.now.lattice (is_marked c.args.marks.now)) c.in-Sum.is c.requires.can).0

pub restore_sum-requires-clause-gives : goal.restore_sum-requires-clause-gives
restore_sum-requires-clause-gives g c = (subst (CanSum c.args.ledger.now.lattice (is_marked c.args.marks.now)) c.in-Sum.is c.requires.can).1

pub returns-in-Sum-clause-done : goal.returns-in-Sum-clause-done
returns-in-Sum-clause-done g c =
    on_ok_weaker c.restore_sum.result
    (λ adds d has. summed_adds c.args.ledger.now.lattice (is_marked c.args.marks.now) (is_marked c.restore_sum.new.marks) c.args.fate.now c.in-Sum.block c.in-Sum.eqs c.in-Sum.is adds d has)
    c.restore_sum.ensures.done

pub returns-in-Sum-clause-torn : goal.returns-in-Sum-clause-torn
returns-in-Sum-clause-torn g c is revealed =
    torn_more c.args.ledger.now (λ a. a ≡ c.in-Sum.block) (λ d. IsTrue (is_among (block_summed c.args.fate.now) d)) (is_marked c.args.marks.now) (is_marked c.restore_sum.new.marks) (g.D.Disk.state c.args.disk.now).files (g.D.Disk.state c.restore_sum.new.disk).files
    (λ d one. summed_one c.args.fate.now c.in-Sum.block c.in-Sum.eqs c.in-Sum.is d one) (c.restore_sum.ensures.torn is revealed)

pub returns-in-Sum-clause-clash : goal.returns-in-Sum-clause-clash
returns-in-Sum-clause-clash g c d revealed computed is reveals known first all =
    let clash = c.restore_sum.ensures.clash d revealed computed is reveals known first all in
    (summed_one c.args.fate.now c.in-Sum.block c.in-Sum.eqs c.in-Sum.is d clash.0, clash.1)

pub returns-in-Sum-clause-found : goal.returns-in-Sum-clause-found
returns-in-Sum-clause-found g c d revealed computed is =
    let found = c.restore_sum.ensures.found d revealed computed is in
    (c.in-Sum.block, c.in-Sum.eqs, c.in-Sum.is, found.0, found.1)

pub returns-in-Sum-clause-writes : goal.returns-in-Sum-clause-writes
returns-in-Sum-clause-writes g c =
    cells_less_as g.D.Disk.reveals (c.restore_sum.result ≡ Err DiskFault) _ c.args.ledger.now.shape c.args.ledger.now.lattice.n (λ a. a ≢ c.in-Sum.block) (IsLeft (λ d. IsTrue (is_among (block_summed c.args.fate.now) d))) (g.D.Disk.state c.args.disk.now) (g.D.Disk.state c.restore_sum.new.disk)
    (λ d left one. left (summed_one c.args.fate.now c.in-Sum.block c.in-Sum.eqs c.in-Sum.is d one)) (λ is. is) (λ is. is) c.restore_sum.ensures.writes

pub returns-in-Word-clause-done : goal.returns-in-Word-clause-done
returns-in-Word-clause-done g c d has = summed_none c.args.fate.now _ _ c.in-Word.is (is_marked c.args.marks.now d) d

pub returns-in-Word-clause-writes : goal.returns-in-Word-clause-writes
returns-in-Word-clause-writes g c = cells_none g.D.Disk.reveals _ c.args.ledger.now.shape c.args.ledger.now.lattice.n (IsLeft (λ d. IsTrue (is_among (block_summed c.args.fate.now) d))) (g.D.Disk.state c.args.disk.now) (λ is. absurd (let e = is in cc))
