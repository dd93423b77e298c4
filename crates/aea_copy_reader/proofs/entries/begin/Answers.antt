use Rattle.aea_copy_reader.proofs.Seeing.{seen_whole}
use Rattle.aea_copy_reader.proofs.Parting.{some_from}
use Rattle.aea_copy_reader.proofs.Taking.{none_from}
use Rattle.aea_copy_reader.proofs.entries.begin.Goals as goal

pub returns-clause-bad : goal.returns-clause-bad
returns-clause-bad g c =
    let file = (g.D.Disk.state c.args.disk.now).files c.args.file in
    let e = c.in_ok-reach.ensures in
    some_from c.front_fault.result (λ at revealed reveals. revealed file (seen_whole file c.look.result.now c.reach.new.self 0 10 (e.seen reveals) e.covers c.look.ensures.size c.look.ensures.part)) c.front_fault.ensures.bad

pub returns-clause-good : goal.returns-clause-good
returns-clause-good g c =
    let file = (g.D.Disk.state c.args.disk.now).files c.args.file in
    let e = c.in_ok-reach.ensures in
    none_from c.front_fault.result (λ revealed reveals. revealed file (seen_whole file c.look.result.now c.reach.new.self 0 10 (e.seen reveals) e.covers c.look.ensures.size c.look.ensures.part)) c.front_fault.ensures.good
