use Rattle.std.proofs.Common.{ℕ, List, ◌++◌, Err, refl, ◌∙◌, ap, arith}
use Rattle.aea_rehearse.proofs.Homes.{willing_ready, willing_roomy}
use Rattle.aea_witness.proofs.Getting.{is_first, found, is_known, is_intact, has_space}
use Rattle.aea_witness.proofs.fetching.fetch.Goals as goal

pub unreachable-requires : goal.unreachable-requires
unreachable-requires g c =
    let r = c.requires.puts in
    is_known c.args.ledger.now r.0 r.1 (g.D.Disk.state c.args.disk.now).files c.args.name.now r.2 r.3 (c.get.ensures.unknown.0 (c.in-Err-UnknownName.is ∙ ap Err c.in-Err-UnknownName.field-0-is))

pub unreachable-requires-in-Err-Damaged : goal.unreachable-requires-in-Err-Damaged
unreachable-requires-in-Err-Damaged g c =
    let r = c.requires.puts in
    let b = c.in-Err-Damaged.field-0-0 in
    let d = c.get.ensures.damaged b (c.in-Err-Damaged.is ∙ ap Err c.in-Err-Damaged.field-0-is) in
    (d.3 c.requires.reveals).0.bad (is_intact c.args.ledger.now r.0 r.1 (g.D.Disk.state c.args.disk.now).files c.args.name.now r.2 r.3 d.0 b d.1 d.2)

pub unreachable-requires-in-Err-WriteFault : goal.unreachable-requires-in-Err-WriteFault
unreachable-requires-in-Err-WriteFault g c =
    let r = c.requires.puts in
    let v = c.args.ledger.now in
    let files = (g.D.Disk.state c.args.disk.now).files in
    let name = c.args.name.now in
    (c.get.ensures.in_room (is_first v r.0 r.1 files name r.2 r.3).placed _ (found v r.0 r.1 files name r.2 r.3) refl (has_space v r.0 r.1 files name r.2 r.3 c.args.out.now c.requires.out r.4)).0
    (c.in-Err-WriteFault.is ∙ ap Err c.in-Err-WriteFault.field-0-is)

pub unreachable-requires-in-Err-DiskFault : goal.unreachable-requires-in-Err-DiskFault
unreachable-requires-in-Err-DiskFault g c =
    let old = g.D.Disk.state c.args.disk.now in
    (c.get.ensures.reads.sure c.requires.reveals (willing_ready old (g.met.D.Disk.free_taken c.args.disk.now) c.requires.willing) (willing_roomy old c.requires.willing)).0
    (c.in-Err-DiskFault.is ∙ ap Err c.in-Err-DiskFault.field-0-is)

pub returns-in-Ok-clause-got : goal.returns-in-Ok-clause-got
returns-in-Ok-clause-got g c o more p named =
    let all = c.in-Ok.ensures.put c.requires.reveals p.records _ o p.its.has p.are p.recorded p.honest (0, omega arith, refl) named in
    all ∙ ap (λ (xs : List ℕ). xs ++ o.bytes) c.requires.out.empty
