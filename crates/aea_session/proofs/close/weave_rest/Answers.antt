use Rattle.std.proofs.Common.{◌≡◌, ◌≢◌, ◌+◌, Err, refl, ◌∙◌, ap}
use Rattle.aea_records.specs.Format.{raised_limit}
use Rattle.aea_archive.proofs.Writes.{cells_as}
use Rattle.aea_append.specs.declared.fault.PutFault.TheVariants as put
use Rattle.aea_session.proofs.CloseFaults.{ok_no_fault, met_fault}
use Rattle.aea_session.proofs.close.weave_rest.Goals as goal

pub returns-in-Ok-clause-writes : goal.returns-in-Ok-clause-writes
returns-in-Ok-clause-writes g c =
    let n = c.args.heads.now.lattice.n in
    cells_as g.D.Disk.reveals (c.finish_rest.result ≡ Err put.DiskFault) _ c.args.shape.now raised_limit (λ a. a.node ≢ n + 1) (g.D.Disk.state c.args.disk.now) (g.D.Disk.state c.finish_rest.new.disk) (λ is. absurd (let e = is in cc)) (λ is. absurd (ok_no_fault c.in-Ok.is is))
    (c.finish_rest.ensures.writes raised_limit c.requires.fits)

pub returns-in-Err-DiskFault-clause-writes : goal.returns-in-Err-DiskFault-clause-writes
returns-in-Err-DiskFault-clause-writes g c =
    let n = c.args.heads.now.lattice.n in
    cells_as g.D.Disk.reveals (c.finish_rest.result ≡ Err put.DiskFault) _ c.args.shape.now raised_limit (λ a. a.node ≢ n + 1) (g.D.Disk.state c.args.disk.now) (g.D.Disk.state c.finish_rest.new.disk) (λ is. c.in-Err-DiskFault.is ∙ ap Err c.in-Err-DiskFault.field-0-is) (λ is. refl)
    (c.finish_rest.ensures.writes raised_limit c.requires.fits)

pub returns-in-Err-NoMemory-clause-writes : goal.returns-in-Err-NoMemory-clause-writes
returns-in-Err-NoMemory-clause-writes g c =
    let n = c.args.heads.now.lattice.n in
    cells_as g.D.Disk.reveals (c.finish_rest.result ≡ Err put.DiskFault) _ c.args.shape.now raised_limit (λ a. a.node ≢ n + 1) (g.D.Disk.state c.args.disk.now) (g.D.Disk.state c.finish_rest.new.disk) (λ is. absurd (let e = is in cc)) (λ is. absurd (let e = met_fault c.in-Err-NoMemory.is c.in-Err-NoMemory.field-0-is is in cc))
    (c.finish_rest.ensures.writes raised_limit c.requires.fits)
