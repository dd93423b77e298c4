use Rattle.std.proofs.Common.{◌≡◌, ℕ, List, [], length, Err, sym, ◌∙◌, ap, subst, arith}
use Rattle.aea_shelf.proofs.Cells.{keeps_intact}
use Rattle.aea_records.specs.Format.{raised_limit}
use Rattle.aea_archive.specs.Blocks.{IsBlockIn}
use Rattle.aea_archive.proofs.Writes.{cells_as}
use Rattle.aea_append.specs.declared.fault.PutFault.TheVariants.{DiskFault}
use Rattle.aea_uploads.specs.Gathering.{Gathers}
use Rattle.aea_session.proofs.Fresh.{fresh-counted, fresh-gathers}
use Rattle.aea_session.proofs.chunk.gather_counted.Goals as goal

pub returns-in-Ok-append-clause-gathers : goal.returns-in-Ok-append-clause-gathers
returns-in-Ok-append-clause-gathers g c =
    let shape = c.args.shape.now in
    let v = c.args.heads.now in
    let w = c.gather_all.new.heads in
    let old = (g.D.Disk.state c.args.disk.now).files in
    let new = (g.D.Disk.state c.gather_all.new.disk).files in
    let fresh = c.gather_all.new.digests.items in
    let empty : Gathers g.D.Disk.reveals shape c.args.bytes.now v w c.args.slot.now c.gather_all.new.slot [] fresh old new =
    subst (λ (ds : List (List ℕ)). Gathers g.D.Disk.reveals shape c.args.bytes.now v w c.args.slot.now c.gather_all.new.slot ds fresh old new) c.new-fresh.ensures.items c.in-Ok.ensures.gathers in
    subst (λ (ds : List (List ℕ)). Gathers g.D.Disk.reveals shape c.args.bytes.now v w c.args.slot.now c.gather_all.new.slot c.args.digests.now.items ds old new) (sym {A = List (List ℕ)} c.in-Ok-append.ensures.items)
    (fresh-gathers g.D.Disk.reveals shape c.args.bytes.now v w c.args.slot.now c.gather_all.new.slot c.args.digests.now.items fresh old new empty c.longer_data_keep_values.ensures c.requires.alpha
    (λ revealed b digest on intact.
    keeps_intact shape (IsBlockIn shape v.lattice.n) old new ((c.gather_all.ensures.writes raised_limit c.requires.fits).contents revealed).homes b digest
    (record { first = (let a = on.after in omega (arith, a)); last = (let most = on.most in let range = v.lattice.in_range in omega (arith, most, range)); used = on.used }) on intact))

pub returns-in-Ok-append-clause-counted : goal.returns-in-Ok-append-clause-counted
returns-in-Ok-append-clause-counted g c =
    let shape = c.args.shape.now in
    let v = c.args.heads.now in
    let w = c.gather_all.new.heads in
    let old = (g.D.Disk.state c.args.disk.now).files in
    let new = (g.D.Disk.state c.gather_all.new.disk).files in
    let fresh = c.gather_all.new.digests.items in
    let empty : Gathers g.D.Disk.reveals shape c.args.bytes.now v w c.args.slot.now c.gather_all.new.slot [] fresh old new =
    subst (λ (ds : List (List ℕ)). Gathers g.D.Disk.reveals shape c.args.bytes.now v w c.args.slot.now c.gather_all.new.slot ds fresh old new) c.new-fresh.ensures.items c.in-Ok.ensures.gathers in
    ap length c.in-Ok-append.ensures.items ∙ fresh-counted g.D.Disk.reveals shape c.args.bytes.now v w c.args.slot.now c.gather_all.new.slot c.args.digests.now.items fresh old new empty

pub returns-in-Ok-append-clause-writes : goal.returns-in-Ok-append-clause-writes
returns-in-Ok-append-clause-writes g c =
    cells_as g.D.Disk.reveals (c.gather_all.result ≡ Err DiskFault) _ c.args.shape.now raised_limit (IsBlockIn c.args.shape.now c.args.heads.now.lattice.n) (g.D.Disk.state c.args.disk.now) (g.D.Disk.state c.gather_all.new.disk)
    (λ is. absurd (let e = is in cc)) (λ bad. absurd (let was = c.in-Ok.is in cc)) (c.gather_all.ensures.writes raised_limit c.requires.fits)

pub returns-clause-writes : goal.returns-clause-writes
returns-clause-writes g c =
    cells_as g.D.Disk.reveals (c.gather_all.result ≡ Err DiskFault) _ c.args.shape.now raised_limit (IsBlockIn c.args.shape.now c.args.heads.now.lattice.n) (g.D.Disk.state c.args.disk.now) (g.D.Disk.state c.gather_all.new.disk)
    (λ is. absurd (let e = is in cc)) (λ bad. absurd (let was = c.in-Ok.is in cc)) (c.gather_all.ensures.writes raised_limit c.requires.fits)

pub returns-in-Err-clause-writes : goal.returns-in-Err-clause-writes
returns-in-Err-clause-writes g c =
    cells_as g.D.Disk.reveals (c.gather_all.result ≡ Err DiskFault) _ c.args.shape.now raised_limit (IsBlockIn c.args.shape.now c.args.heads.now.lattice.n) (g.D.Disk.state c.args.disk.now) (g.D.Disk.state c.gather_all.new.disk)
    (λ is. c.in-Err.is ∙ is) (λ bad. sym c.in-Err.is ∙ bad) (c.gather_all.ensures.writes raised_limit c.requires.fits)

pub returns-in-Ok-append-clause-padded : goal.returns-in-Ok-append-clause-padded
returns-in-Ok-append-clause-padded g c fine revealed = c.gather_all.ensures.padded (λ bad. absurd (let was = c.in-Ok.is in cc)) revealed

pub returns-clause-padded : goal.returns-clause-padded
returns-clause-padded g c fine revealed = c.gather_all.ensures.padded (λ bad. absurd (let was = c.in-Ok.is in cc)) revealed

pub returns-in-Err-clause-padded : goal.returns-in-Err-clause-padded
returns-in-Err-clause-padded g c fine revealed = c.gather_all.ensures.padded (λ bad. fine (sym c.in-Err.is ∙ bad)) revealed
