use Rattle.std.proofs.Common.{subst}
use Rattle.std.proofs.lemmas.Bool.{false≢true}
use Rattle.std.specs.Prelude.{IsOk}
use Rattle.aea_witness.proofs.losing.lose.Goals as goal

pub unreachable-requires : goal.unreachable-requires
unreachable-requires g c =
    let old = g.D.Disk.state c.args.disk.now in
    let takes = g.met.D.Disk.free_taken c.args.disk.now 1 (old.files 0) 0 c.requires.free in
    let ok = (c.cut.ensures.sure.sure (c.requires.reveals, takes) c.requires.room).0 in
    false≢true (subst IsOk c.in-Err.is ok)
