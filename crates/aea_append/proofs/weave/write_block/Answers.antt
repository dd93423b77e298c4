use Rattle.std.proofs.Common.{refl, sym, subst, rules}
use Rattle.aea_disk.proofs.Frames.{ok_fine}
use Rattle.std.specs.Prelude.{IsErr}
use Rattle.aea_archive.proofs.Writes.{cell_written}
use Rattle.aea_append.proofs.weave.write_block.Goals as goal

pub returns-in_err-digest-clause-writes : goal.returns-in_err-digest-clause-writes
returns-in_err-digest-clause-writes g c nodes within =
    cell_written c.cells_are_apart.ensures c.homes_are_in_rows.ensures c.homes_are_on_its_sites.ensures g.D.Disk.reveals _ _ c.args.shape.now nodes c.args.b (g.D.Disk.state c.args.disk.now) (g.D.Disk.state c.write_cell.new.disk) c.requires.block within
    (λ f m n le room. g.met.D.Disk.smaller_fits c.args.disk.now f m n le room) (λ is. subst IsErr (sym c.in_err-digest.was) refl) (λ _. search rules) c.write_cell.ensures.writes

pub returns-in-Ok-clause-writes : goal.returns-in-Ok-clause-writes
returns-in-Ok-clause-writes g c nodes within =
    cell_written c.cells_are_apart.ensures c.homes_are_in_rows.ensures c.homes_are_on_its_sites.ensures g.D.Disk.reveals _ _ c.args.shape.now nodes c.args.b (g.D.Disk.state c.args.disk.now) (g.D.Disk.state c.write_cell.new.disk) c.requires.block within
    (λ f m n le room. g.met.D.Disk.smaller_fits c.args.disk.now f m n le room) (λ is. absurd (let e = is in cc)) (λ is. absurd (ok_fine c.in_ok-digest.was is)) c.write_cell.ensures.writes

pub returns-in-Err-clause-writes : goal.returns-in-Err-clause-writes
returns-in-Err-clause-writes g c nodes within =
    cell_written c.cells_are_apart.ensures c.homes_are_in_rows.ensures c.homes_are_on_its_sites.ensures g.D.Disk.reveals _ _ c.args.shape.now nodes c.args.b (g.D.Disk.state c.args.disk.now) (g.D.Disk.state c.write_cell.new.disk) c.requires.block within
    (λ f m n le room. g.met.D.Disk.smaller_fits c.args.disk.now f m n le room) (λ is. absurd (let e = is in cc)) (λ is. absurd (ok_fine c.in_ok-digest.was is)) c.write_cell.ensures.writes
