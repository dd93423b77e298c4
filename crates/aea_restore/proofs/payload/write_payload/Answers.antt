use Rattle.std.proofs.Common.{◌≢◌, ◌+◌, refl, sym, subst}
use Rattle.std.specs.Prelude.{IsErr}
use Rattle.aea_lattice.specs.declared.shape.Shape.{Shape}
use Rattle.aea_envelope.specs.Cells.{block_digest, cell_of}
use Rattle.aea_disk.specs.State.{IsReady, HasRoomTo}
use Rattle.aea_disk.specs.Frames.{OnlyWrites}
use Rattle.aea_disk.proofs.Frames.{ok_fine}
use Rattle.aea_shelf.specs.Places.{cell_size, home_file, home_place, HasAtHome}
use Rattle.aea_shelf.specs.Writes.{ChangesHome, KeepsPadded}
use Rattle.aea_archive.proofs.Honest.{stands}
use Rattle.aea_restore.proofs.Drawing.{block_of_shape}
use Rattle.aea_archive.proofs.Writes.{cell_written, cells_none}
use Rattle.aea_restore.proofs.payload.write_payload.Goals as goal

pub returns-in-Some-clause-writes : goal.returns-in-Some-clause-writes
returns-in-Some-clause-writes g c = cells_none g.D.Disk.reveals _ c.args.ledger.now.shape c.args.ledger.now.lattice.n (λ a. a ≢ c.args.b) (g.D.Disk.state c.args.disk.now) (λ is. absurd (let e = is in cc))

pub returns-in-Err-clause-elsewhere : goal.returns-in-Err-clause-elsewhere
returns-in-Err-clause-elsewhere g c revealed =
    subst (λ (s : Shape). KeepsPadded s (λ a. home_file s a ≢ home_file s c.args.b) (g.D.Disk.state c.args.disk.now).files (g.D.Disk.state c.write_cell.new.disk).files) c.shape-shape.ensures.value (c.write_cell.ensures.elsewhere revealed)

pub returns-in-Err-clause-writes : goal.returns-in-Err-clause-writes
returns-in-Err-clause-writes g c =
    let v = c.args.ledger.now in
    let b = c.args.b in
    let old = g.D.Disk.state c.args.disk.now in
    let new = g.D.Disk.state c.write_cell.new.disk in
    cell_written c.cells_are_apart.ensures c.homes_are_in_rows.ensures c.homes_are_on_its_sites.ensures g.D.Disk.reveals (IsErr c.write_cell.result) _ v.shape v.lattice.n b old new
    (block_of_shape v c.lattice-lattice.result b c.lattice-lattice.ensures.value c.lattice-lattice.ensures.of_shape c.requires.block) c.requires.block.last
    (λ f m n le room. g.met.D.Disk.smaller_fits c.args.disk.now f m n le room) (λ is. subst IsErr (sym c.in-Err.is) refl) (λ is. cc)
    (subst (λ (s : Shape). OnlyWrites g.D.Disk.reveals (IsReady old) (HasRoomTo old (home_file s b) (home_place s b + cell_size s)) (IsErr c.write_cell.result) (ChangesHome s b) old new) c.shape-shape.ensures.value c.write_cell.ensures.writes)

pub returns-in-Ok-clause-payload : goal.returns-in-Ok-clause-payload
returns-in-Ok-clause-payload g c revealed =
    let v = c.args.ledger.now in
    let b = c.args.b in
    let new = g.D.Disk.state c.write_cell.new.disk in
    (stands c.cells_have_lengths.ensures c.cells_have_parts.ensures v.shape b (block_digest b c.args.sum.now) c.args.sum.now new.files c.requires.sum refl
    (subst (λ (s : Shape). HasAtHome s b (cell_of b c.args.sum.now) new.files) c.shape-shape.ensures.value (c.in-Ok.ensures.home revealed))).payload_is

pub returns-in-Ok-clause-padded : goal.returns-in-Ok-clause-padded
returns-in-Ok-clause-padded g c revealed =
    subst (λ (s : Shape). KeepsPadded s (λ a. a ≢ c.args.b) (g.D.Disk.state c.args.disk.now).files (g.D.Disk.state c.write_cell.new.disk).files) c.shape-shape.ensures.value (c.in-Ok.ensures.padded revealed)

pub returns-in-Ok-clause-elsewhere : goal.returns-in-Ok-clause-elsewhere
returns-in-Ok-clause-elsewhere g c revealed =
    subst (λ (s : Shape). KeepsPadded s (λ a. home_file s a ≢ home_file s c.args.b) (g.D.Disk.state c.args.disk.now).files (g.D.Disk.state c.write_cell.new.disk).files) c.shape-shape.ensures.value (c.write_cell.ensures.elsewhere revealed)

pub returns-in-Ok-clause-writes : goal.returns-in-Ok-clause-writes
returns-in-Ok-clause-writes g c =
    let v = c.args.ledger.now in
    let b = c.args.b in
    let old = g.D.Disk.state c.args.disk.now in
    let new = g.D.Disk.state c.write_cell.new.disk in
    cell_written c.cells_are_apart.ensures c.homes_are_in_rows.ensures c.homes_are_on_its_sites.ensures g.D.Disk.reveals (IsErr c.write_cell.result) _ v.shape v.lattice.n b old new
    (block_of_shape v c.lattice-lattice.result b c.lattice-lattice.ensures.value c.lattice-lattice.ensures.of_shape c.requires.block) c.requires.block.last
    (λ f m n le room. g.met.D.Disk.smaller_fits c.args.disk.now f m n le room) (λ is. absurd (let e = is in cc)) (λ is. absurd (ok_fine c.in-Ok.is is))
    (subst (λ (s : Shape). OnlyWrites g.D.Disk.reveals (IsReady old) (HasRoomTo old (home_file s b) (home_place s b + cell_size s)) (IsErr c.write_cell.result) (ChangesHome s b) old new) c.shape-shape.ensures.value c.write_cell.ensures.writes)
