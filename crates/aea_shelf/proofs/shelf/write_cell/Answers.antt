use Rattle.std.proofs.Common.{◌≡◌, ◌≢◌, ◌+◌, ◌-◌, ℕ, List, length, drop, refl, sym, ◌∙◌, ap, subst, arith}
use Rattle.aea_lattice.specs.declared.blocks.BlockId.{BlockId}
use Rattle.aea_lattice.specs.declared.shape.Shape.{Shape}
use Rattle.aea_envelope.specs.Cells.{block_digest, cell_of}
use Rattle.aea_disk.specs.Files.{Files, ChangesFile, Holds}
use Rattle.aea_disk.specs.State.{HasRoomTo, IsReady}
use Rattle.aea_disk.proofs.Frames.{writes_as}
use Rattle.aea_shelf.specs.Places.{cell_size, home_file, home_place}
use Rattle.aea_shelf.specs.Writes.{ChangesHome}
use Rattle.aea_shelf.proofs.Homes.{some_sites, keeps_padded}
use Rattle.aea_shelf.proofs.Cells.{intact_of, written_here}
use Rattle.aea_shelf.proofs.Changes.{keeps_shelf}
use Rattle.aea_shelf.proofs.Held.{held_through}
use Rattle.aea_shelf.proofs.Runs.{held_by_shelf, padded_others}
use Rattle.aea_shelf.proofs.shelf.write_cell.Goals as goal

-- the last bytes of a cell
last_digest : (bytes payload last digest : List ℕ) → length bytes ≡ length payload + 48 → last ≡ drop (length bytes - 32) bytes → drop (length payload + 16) bytes ≡ digest → digest ≡ last
last_digest bytes payload last digest size is parts =
    let place : length payload + 16 ≡ length bytes - 32 = omega (arith, size) in
    sym parts ∙ ap (λ (n : ℕ). drop n bytes) place ∙ sym is

-- what it leaves where it was made
holds_cell : (shape : Shape) (b : BlockId) (bytes whole : List ℕ) (old new : Files) → bytes ≡ whole → ChangesFile (home_file shape b) (Holds (home_place shape b) bytes) old new
    → ChangesFile (home_file shape b) (Holds (home_place shape b) whole) old new
holds_cell shape b bytes whole old new same changes = subst (λ (l : List ℕ). ChangesFile (home_file shape b) (Holds (home_place shape b) l) old new) same changes

pub returns-in_err-write_home-clause-elsewhere : goal.returns-in_err-write_home-clause-elsewhere
returns-in_err-write_home-clause-elsewhere g c revealed =
    padded_others c.args.shape.now (λ a. home_file c.args.shape.now a ≢ home_file c.args.shape.now c.args.b) (home_file c.args.shape.now c.args.b) _ _ (λ a apart. apart) (c.write_home.ensures.writes.contents revealed).others

pub returns-in_err-write_home-clause-shelf : goal.returns-in_err-write_home-clause-shelf
returns-in_err-write_home-clause-shelf g c =
    keeps_shelf c.rows_go_over_sites.ensures g.D.Disk.reveals c.args.shape.now c.args.b _ _ c.requires.block c.write_home.ensures.writes.crash c.write_home.ensures.writes.contents

pub returns-in_err-write_home-clause-held : goal.returns-in_err-write_home-clause-held
returns-in_err-write_home-clause-held g c revealed a recorded has_a other held =
    held_by_shelf g.D.Disk.reveals c.args.shape.now (λ e. e ≢ c.args.b) (g.D.Disk.state c.args.disk.now) (g.D.Disk.state c.write_home.new.disk) a recorded revealed has_a other c.write_home.ensures.writes.time.later (returns-in_err-write_home-clause-shelf g c) held

pub returns-in_err-write_home-clause-any_moment : goal.returns-in_err-write_home-clause-any_moment
returns-in_err-write_home-clause-any_moment g c a recorded has_a other held =
    held_through g.D.Disk.reveals c.args.shape.now (λ e. e ≢ c.args.b) (g.D.Disk.state c.args.disk.now) (g.D.Disk.state c.write_home.new.disk) a recorded has_a other (returns-in_err-write_home-clause-shelf g c) held

pub returns-clause-intact : goal.returns-clause-intact
returns-clause-intact g c revealed =
    let shape = c.args.shape.now in
    let b = c.args.b in
    let old = g.D.Disk.state c.args.disk.now in
    let new = g.D.Disk.state c.write_home.new.disk in
    let whole = cell_of b c.args.payload.now in
    let long : length c.encode.new.cell ≡ cell_size shape = c.encode.auto.cell ∙ c.requires.buffer in
    let size : length whole ≡ cell_size shape = sym (ap length c.encode.ensures.cell) ∙ long in
    let written = holds_cell shape b c.encode.new.cell whole old.files new.files c.encode.ensures.cell (c.in_ok-write_home.ensures.written revealed) in
    let digest : block_digest b c.args.payload.now ≡ c.digest_in-digest.result = last_digest c.encode.new.cell c.args.payload.now c.digest_in-digest.result (block_digest b c.args.payload.now) (omega (arith, long, c.requires.payload)) c.digest_in-digest.ensures c.encode.ensures.digest in
    intact_of shape b c.digest_in-digest.result whole new.files size (written_here shape b whole old.files new.files written) (record { payload = c.args.payload.now; cell = refl; digest = digest })

pub returns-clause-home : goal.returns-clause-home
returns-clause-home g c revealed =
    let shape = c.args.shape.now in
    let b = c.args.b in
    let old = g.D.Disk.state c.args.disk.now in
    let new = g.D.Disk.state c.write_home.new.disk in
    let whole = cell_of b c.args.payload.now in
    written_here shape b whole old.files new.files (holds_cell shape b c.encode.new.cell whole old.files new.files c.encode.ensures.cell (c.in_ok-write_home.ensures.written revealed))

pub returns-clause-written : goal.returns-clause-written
returns-clause-written g c revealed =
    holds_cell c.args.shape.now c.args.b c.encode.new.cell (cell_of c.args.b c.args.payload.now) _ _ c.encode.ensures.cell (c.in_ok-write_home.ensures.written revealed)

pub returns-clause-padded : goal.returns-clause-padded
returns-clause-padded g c revealed =
    let shape = c.args.shape.now in
    let b = c.args.b in
    let old = g.D.Disk.state c.args.disk.now in
    let new = g.D.Disk.state c.write_home.new.disk in
    let whole = cell_of b c.args.payload.now in
    let long : length c.encode.new.cell ≡ cell_size shape = c.encode.auto.cell ∙ c.requires.buffer in
    let size : length whole ≡ cell_size shape = sym (ap length c.encode.ensures.cell) ∙ long in
    keeps_padded c.rows_go_over_sites.ensures shape b whole old.files new.files (some_sites shape) c.requires.block size
    (holds_cell shape b c.encode.new.cell whole old.files new.files c.encode.ensures.cell (c.in_ok-write_home.ensures.written revealed))

pub returns-clause-writes : goal.returns-clause-writes
returns-clause-writes g c =
    let shape = c.args.shape.now in
    let old = g.D.Disk.state c.args.disk.now in
    writes_as g.D.Disk.reveals (IsReady old) (HasRoomTo old (home_file shape c.args.b) (home_place shape c.args.b + cell_size shape)) _ _ (ChangesHome shape c.args.b) old (g.D.Disk.state c.write_home.new.disk) (λ is. absurd (cc)) (λ is. absurd (cc)) c.in_ok-write_home.ensures.writes

pub returns-clause-elsewhere : goal.returns-clause-elsewhere
returns-clause-elsewhere g c revealed =
    padded_others c.args.shape.now (λ a. home_file c.args.shape.now a ≢ home_file c.args.shape.now c.args.b) (home_file c.args.shape.now c.args.b) _ _ (λ a apart. apart) (c.write_home.ensures.writes.contents revealed).others

pub returns-clause-shelf : goal.returns-clause-shelf
returns-clause-shelf g c =
    keeps_shelf c.rows_go_over_sites.ensures g.D.Disk.reveals c.args.shape.now c.args.b _ _ c.requires.block c.write_home.ensures.writes.crash c.write_home.ensures.writes.contents

pub returns-clause-held : goal.returns-clause-held
returns-clause-held g c revealed a recorded has_a other held =
    held_by_shelf g.D.Disk.reveals c.args.shape.now (λ e. e ≢ c.args.b) (g.D.Disk.state c.args.disk.now) (g.D.Disk.state c.write_home.new.disk) a recorded revealed has_a other c.write_home.ensures.writes.time.later (returns-clause-shelf g c) held

pub returns-clause-any_moment : goal.returns-clause-any_moment
returns-clause-any_moment g c a recorded has_a other held =
    held_through g.D.Disk.reveals c.args.shape.now (λ e. e ≢ c.args.b) (g.D.Disk.state c.args.disk.now) (g.D.Disk.state c.write_home.new.disk) a recorded has_a other (returns-clause-shelf g c) held
