use Rattle.std.proofs.Common.{◌≡◌, ◌≢◌, ◌-◌, ◌≤◌, List, ℕ, length, take, drop, get_or, sym, ◌∙◌, ap, subst, arith}
use Rattle.std.specs.Prelude.{bit_xor}
use Rattle.std.proofs.Math.ListN.{set}
use Rattle.std.proofs.lemmas.List.{length-set}
use Rattle.aea_lattice.specs.declared.grid.Lattice.{Lattice}
use Rattle.aea_disk.specs.Files.{Files}
use Rattle.aea_disk.proofs.Moments.{passes_both}
use Rattle.aea_envelope.specs.Cells.{block_digest, cell_of}
use Rattle.aea_shelf.specs.Places.{HasAtHome}
use Rattle.aea_shelf.specs.Writes.{ChangesHome}
use Rattle.aea_shelf.proofs.Cells.{written_here}
use Rattle.aea_rehearse.specs.Rehearsed.{flipped, flipped_cell}
use Rattle.aea_rehearse.proofs.Homes.{block_in_shape, cells_room_stays, home_room, writes_home}
use Rattle.aea_rehearse.proofs.Turning.{turn_cell, flipped_payload, keeps-true, keeps-false, struck_home, spared_home, judged_differ, judged_same}
use Rattle.aea_rehearse.proofs.altering.alter_block.Goals as goal

abbrev turn : List ℕ → List ℕ
turn cell = set cell 16 (bit_xor (get_or cell 16 0) 1)

abbrev payload_of : List ℕ → List ℕ
payload_of cell = take (length cell - 48) (drop 16 cell)

pub write_home-requires-clause-room : goal.write_home-requires-clause-room
write_home-requires-clause-room g c =
    let v = c.args.ledger.now in
    let old = g.D.Disk.state c.args.disk.now in
    let mid = g.D.Disk.state c.read_intact.new.disk in
    let alpha = ap (λ (l : Lattice). l.alpha) (sym c.lattice-lattice.ensures.value) ∙ c.lattice-lattice.ensures.of_shape.alpha in
    let few : v.lattice.n ≤ 65536 = (let f = c.requires.few in omega (arith, f)) in
    home_room c.homes_are_in_rows.ensures c.homes_are_on_its_sites.ensures v.shape v.lattice.n c.args.b mid c.requires.shape
    (block_in_shape v.shape v.lattice c.args.b alpha c.requires.block) c.requires.block.last few
    (cells_room_stays old mid c.read_intact.ensures.reads.time (c.read_intact.ensures.reads.still (λ none. none)) c.requires.room)

pub returns-then-is_some-clause-flipped : goal.returns-then-is_some-clause-flipped
returns-then-is_some-clause-flipped g c payload wide digest here =
    let v = c.args.ledger.now in
    let b = c.args.b in
    let lengths = c.cells_have_lengths.ensures in
    let cell = c.read_intact.new.cell in
    let some : 1 ≤ length payload = (let block = c.requires.shape.block in omega (arith, wide, block)) in
    let is : turn cell ≡ flipped_cell b payload = ap turn (c.read_intact.ensures.cell payload wide here) ∙ turn_cell lengths b payload some in
    let found : payload_of (turn cell) ≡ flipped payload = ap payload_of is ∙ flipped_payload lengths b payload in
    let differ : block_digest b (payload_of (turn cell)) ≢ c.recorded.result =
    judged_differ c.judge.result (block_digest b (payload_of (turn cell))) c.recorded.result c.judge.ensures.none (sym c.is_some.ensures ∙ c.if-is_some.true) in
    let new = (g.D.Disk.state c.write_home.new.disk).files in
    struck_home v.shape b payload new
    (keeps-false b payload c.recorded.result (payload_of (turn cell)) (digest ∙ sym c.recorded.ensures) found differ)
    (subst (λ (l : List ℕ). HasAtHome v.shape b l new) is (written_here v.shape b (turn cell) (g.D.Disk.state c.read_intact.new.disk).files new c.write_home.ensures.written))

pub returns-then-is_some-clause-step : goal.returns-then-is_some-clause-step
returns-then-is_some-clause-step g c =
    let v = c.args.ledger.now in
    let b = c.args.b in
    let cell = c.read_intact.new.cell in
    let mid = (g.D.Disk.state c.read_intact.new.disk).files in
    let new = (g.D.Disk.state c.write_home.new.disk).files in
    let long = length-set cell 16 (bit_xor (get_or cell 16 0) 1) ∙ c.read_intact.auto.cell ∙ c.requires.buffer in
    subst (λ (f : Files). ChangesHome v.shape b f new) (c.read_intact.ensures.reads.contents c.requires.reveals)
    (writes_home v.shape b (turn cell) mid new long c.write_home.ensures.written)

pub returns-then-is_some-clause-time : goal.returns-then-is_some-clause-time
returns-then-is_some-clause-time g c =
    passes_both (g.D.Disk.state c.args.disk.now) (g.D.Disk.state c.read_intact.new.disk) (g.D.Disk.state c.write_home.new.disk) c.read_intact.ensures.reads.time c.write_home.ensures.time

pub returns-else-is_some-clause-flipped : goal.returns-else-is_some-clause-flipped
returns-else-is_some-clause-flipped g c payload wide digest here =
    let v = c.args.ledger.now in
    let b = c.args.b in
    let lengths = c.cells_have_lengths.ensures in
    let cell = c.read_intact.new.cell in
    let some : 1 ≤ length payload = (let block = c.requires.shape.block in omega (arith, wide, block)) in
    let is : turn cell ≡ flipped_cell b payload = ap turn (c.read_intact.ensures.cell payload wide here) ∙ turn_cell lengths b payload some in
    let found : payload_of (turn cell) ≡ flipped payload = ap payload_of is ∙ flipped_payload lengths b payload in
    let same : block_digest b (payload_of (turn cell)) ≡ c.recorded.result =
    judged_same c.judge.result (block_digest b (payload_of (turn cell))) c.recorded.result c.judge.ensures.none (sym c.is_some.ensures ∙ c.if-is_some.false) in
    let new = (g.D.Disk.state c.read_intact.new.disk).files in
    spared_home v.shape b payload new
    (keeps-true b payload c.recorded.result (payload_of (turn cell)) (digest ∙ sym c.recorded.ensures) found same)
    (subst (λ (f : Files). HasAtHome v.shape b (cell_of b payload) f) (sym (c.read_intact.ensures.reads.contents c.requires.reveals)) here)
