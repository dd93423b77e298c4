use Rattle.std.proofs.Common.{◌≡◌, refl, sym, ◌∙◌, ap, arith}
use Rattle.aea_lattice.specs.Blocks.{blocks_count}
use Rattle.aea_lattice.proofs.Equations.{number_below}
use Rattle.aea_disk.proofs.Moments.{passes_none, passes_both}
use Rattle.aea_rehearse.specs.Generator.{next_state}
use Rattle.aea_rehearse.proofs.States.{state-one}
use Rattle.aea_rehearse.proofs.Homes.{cells_room_stays}
use Rattle.aea_rehearse.proofs.Going.{none_gone, rest_intact}
use Rattle.aea_rehearse.proofs.altering.alter.Goals as goal

pub loop-k-init : goal.loop-k-init
loop-k-init g c = record {
  state = refl;
  going = λ payload woven. none_gone c.args.ledger.now c.args.generator.now.state c.args.permille payload (g.D.Disk.state c.args.disk.now).files woven;
  ledger = refl;
  time = passes_none (g.D.Disk.state c.args.disk.now);
  steady = refl;
}

pub alter_next-requires-clause-room : goal.alter_next-requires-clause-room
alter_next-requires-clause-room g c = cells_room_stays (g.D.Disk.state c.args.disk.now) (g.D.Disk.state c.loop-k.disk) c.loop-k.invariant.time c.loop-k.invariant.steady c.requires.room

pub alter_next-requires-clause-intact : goal.alter_next-requires-clause-intact
alter_next-requires-clause-intact g c =
    let woven = c.requires.woven in
    rest_intact c.cells_have_lengths.ensures c.cells_have_parts.ensures c.args.ledger.now c.args.generator.now.state c.args.permille c.loop-k.k woven.0 (g.D.Disk.state c.loop-k.disk).files woven.1.recorded (c.loop-k.invariant.going woven.0 woven.1)

pub loop-k-preserved : goal.loop-k-preserved
loop-k-preserved g c = record {
  state = c.alter_next.ensures.state ∙ ap next_state c.loop-k.invariant.state ∙ sym (state-one c.args.generator.now.state c.loop-k.k);
  going = λ payload woven. c.alter_next.ensures.goes c.args.generator.now.state payload woven.recorded c.loop-k.invariant.state (c.loop-k.invariant.going payload woven);
  ledger = c.alter_next.ensures.ledger ∙ c.loop-k.invariant.ledger;
  time = passes_both (g.D.Disk.state c.args.disk.now) (g.D.Disk.state c.loop-k.disk) (g.D.Disk.state c.alter_next.new.disk) c.loop-k.invariant.time c.alter_next.ensures.time;
  steady = c.alter_next.ensures.steady ∙ c.loop-k.invariant.steady;
}

pub returns-clause-left : goal.returns-clause-left
returns-clause-left g c payload woven b has =
    let count : c.blocks-count.result ≡ blocks_count c.args.ledger.now.lattice = c.blocks-count.ensures.count ∙ ap blocks_count c.lattice-lattice.ensures.value in
    let below = number_below c.args.ledger.now.lattice b has in
    (c.loop-k.invariant.going payload woven).done b has (omega (arith, below, count, c.loop-k-test.false))
