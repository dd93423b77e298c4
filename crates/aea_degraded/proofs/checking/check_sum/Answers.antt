use Rattle.std.proofs.Common.{sym, subst}
use Rattle.aea_lattice.specs.declared.grid.Lattice.{Lattice}
use Rattle.aea_disk.proofs.Frames.{reads_none}
use Rattle.aea_degraded.specs.Planned.{AreFatesOf}
use Rattle.aea_degraded.proofs.Checked.{checked_one, on_ok_two}
use Rattle.aea_degraded.proofs.checking.check_sum.Goals as goal

pub returns-then-not-get-clause-reads : goal.returns-then-not-get-clause-reads
returns-then-not-get-clause-reads g c = reads_none g.D.Disk.reveals _ (g.D.Disk.state c.args.disk.now) (λ is. absurd (let e = is in cc))

pub block_payload-requires-clause-found : goal.block_payload-requires-clause-found
block_payload-requires-clause-found g c set =
    c.place_of-at.ensures c.args.damaged.now (subst (λ (l : Lattice). AreFatesOf l c.args.damaged.now c.args.fates.now) (sym c.lattice.ensures.value) c.requires.fates) c.requires.given set

pub returns-clause-checked : goal.returns-clause-checked
returns-clause-checked g c =
    let v = c.args.ledger.now in
    let damaged = c.args.damaged.now in
    on_ok_two c.block_payload.result
    (λ digest summed revealed known found.
    checked_one c.lists_are_one.ensures v (g.D.Disk.state c.args.disk.now).files damaged c.args.fates.now c.args.b c.place_of-at.result c.block_payload.new.sum c.requires.block c.requires.fates
    (λ set. c.place_of-at.ensures damaged (subst (λ (l : Lattice). AreFatesOf l damaged c.args.fates.now) (sym c.lattice.ensures.value) c.requires.fates) c.requires.given set)
    (summed revealed known found) digest)
    c.block_payload.ensures.digest c.block_payload.ensures.summed

pub place_of-at-requires-clause-order : goal.place_of-at-requires-clause-order
place_of-at-requires-clause-order g c =
    (c.args.damaged.now, subst (λ (l : Lattice). AreFatesOf l c.args.damaged.now c.args.fates.now) (sym c.lattice.ensures.value) c.requires.fates)
