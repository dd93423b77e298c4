use Rattle.std.proofs.Common.{◌≡◌, Err, refl, sym, ◌∙◌, subst}
use Rattle.std.proofs.lemmas.Result.{on_ok_weaker}
use Rattle.std.specs.Prelude.{IsErrAnd}
use Rattle.aea_lattice.specs.declared.grid.Lattice.{Lattice}
use Rattle.aea_view.specs.Marked.{is_marked}
use Rattle.aea_disk.proofs.Frames.{reads_as}
use Rattle.aea_degraded.specs.declared.fault.PayloadFault.{PayloadFault}
use Rattle.aea_degraded.specs.declared.fault.PayloadFault.TheVariants.{DiskFault}
use Rattle.aea_degraded.specs.Planned.{AreFatesOf}
use Rattle.aea_degraded.proofs.Checked.{on_ok_three, planned_at}
use Rattle.aea_degraded.proofs.Printed.{disk_failed, plan_fault, none_marked, no_other, fetched_also}
use Rattle.aea_degraded.proofs.reader.PlanReaderPayloadSource.get_one.Goals as goal

pub place_of-at-requires-clause-order : goal.place_of-at-requires-clause-order
place_of-at-requires-clause-order g c =
    let s = c.args.self.now in
    (s.damaged.now, subst (λ (l : Lattice). AreFatesOf l s.damaged.now s.fates.now) (sym c.lattice.ensures.value) c.requires.ready.0.are)

pub block_payload-requires-clause-lattice : goal.block_payload-requires-clause-lattice
block_payload-requires-clause-lattice g c = c.requires.ready.0.lattice

pub block_payload-requires-clause-fates : goal.block_payload-requires-clause-fates
block_payload-requires-clause-fates g c = c.requires.ready.0.are.each

pub block_payload-requires-clause-found : goal.block_payload-requires-clause-found
block_payload-requires-clause-found g c set =
    let s = c.args.self.now in
    c.place_of-at.ensures s.damaged.now (subst (λ (l : Lattice). AreFatesOf l s.damaged.now s.fates.now) (sym c.lattice.ensures.value) c.requires.ready.0.are) c.requires.ready.0.given set

pub returns-clause-ready : goal.returns-clause-ready
returns-clause-ready g c d is =
    let s = c.args.self.now in (
      planned_at g.D.Disk.reveals c.args.ledger.now (g.D.Disk.state c.args.disk.now).files (g.D.Disk.state c.block_payload.new.disk).files s.damaged.now s.fates.now d c.block_payload.ensures.reads.contents is.0,
      c.block_payload.auto.cell ∙ is.1,
      c.block_payload.auto.sum ∙ is.2,
    )

pub returns-clause-one : goal.returns-clause-one
returns-clause-one g c = on_ok_weaker c.block_payload.result (λ digest. tt) c.block_payload.ensures.digest

pub returns-clause-wide : goal.returns-clause-wide
returns-clause-wide g c = on_ok_weaker c.block_payload.result (λ digest. c.block_payload.auto.sum ∙ c.requires.ready.2) c.block_payload.ensures.digest

pub returns-clause-had : goal.returns-clause-had
returns-clause-had g c =
    let files = (g.D.Disk.state c.args.disk.now).files in
    on_ok_three c.block_payload.result
    (λ digest readings drawn f same.
    fetched_also g.D.Disk.reveals c.args.ledger.now files f same c.args.b c.block_payload.new.sum (record {
      wide = c.block_payload.auto.sum ∙ c.requires.ready.2;
      digest = digest;
      readings = readings;
      drawn = λ revealed known survivors. drawn revealed known (c.requires.ready.0.right revealed known survivors);
    }))
    c.block_payload.ensures.digest c.block_payload.ensures.readings c.block_payload.ensures.drawn

pub returns-clause-why : goal.returns-clause-why
returns-clause-why g c =
    let v = c.args.ledger.now in
    let s = c.args.self.now in
    let files = (g.D.Disk.state c.args.disk.now).files in
    let planned = c.requires.ready.0 in
    plan_fault g.D.Disk.reveals v files c.block_payload.result
    (λ d revealed computed failed. (
      c.block_payload.ensures.clash d revealed computed failed,
      λ reveals.
          let some = c.survivors_are_revealed.ensures v.shape v.lattice.n v.digests files in
          let found = planned.right reveals some.0 some.1 in
          let one = c.block_payload.ensures.computed d revealed computed failed reveals some.0 found in
          let set = none_marked (some.0 c.args.b) (is_marked s.damaged.now c.args.b) found.marked one.1.0 in
          let here = c.place_of-at.ensures s.damaged.now (subst (λ (l : Lattice). AreFatesOf l s.damaged.now s.fates.now) (sym c.lattice.ensures.value) planned.are) planned.given set in
          no_other v files s.damaged.now s.fates.now c.args.b d c.place_of-at.result revealed computed set here (planned.checked reveals) one.0
          (c.block_payload.ensures.summed_clash d revealed computed failed reveals some.0 found) (c.block_payload.ensures.clash d revealed computed failed),
    ))

pub returns-clause-reads : goal.returns-clause-reads
returns-clause-reads g c =
    reads_as g.D.Disk.reveals (c.block_payload.result ≡ Err DiskFault) _ (g.D.Disk.state c.args.disk.now) (g.D.Disk.state c.block_payload.new.disk) (disk_failed c.block_payload.result)
    (λ is. subst (λ r. IsErrAnd r (λ (f : PayloadFault). f ≡ DiskFault)) (sym is) refl) c.block_payload.ensures.reads
