use Rattle.std.proofs.Common.{◌≡◌, ℕ, ◌+◌, ◌-◌, ◌*◌, ◌<◌, ◌≤◌, ◌++◌, length, None, Some, Err, sym, ◌∙◌, ap, subst, arith}
use Rattle.std.specs.Prelude.{slice_set, slice_index_or}
use Rattle.std.specs.List.{length_refill}
use Rattle.aea_lattice.specs.declared.shape.Shape.{Shape}
use Rattle.aea_lattice.specs.Profile.{greatest_nodes}
use Rattle.aea_shelf.specs.Places.{cell_size}
use Rattle.aea_shelf.specs.Writes.{KeepsPadded}
use Rattle.aea_records.specs.Format.{raised_limit}
use Rattle.aea_archive.specs.Blocks.{IsBlockIn}
use Rattle.aea_archive.specs.Cells.{WritesCells}
use Rattle.aea_archive.proofs.Writes.{cells_as}
use Rattle.aea_append.specs.declared.fault.PutFault.TheVariants as put
use Rattle.aea_uploads.specs.Gathering.{Gathers}
use Rattle.aea_uploads.specs.Slots.{Keeps, KeepsSome}
use Rattle.aea_session.specs.declared.fault.StepFault.TheVariants as step
use Rattle.aea_session.proofs.Chunked.{fault_is, room_for, length-small, datas_are, slot_keeps, keeps_some, chunk_fits, slot_read, slot_none, nothing_there}
use Rattle.aea_session.proofs.Slotted.{machine_free}
use Rattle.aea_session.proofs.chunk.join_bytes.Given.{Over}
use Rattle.aea_session.proofs.chunk.join_bytes.Goals.{After-as_mut_slice}
use Rattle.aea_session.proofs.chunk.join_bytes.Goals as goal

-- the Slot that is there
was : (g : Over) (c : After-as_mut_slice g) → slice_index_or c.args.work.now.slots c.args.slot None ≡ Some c.in-Some.held
was g c =
    let k = c.requires.keeps.1 in
    let t = c.requires.takes c.requires.keeps.0 k in
    let place : c.from.result ≡ c.args.slot = c.from.ensures in
    slot_read c.args.work.now.slots c.args.slot c.from.result c.index-work-from.result c.in-Some.held place (omega (arith, place, t.inside, k.many)) c.index-work-from.is (c.index-work-from.is ∙ c.in-Some.is)

-- what it keeps
kept : (g : Over) (c : After-as_mut_slice g) → Keeps c.args.work.now.ledger.shape (c.requires.keeps.0.datas ++ c.requires.keeps.0.woven) c.in-Some.held (c.requires.takes c.requires.keeps.0 c.requires.keeps.1).upload
kept g c =
    let t = c.requires.takes c.requires.keeps.0 c.requires.keeps.1 in
    slot_keeps c.args.work.now c.requires.keeps.0 c.args.slot c.in-Some.held t.upload c.requires.keeps.1 (was g c) t.there

-- its bytes, and those of the chunk, have nodes
fits : (g : Over) (c : After-as_mut_slice g) → c.args.work.now.heads.lattice.n * c.args.work.now.ledger.shape.block + c.in-Some.held.have + length c.args.bytes.now < (raised_limit + 1) * c.args.work.now.ledger.shape.block
fits g c =
    let k = c.requires.keeps.1 in
    let t = c.requires.takes c.requires.keeps.0 k in
    let some : 1 ≤ c.args.work.now.ledger.shape.block = (let less = (kept g c).less in omega (arith, less)) in
    room_for c.args.work.now.heads.lattice.n c.args.work.now.ledger.shape.block c.in-Some.held.have (length c.args.bytes.now) raised_limit some
    (chunk_fits c.filled_are_counted.ensures c.args.work.now c.requires.keeps.0 c.args.slot c.in-Some.held c.args.bytes.now k t (kept g c))

pub gather_counted-requires-clause-alpha : goal.gather_counted-requires-clause-alpha
gather_counted-requires-clause-alpha g c =
    c.requires.keeps.1.grown.shape.alpha ∙ c.shape-shape.ensures.records.1.lattice.alpha ∙ sym (ap (λ (s : Shape). s.alpha) c.shape-shape.ensures.value)

pub gather_counted-requires-clause-size : goal.gather_counted-requires-clause-size
gather_counted-requires-clause-size g c = c.requires.keeps.1.size ∙ sym (ap (λ (s : Shape). s.block) c.shape-shape.ensures.value)

pub gather_counted-requires-clause-keeps : goal.gather_counted-requires-clause-keeps
gather_counted-requires-clause-keeps g c =
    let t = c.requires.takes c.requires.keeps.0 c.requires.keeps.1 in
    subst (λ (s : Shape). KeepsSome s c.args.work.now.heads.lattice.n c.in-Some.held) (sym c.shape-shape.ensures.value)
    (keeps_some c.args.work.now c.requires.keeps.0 c.args.slot c.in-Some.held t.upload c.requires.keeps.1 (kept g c))

pub gather_counted-requires-clause-fits : goal.gather_counted-requires-clause-fits
gather_counted-requires-clause-fits g c =
    subst (λ (s : Shape). c.args.work.now.heads.lattice.n * s.block + c.in-Some.held.have + length c.args.bytes.now < (greatest_nodes + 1) * s.block) (sym c.shape-shape.ensures.value) (fits g c)

pub gather_counted-requires-clause-small : goal.gather_counted-requires-clause-small
gather_counted-requires-clause-small g c =
    let m = c.requires.keeps.0 in
    let t = c.requires.takes m c.requires.keeps.1 in
    length-small c.args.work.now.ledger.shape (m.datas ++ m.woven) c.in-Some.held t.upload (length c.args.bytes.now) c.requires.keeps.1.wide (kept g c)
    (subst (λ (n : ℕ). n * c.args.work.now.ledger.shape.block + c.in-Some.held.have + length c.args.bytes.now < (raised_limit + 1) * c.args.work.now.ledger.shape.block) (sym (datas_are c.args.work.now m c.requires.keeps.1)) (fits g c))

pub gather_counted-requires-clause-buffer : goal.gather_counted-requires-clause-buffer
gather_counted-requires-clause-buffer g c = ap length c.as_mut_slice.ensures.value ∙ c.requires.keeps.1.cell ∙ sym (ap cell_size c.shape-shape.ensures.value)

pub unreachable-requires : goal.unreachable-requires
unreachable-requires g c =
    let k = c.requires.keeps.1 in
    let t = c.requires.takes c.requires.keeps.0 k in
    let place : c.from.result ≡ c.args.slot = c.from.ensures in
    nothing_there t.upload (sym (machine_free c.args.work.now c.requires.keeps.0 c.args.slot k
    (slot_none c.args.work.now.slots c.args.slot c.from.result c.index-work-from.result place (omega (arith, place, t.inside, k.many)) c.index-work-from.is (c.index-work-from.is ∙ c.in-None.is))) ∙ t.there)

pub returns-in-Ok-clause-adds : goal.returns-in-Ok-clause-adds
returns-in-Ok-clause-adds g c =
    let v = c.args.work.now in
    let shape = c.shape-shape.ensures.value in
    let old = (g.D.Disk.state c.args.disk.now).files in
    let new = (g.D.Disk.state c.gather_counted.new.disk).files in
    record {
      before = c.in-Some.held;
      after = c.gather_counted.new.slot;
      was = (let k = c.requires.keeps.1 in
          let t = c.requires.takes c.requires.keeps.0 k in
          let place : c.from.result ≡ c.args.slot = c.from.ensures in
          slot_read v.slots c.args.slot c.from.result c.index-work-from.result c.in-Some.held place (omega (arith, place, t.inside, k.many)) c.index-work-from.is (c.index-work-from.is ∙ c.in-Some.is));
      slots = ap (λ (k : ℕ). slice_set v.slots k (Some c.gather_counted.new.slot)) c.from.ensures;
      gathers = subst (λ (s : Shape). Gathers g.D.Disk.reveals s c.args.bytes.now v.heads c.gather_counted.new.heads c.in-Some.held c.gather_counted.new.slot v.digests.items c.gather_counted.new.digests.items old new) shape c.in-Ok.ensures.gathers;
      counted = subst (λ (s : Shape). length c.gather_counted.new.digests.items ≡ length v.digests.items + (c.gather_counted.new.heads.lattice.n - v.heads.lattice.n) * (1 + s.alpha)) shape c.in-Ok.ensures.counted;
      cell = sym (length_refill v.cell.len v.cell.items c.gather_counted.new.cell v.cell.ok.0) ∙ v.cell.ok.0;
    }

pub returns-in-Ok-clause-writes : goal.returns-in-Ok-clause-writes
returns-in-Ok-clause-writes g c =
    let v = c.args.work.now in
    let old = g.D.Disk.state c.args.disk.now in
    let new = g.D.Disk.state c.gather_counted.new.disk in
    cells_as g.D.Disk.reveals (c.gather_counted.result ≡ Err put.DiskFault) _ v.ledger.shape raised_limit (IsBlockIn v.ledger.shape v.heads.lattice.n) old new
    (λ is. absurd (let e = is in cc)) (λ bad. absurd (let is = c.in-Ok.is in cc))
    (subst (λ (s : Shape). WritesCells g.D.Disk.reveals s raised_limit (IsBlockIn s v.heads.lattice.n) (c.gather_counted.result ≡ Err put.DiskFault) old new) c.shape-shape.ensures.value c.gather_counted.ensures.writes)

pub returns-in-Err-clause-writes : goal.returns-in-Err-clause-writes
returns-in-Err-clause-writes g c =
    let v = c.args.work.now in
    let old = g.D.Disk.state c.args.disk.now in
    let new = g.D.Disk.state c.gather_counted.new.disk in
    cells_as g.D.Disk.reveals (c.gather_counted.result ≡ Err put.DiskFault) _ v.ledger.shape raised_limit (IsBlockIn v.ledger.shape v.heads.lattice.n) old new
    (λ is. c.in-Err.is ∙ ap Err (c.step_fault.ensures.disk.0 (fault_is c.step_fault.result step.DiskFault is)))
    (λ bad. ap Err (c.step_fault.ensures.disk.1 (fault_is c.in-Err.fault put.DiskFault (sym c.in-Err.is ∙ bad))))
    (subst (λ (s : Shape). WritesCells g.D.Disk.reveals s raised_limit (IsBlockIn s v.heads.lattice.n) (c.gather_counted.result ≡ Err put.DiskFault) old new) c.shape-shape.ensures.value c.gather_counted.ensures.writes)

pub returns-in-Ok-clause-padded : goal.returns-in-Ok-clause-padded
returns-in-Ok-clause-padded g c fine revealed =
    let v = c.args.work.now in
    subst (λ (s : Shape). KeepsPadded s (IsBlockIn s v.heads.lattice.n) (g.D.Disk.state c.args.disk.now).files (g.D.Disk.state c.gather_counted.new.disk).files) c.shape-shape.ensures.value
    (c.gather_counted.ensures.padded (λ bad. absurd (let is = c.in-Ok.is in cc)) revealed)

pub returns-in-Err-clause-padded : goal.returns-in-Err-clause-padded
returns-in-Err-clause-padded g c fine revealed =
    let v = c.args.work.now in
    subst (λ (s : Shape). KeepsPadded s (IsBlockIn s v.heads.lattice.n) (g.D.Disk.state c.args.disk.now).files (g.D.Disk.state c.gather_counted.new.disk).files) c.shape-shape.ensures.value
    (c.gather_counted.ensures.padded (λ bad. fine (ap Err (c.step_fault.ensures.disk.1 (fault_is c.in-Err.fault put.DiskFault (sym c.in-Err.is ∙ bad))))) revealed)
