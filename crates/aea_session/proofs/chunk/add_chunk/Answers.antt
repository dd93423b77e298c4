use Rattle.std.proofs.Common.{◌≡◌, inl, Err, refl, sym, ◌∙◌, arith}
use Rattle.aea_shelf.proofs.Runs.{padded_none}
use Rattle.aea_records.specs.Format.{raised_limit}
use Rattle.aea_archive.specs.Blocks.{IsBlockIn}
use Rattle.aea_archive.proofs.Writes.{cells_none, cells_as}
use Rattle.aea_messages.specs.declared.message.Message.TheVariants.{Chunk}
use Rattle.aea_session.specs.declared.fault.StepFault.TheVariants.{DiskFault}
use Rattle.aea_session.specs.Steps.{made_by}
use Rattle.aea_session.proofs.Slotted.{steps_refused}
use Rattle.aea_session.proofs.Chunked.{fault_as, chunk_steps, chunk_this}
use Rattle.aea_session.proofs.chunk.add_chunk.Goals as goal

pub returns-in-Some-clause-steps : goal.returns-in-Some-clause-steps
returns-in-Some-clause-steps g c m keeps =
    steps_refused made_by c.args.work.now m (Chunk c.args.slot c.args.bytes.now) c.in-Some.refusal (c.in-Some.ensures m keeps) keeps

pub returns-in-Some-clause-writes : goal.returns-in-Some-clause-writes
returns-in-Some-clause-writes g c =
    let v = c.args.work.now in
    cells_none g.D.Disk.reveals _ v.ledger.shape raised_limit (IsBlockIn v.ledger.shape v.heads.lattice.n) (g.D.Disk.state c.args.disk.now) (λ is. absurd (let e = is in cc))

pub returns-in-Some-clause-padded : goal.returns-in-Some-clause-padded
returns-in-Some-clause-padded g c fine revealed =
    let v = c.args.work.now in
    padded_none v.ledger.shape (IsBlockIn v.ledger.shape v.heads.lattice.n) (g.D.Disk.state c.args.disk.now).files

pub returns-in-Ok-clause-steps : goal.returns-in-Ok-clause-steps
returns-in-Ok-clause-steps g c m keeps =
    chunk_steps g.D.Disk.reveals c.args.work.now c.join_bytes.new.work m c.args.slot c.args.bytes.now (g.D.Disk.state c.args.disk.now).files (g.D.Disk.state c.join_bytes.new.disk).files
    keeps (c.in-None.ensures m keeps) c.in-Ok.ensures.adds c.names_stay_own.ensures c.limits_stay.ensures c.filled_are_the_machines.ensures c.kept_with_more.ensures c.join_bytes.ensures.ledger

pub returns-in-Ok-clause-this : goal.returns-in-Ok-clause-this
returns-in-Ok-clause-this g c revealed this =
    chunk_this g.D.Disk.reveals c.args.work.now c.join_bytes.new.work c.args.slot c.args.bytes.now (g.D.Disk.state c.args.disk.now).files (g.D.Disk.state c.join_bytes.new.disk).files
    c.in-Ok.ensures.adds c.join_bytes.ensures.ledger (let n = c.requires.keeps.1.grown.nodes in omega (arith, n)) revealed ((c.join_bytes.ensures.writes.contents revealed).stay 0 (inl refl)) this

pub returns-in-Ok-clause-writes : goal.returns-in-Ok-clause-writes
returns-in-Ok-clause-writes g c =
    let v = c.args.work.now in
    cells_as g.D.Disk.reveals (c.join_bytes.result ≡ Err DiskFault) _ v.ledger.shape raised_limit (IsBlockIn v.ledger.shape v.heads.lattice.n) (g.D.Disk.state c.args.disk.now) (g.D.Disk.state c.join_bytes.new.disk)
    (λ is. absurd (let e = is in cc)) (λ bad. absurd (let is = c.in-Ok.is in cc)) c.join_bytes.ensures.writes

pub returns-in-Err-clause-writes : goal.returns-in-Err-clause-writes
returns-in-Err-clause-writes g c =
    let v = c.args.work.now in
    cells_as g.D.Disk.reveals (c.join_bytes.result ≡ Err DiskFault) _ v.ledger.shape raised_limit (IsBlockIn v.ledger.shape v.heads.lattice.n) (g.D.Disk.state c.args.disk.now) (g.D.Disk.state c.join_bytes.new.disk)
    (λ is. c.in-Err.is ∙ fault_as c.in-Err.fault DiskFault is) (λ bad. fault_as c.in-Err.fault DiskFault (sym c.in-Err.is ∙ bad)) c.join_bytes.ensures.writes

pub returns-in-Ok-clause-padded : goal.returns-in-Ok-clause-padded
returns-in-Ok-clause-padded g c fine revealed = c.join_bytes.ensures.padded (λ bad. absurd (let is = c.in-Ok.is in cc)) revealed

pub returns-in-Err-clause-padded : goal.returns-in-Err-clause-padded
returns-in-Err-clause-padded g c fine revealed = c.join_bytes.ensures.padded (λ bad. fine (fault_as c.in-Err.fault DiskFault (sym c.in-Err.is ∙ bad))) revealed
