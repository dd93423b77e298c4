use Rattle.std.proofs.Common.{◌≡◌, Err, refl, sym, ◌∙◌}
use Rattle.aea_disk.specs.State.{IsReady}
use Rattle.aea_disk.proofs.Frames.{writes_as, writes_none}
use Rattle.aea_records.specs.Format.{raised_limit}
use Rattle.aea_archive.specs.Blocks.{IsBlockIn}
use Rattle.aea_archive.specs.Cells.{IsBesides}
use Rattle.aea_archive.proofs.Cells.{changes_none}
use Rattle.aea_messages.specs.declared.message.Message.TheVariants.{Close}
use Rattle.aea_session.specs.declared.fault.StepFault.TheVariants.{DiskFault}
use Rattle.aea_session.specs.Closes.{HasCloseRoom}
use Rattle.aea_session.proofs.CloseFaults.{ok_no_fault, fault_as}
use Rattle.aea_session.proofs.CloseFull.{refused_step}
use Rattle.aea_session.proofs.CloseAdds.{Leaves}
use Rattle.aea_session.proofs.Taking.{goes_same, refused_closes}
use Rattle.aea_session.proofs.close.close_upload.Goals as goal

pub returns-in-Err-clause-steps : goal.returns-in-Err-clause-steps
returns-in-Err-clause-steps g c = refused_step c.args.work.now c.args.slot c.in-Err.refusal (c.decide.ensures.refused c.in-Err.refusal c.in-Err.is)

pub returns-in-Err-clause-goes : goal.returns-in-Err-clause-goes
returns-in-Err-clause-goes g c =
    let v = c.args.work.now in
    let makes = refused_step v c.args.slot c.in-Err.refusal (c.decide.ensures.refused c.in-Err.refusal c.in-Err.is) in
    goes_same v v (Close c.args.slot) refl (refused_closes v v c.args.slot c.in-Err.refusal makes)

pub returns-in-Err-clause-writes : goal.returns-in-Err-clause-writes
returns-in-Err-clause-writes g c =
    let s = g.D.Disk.state c.args.disk.now in
    let v = c.args.work.now in
    writes_as g.D.Disk.reveals (IsReady s) (HasCloseRoom v c.args.slot s) ⊥ _ (Leaves v) s s (λ is. absurd (let e = is in cc)) (λ none. absurd none)
    (writes_none g.D.Disk.reveals (IsReady s) (HasCloseRoom v c.args.slot s) (Leaves v) s (changes_none v.ledger.shape raised_limit (IsBlockIn v.ledger.shape v.heads.lattice.n) (IsBesides v.ledger.shape)))

pub returns-in-Ok-close_open-clause-writes : goal.returns-in-Ok-close_open-clause-writes
returns-in-Ok-close_open-clause-writes g c =
    writes_as g.D.Disk.reveals _ _ (c.close_open.result ≡ Err DiskFault) _ (Leaves c.args.work.now) (g.D.Disk.state c.args.disk.now) (g.D.Disk.state c.close_open.new.disk) (λ is. absurd (let e = is in cc)) (λ is. absurd (ok_no_fault c.in-Ok-close_open.is is)) c.close_open.ensures.writes

pub returns-in-Err-close_open-clause-writes : goal.returns-in-Err-close_open-clause-writes
returns-in-Err-close_open-clause-writes g c =
    writes_as g.D.Disk.reveals _ _ (c.close_open.result ≡ Err DiskFault) _ (Leaves c.args.work.now) (g.D.Disk.state c.args.disk.now) (g.D.Disk.state c.close_open.new.disk) (λ is. c.in-Err-close_open.is ∙ fault_as c.in-Err-close_open.fault DiskFault is) (λ is. fault_as c.in-Err-close_open.fault DiskFault (sym c.in-Err-close_open.is ∙ is)) c.close_open.ensures.writes

pub returns-in-Err-close_open-clause-stopped : goal.returns-in-Err-close_open-clause-stopped
returns-in-Err-close_open-clause-stopped g c is = c.close_open.ensures.stopped (c.in-Err-close_open.is ∙ fault_as c.in-Err-close_open.fault _ is)

pub returns-in-Err-close_open-clause-quiet : goal.returns-in-Err-close_open-clause-quiet
returns-in-Err-close_open-clause-quiet g c is = c.close_open.ensures.quiet (c.in-Err-close_open.is ∙ fault_as c.in-Err-close_open.fault _ is)

pub returns-in-Err-close_open-clause-padded : goal.returns-in-Err-close_open-clause-padded
returns-in-Err-close_open-clause-padded g c other revealed = c.close_open.ensures.padded (λ e. other (fault_as c.in-Err-close_open.fault DiskFault (sym c.in-Err-close_open.is ∙ e))) revealed
