use Rattle.std.proofs.Common.{◌≡◌, inl, inr, refl, sym, ◌∙◌, Ok, Err}
use Rattle.std.specs.Prelude.{not}
use Rattle.aea_view.specs.Marked.{is_marked}
use Rattle.aea_disk.proofs.Frames.{reads_as}
use Rattle.aea_command.specs.declared.refusal.Failure.TheVariants as failure
use Rattle.aea_command.specs.Openings.{OpeningCauses}
use Rattle.aea_command.proofs.OpeningCases.{err_with}
use Rattle.aea_command.proofs.Refusing.{refuses_done}
use Rattle.aea_command_read.proofs.ScrubLemmas.{scrubs_unopened, scrubs_unread, IsMarked, marked_printed, marked_broken, scrubs_marked, unread_never}
use Rattle.aea_command_read.proofs.ScrubLemmas.DamagedMarks.{marks_themselves}
use Rattle.aea_command_read.proofs.StatLemmas.{unopened_reveals}
use Rattle.aea_command_read.proofs.scrub.scrub.Goals as goal

pub returns-in_err-ledger-clause-refuses : goal.returns-in_err-ledger-clause-refuses
returns-in_err-ledger-clause-refuses g c =
    let f = c.in_err-ledger.field-0.0 in
    rw (err_with c.from_residual.result f c.from_residual.ensures.1)
    (unopened_reveals g.D.Disk.reveals (g.D.Disk.state c.args.disk.now) (g.D.Disk.state c.open.new.disk) f c.in_err-ledger.ensures)

pub returns-in_err-ledger-clause-scrubs : goal.returns-in_err-ledger-clause-scrubs
returns-in_err-ledger-clause-scrubs g c =
    let f = c.in_err-ledger.field-0.0 in
    rw (err_with c.from_residual.result f c.from_residual.ensures.1)
    (scrubs_unopened g.D.Disk.reveals (g.D.Disk.state c.args.disk.now) (g.D.Disk.state c.open.new.disk) (g.O.Sink.state c.args.out.now) f c.in_err-ledger.ensures)

pub returns-in_err-damaged-clause-scrubs : goal.returns-in_err-damaged-clause-scrubs
returns-in_err-damaged-clause-scrubs g c =
    let f = c.in_err-damaged.field-0.0 in
    let gave = c.in_err-damaged.ensures in
    rw (err_with c.from_residual-in_err-damaged.result f c.from_residual-in_err-damaged.ensures.1)
    (scrubs_unread g.D.Disk.reveals (g.D.Disk.state c.args.disk.now) (g.D.Disk.state c.open.new.disk) (g.D.Disk.state c.damaged_marks.new.disk) (g.O.Sink.state c.args.out.now) c.in_ok-ledger.ledger f
    c.in_ok-ledger.ensures (reads_as g.D.Disk.reveals _ _ (g.D.Disk.state c.open.new.disk) (g.D.Disk.state c.damaged_marks.new.disk) (λ e. cc) (λ is. cc) gave.reads) gave.faults)

pub returns-in_err-damaged-clause-refuses : goal.returns-in_err-damaged-clause-refuses
returns-in_err-damaged-clause-refuses g c =
    let f = c.in_err-damaged.field-0.0 in
    rw (err_with c.from_residual-in_err-damaged.result f c.from_residual-in_err-damaged.ensures.1)
    (refuses_done g.D.Disk.reveals (OpeningCauses ((g.D.Disk.state c.args.disk.now).files 0)) c.in_ok-ledger.ledger (Err f) (unread_never f c.in_err-damaged.ensures.faults) c.in_ok-ledger.ensures.refuses)

pub returns-in_err-damaged-clause-reads : goal.returns-in_err-damaged-clause-reads
returns-in_err-damaged-clause-reads g c = (returns-in_err-damaged-clause-scrubs g c).reads

pub returns-in_err-put_damage-clause-scrubs : goal.returns-in_err-put_damage-clause-scrubs
returns-in_err-put_damage-clause-scrubs g c =
    let mid = g.D.Disk.state c.open.new.disk in
    let new = g.D.Disk.state c.damaged_marks.new.disk in
    let gave = c.in_ok-damaged.ensures in
    let marked : IsMarked g.D.Disk.reveals (g.D.Disk.state c.args.disk.now) mid new c.in_ok-ledger.ledger c.in_ok-damaged.damaged = record {
      opens = c.in_ok-ledger.ensures;
      reads = reads_as g.D.Disk.reveals _ ⊥ mid new (λ none. absurd none) (λ is. absurd (cc)) gave.reads;
      lattice = gave.lattice;
      damaged = gave.damaged;
    } in
    rw (err_with c.from_residual-in_err-put_damage.result failure.Output c.from_residual-in_err-put_damage.ensures.1)
    (scrubs_marked c.ledgers_have_one_reading.ensures g.D.Disk.reveals (g.D.Disk.state c.args.disk.now) mid new (g.O.Sink.state c.args.out.now) (g.O.Sink.state c.put_damage.new.out) c.in_ok-ledger.ledger c.in_ok-damaged.damaged c.lattice.result (Err failure.Output)
    c.lattice.ensures.value marked (inr (inl refl)) (λ e. let h : Err failure.Output ≡ Err failure.Disk = e in cc) (marked_broken c.lattice.result c.in_ok-damaged.damaged c.in_err-put_damage.ensures.prints))

pub returns-in_err-put_damage-clause-refuses : goal.returns-in_err-put_damage-clause-refuses
returns-in_err-put_damage-clause-refuses g c =
    rw (err_with c.from_residual-in_err-put_damage.result failure.Output c.from_residual-in_err-put_damage.ensures.1)
    (refuses_done g.D.Disk.reveals (OpeningCauses ((g.D.Disk.state c.args.disk.now).files 0)) c.in_ok-ledger.ledger (Err failure.Output) (λ why e. let h : Err failure.Output ≡ Err (failure.Refused why) = e in cc) c.in_ok-ledger.ensures.refuses)

pub returns-in_err-put_damage-clause-reads : goal.returns-in_err-put_damage-clause-reads
returns-in_err-put_damage-clause-reads g c = (returns-in_err-put_damage-clause-scrubs g c).reads

pub returns-in_err-put_damage-clause-out_kept : goal.returns-in_err-put_damage-clause-out_kept
returns-in_err-put_damage-clause-out_kept g c =
    let m = c.in_ok-damaged.damaged in
    (c.in_err-put_damage.ensures.prints (λ b. not (is_marked m b)) (marks_themselves c.lattice.result m (c.in_ok-damaged.ensures.lattice ∙ sym c.lattice.ensures.value))).cause.kept

pub returns-in_err-put_damage-clause-out_cause : goal.returns-in_err-put_damage-clause-out_cause
returns-in_err-put_damage-clause-out_cause g c same =
    let m = c.in_ok-damaged.damaged in
    (c.in_err-put_damage.ensures.prints (λ b. not (is_marked m b)) (marks_themselves c.lattice.result m (c.in_ok-damaged.ensures.lattice ∙ sym c.lattice.ensures.value))).cause.rose

pub returns-clause-scrubs : goal.returns-clause-scrubs
returns-clause-scrubs g c =
    let mid = g.D.Disk.state c.open.new.disk in
    let new = g.D.Disk.state c.damaged_marks.new.disk in
    let gave = c.in_ok-damaged.ensures in
    let status = c.in_ok-put_damage.field-0 in
    let marked : IsMarked g.D.Disk.reveals (g.D.Disk.state c.args.disk.now) mid new c.in_ok-ledger.ledger c.in_ok-damaged.damaged = record {
      opens = c.in_ok-ledger.ensures;
      reads = reads_as g.D.Disk.reveals _ ⊥ mid new (λ none. absurd none) (λ is. absurd (cc)) gave.reads;
      lattice = gave.lattice;
      damaged = gave.damaged;
    } in
    scrubs_marked c.ledgers_have_one_reading.ensures g.D.Disk.reveals (g.D.Disk.state c.args.disk.now) mid new (g.O.Sink.state c.args.out.now) (g.O.Sink.state c.put_damage.new.out) c.in_ok-ledger.ledger c.in_ok-damaged.damaged c.lattice.result (Ok status)
    c.lattice.ensures.value marked tt (λ e. let h : Ok status ≡ Err failure.Disk = e in cc) (marked_printed c.lattice.result c.in_ok-damaged.damaged status c.in_ok-put_damage.ensures.prints c.in_ok-put_damage.ensures.status)

pub returns-clause-reads : goal.returns-clause-reads
returns-clause-reads g c = (returns-clause-scrubs g c).reads

pub returns-clause-out_kept : goal.returns-clause-out_kept
returns-clause-out_kept g c =
    let m = c.in_ok-damaged.damaged in
    (c.in_ok-put_damage.ensures.prints (λ b. not (is_marked m b)) (marks_themselves c.lattice.result m (c.in_ok-damaged.ensures.lattice ∙ sym c.lattice.ensures.value))).cause.kept

pub returns-clause-out_still : goal.returns-clause-out_still
returns-clause-out_still g c fine =
    let m = c.in_ok-damaged.damaged in
    (c.in_ok-put_damage.ensures.prints (λ b. not (is_marked m b)) (marks_themselves c.lattice.result m (c.in_ok-damaged.ensures.lattice ∙ sym c.lattice.ensures.value))).cause.still
