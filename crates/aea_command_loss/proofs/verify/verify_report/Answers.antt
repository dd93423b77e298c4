use Rattle.std.proofs.Common.{[], inl, inr, refl, ap, Ok, Err}
use Rattle.std.specs.Prelude.{unwrap_or, IsSome}
use Rattle.aea_command.specs.declared.refusal.Failure.TheVariants as failure
use Rattle.aea_command.specs.Failures.{verify_failure}
use Rattle.aea_command.proofs.OpeningCases.{err_with}
use Rattle.aea_command.proofs.Texts.{text_printed, text_broken}
use Rattle.aea_command_loss.proofs.VerifyLemmas.{HasChecked, verifies_checked, verifies_unopened}
use Rattle.aea_command_loss.proofs.VerifyLemmas.Answering.{IsAnswerTo, unopened_verify, checked_refuses, not_by_input}
use Rattle.aea_command_loss.proofs.verify.verify_report.Goals as goal

pub returns-in_err-ledger-clause-verifies : goal.returns-in_err-ledger-clause-verifies
returns-in_err-ledger-clause-verifies g c =
    let f = c.in_err-ledger.field-0.0 in
    rw (err_with c.from_residual.result f c.from_residual.ensures.1)
    (verifies_unopened g.D.Disk.reveals (g.D.Disk.state c.args.disk.now) (g.D.Disk.state c.open.new.disk) (g.S.Source.state c.args.input.now) (g.O.Sink.state c.args.out.now) f c.in_err-ledger.ensures)

pub returns-in_err-ledger-clause-refuses : goal.returns-in_err-ledger-clause-refuses
returns-in_err-ledger-clause-refuses g c =
    let f = c.in_err-ledger.field-0.0 in
    let left = (g.S.Source.state c.args.input.now).left in
    rw (err_with c.from_residual.result f c.from_residual.ensures.1)
    (unopened_verify g.D.Disk.reveals (IsSome left) (g.D.Disk.state c.args.disk.now) (g.D.Disk.state c.open.new.disk) f (unwrap_or left []) c.in_err-ledger.ensures)

pub returns-in_err-ledger-clause-reads : goal.returns-in_err-ledger-clause-reads
returns-in_err-ledger-clause-reads g c = (returns-in_err-ledger-clause-verifies g c).reads

pub returns-in_err-verdict-clause-verifies : goal.returns-in_err-verdict-clause-verifies
returns-in_err-verdict-clause-verifies g c =
    let gave = c.in_err-verdict.ensures in
    let fault = c.in_err-verdict.field-0.0 in
    let out = g.O.Sink.state c.args.out.now in
    let has : HasChecked g.D.Disk.reveals c.in_ok-ledger.ledger (g.D.Disk.state c.args.disk.now) (g.D.Disk.state c.open.new.disk) (g.D.Disk.state c.verify.new.disk) (g.S.Source.state c.args.input.now) (g.S.Source.state c.verify.new.source) (Err fault) = record {
      opens = c.in_ok-ledger.ensures;
      read = gave.read;
      answers = gave.answers;
      exactly = gave.exactly;
      end = tt;
      unread = λ e. ap g.S.Source.state (gave.unread e);
      reads = gave.reads;
    } in
    let to : IsAnswerTo (Err fault) out out (Err (verify_failure fault)) = record { prints = tt; unjudged = (refl, refl) } in
    rw (err_with c.from_residual-in_err-verdict.result (verify_failure fault) c.from_residual-in_err-verdict.ensures.1)
    (verifies_checked g.D.Disk.reveals c.in_ok-ledger.ledger (g.D.Disk.state c.args.disk.now) (g.D.Disk.state c.open.new.disk) (g.D.Disk.state c.verify.new.disk) (g.S.Source.state c.args.input.now) (g.S.Source.state c.verify.new.source) out out (Err fault) (Err (verify_failure fault)) has to)

pub returns-in_err-verdict-clause-refuses : goal.returns-in_err-verdict-clause-refuses
returns-in_err-verdict-clause-refuses g c =
    let gave = c.in_err-verdict.ensures in
    let fault = c.in_err-verdict.field-0.0 in
    let out = g.O.Sink.state c.args.out.now in
    let to : IsAnswerTo (Err fault) out out (Err (verify_failure fault)) = record { prints = tt; unjudged = (refl, refl) } in
    rw (err_with c.from_residual-in_err-verdict.result (verify_failure fault) c.from_residual-in_err-verdict.ensures.1)
    (checked_refuses c.ledgers_have_one_reading.ensures g.D.Disk.reveals c.in_ok-ledger.ledger (g.D.Disk.state c.args.disk.now) (g.D.Disk.state c.open.new.disk) (g.S.Source.state c.args.input.now) out out (Err fault) (Err (verify_failure fault)) c.in_ok-ledger.ensures gave.read to)

pub returns-in_err-verdict-clause-reads : goal.returns-in_err-verdict-clause-reads
returns-in_err-verdict-clause-reads g c = (returns-in_err-verdict-clause-verifies g c).reads

pub returns-in_err-verdict-clause-input_still : goal.returns-in_err-verdict-clause-input_still
returns-in_err-verdict-clause-input_still g c other =
    let fault = c.in_err-verdict.field-0.0 in
    c.in_err-verdict.ensures.source_still (not_by_input c.from_residual-in_err-verdict.result fault (err_with c.from_residual-in_err-verdict.result (verify_failure fault) c.from_residual-in_err-verdict.ensures.1) other)

pub returns-in_err-put_verdict-clause-verifies : goal.returns-in_err-put_verdict-clause-verifies
returns-in_err-put_verdict-clause-verifies g c =
    let gave = c.in_ok-verdict.ensures in
    let verdict = c.in_ok-verdict.verdict in
    let before = g.O.Sink.state c.args.out.now in
    let after = g.O.Sink.state c.put_verdict.new.out in
    let has : HasChecked g.D.Disk.reveals c.in_ok-ledger.ledger (g.D.Disk.state c.args.disk.now) (g.D.Disk.state c.open.new.disk) (g.D.Disk.state c.verify.new.disk) (g.S.Source.state c.args.input.now) (g.S.Source.state c.verify.new.source) (Ok verdict) = record {
      opens = c.in_ok-ledger.ensures;
      read = gave.read;
      answers = gave.answers;
      exactly = gave.exactly;
      end = gave.end;
      unread = λ e. ap g.S.Source.state (gave.unread e);
      reads = gave.reads;
    } in
    let to : IsAnswerTo (Ok verdict) before after (Err failure.Output) = record { prints = record { prints = text_broken c.in_err-put_verdict.ensures.prints; is = inr refl }; unjudged = tt } in
    rw (err_with c.from_residual-in_err-put_verdict.result failure.Output c.from_residual-in_err-put_verdict.ensures.1)
    (verifies_checked g.D.Disk.reveals c.in_ok-ledger.ledger (g.D.Disk.state c.args.disk.now) (g.D.Disk.state c.open.new.disk) (g.D.Disk.state c.verify.new.disk) (g.S.Source.state c.args.input.now) (g.S.Source.state c.verify.new.source) before after (Ok verdict) (Err failure.Output) has to)

pub returns-in_err-put_verdict-clause-refuses : goal.returns-in_err-put_verdict-clause-refuses
returns-in_err-put_verdict-clause-refuses g c =
    let gave = c.in_ok-verdict.ensures in
    let verdict = c.in_ok-verdict.verdict in
    let before = g.O.Sink.state c.args.out.now in
    let after = g.O.Sink.state c.put_verdict.new.out in
    let to : IsAnswerTo (Ok verdict) before after (Err failure.Output) = record { prints = record { prints = text_broken c.in_err-put_verdict.ensures.prints; is = inr refl }; unjudged = tt } in
    rw (err_with c.from_residual-in_err-put_verdict.result failure.Output c.from_residual-in_err-put_verdict.ensures.1)
    (checked_refuses c.ledgers_have_one_reading.ensures g.D.Disk.reveals c.in_ok-ledger.ledger (g.D.Disk.state c.args.disk.now) (g.D.Disk.state c.open.new.disk) (g.S.Source.state c.args.input.now) before after (Ok verdict) (Err failure.Output) c.in_ok-ledger.ensures gave.read to)

pub returns-in_err-put_verdict-clause-reads : goal.returns-in_err-put_verdict-clause-reads
returns-in_err-put_verdict-clause-reads g c = (returns-in_err-put_verdict-clause-verifies g c).reads

pub returns-in_err-put_verdict-clause-out_kept : goal.returns-in_err-put_verdict-clause-out_kept
returns-in_err-put_verdict-clause-out_kept g c = c.in_err-put_verdict.ensures.prints.cause.kept

pub returns-in_err-put_verdict-clause-out_cause : goal.returns-in_err-put_verdict-clause-out_cause
returns-in_err-put_verdict-clause-out_cause g c same = c.in_err-put_verdict.ensures.prints.cause.rose

pub returns-clause-verifies : goal.returns-clause-verifies
returns-clause-verifies g c =
    let gave = c.in_ok-verdict.ensures in
    let verdict = c.in_ok-verdict.verdict in
    let status = c.in_ok-put_verdict.field-0 in
    let before = g.O.Sink.state c.args.out.now in
    let after = g.O.Sink.state c.put_verdict.new.out in
    let has : HasChecked g.D.Disk.reveals c.in_ok-ledger.ledger (g.D.Disk.state c.args.disk.now) (g.D.Disk.state c.open.new.disk) (g.D.Disk.state c.verify.new.disk) (g.S.Source.state c.args.input.now) (g.S.Source.state c.verify.new.source) (Ok verdict) = record {
      opens = c.in_ok-ledger.ensures;
      read = gave.read;
      answers = gave.answers;
      exactly = gave.exactly;
      end = gave.end;
      unread = λ e. ap g.S.Source.state (gave.unread e);
      reads = gave.reads;
    } in
    let to : IsAnswerTo (Ok verdict) before after (Ok status) = record { prints = record { prints = text_printed status c.in_ok-put_verdict.ensures.prints; is = inl (ap Ok c.in_ok-put_verdict.ensures.status) }; unjudged = tt } in
    verifies_checked g.D.Disk.reveals c.in_ok-ledger.ledger (g.D.Disk.state c.args.disk.now) (g.D.Disk.state c.open.new.disk) (g.D.Disk.state c.verify.new.disk) (g.S.Source.state c.args.input.now) (g.S.Source.state c.verify.new.source) before after (Ok verdict) (Ok status) has to

pub returns-clause-refuses : goal.returns-clause-refuses
returns-clause-refuses g c =
    let gave = c.in_ok-verdict.ensures in
    let verdict = c.in_ok-verdict.verdict in
    let status = c.in_ok-put_verdict.field-0 in
    let before = g.O.Sink.state c.args.out.now in
    let after = g.O.Sink.state c.put_verdict.new.out in
    let to : IsAnswerTo (Ok verdict) before after (Ok status) = record { prints = record { prints = text_printed status c.in_ok-put_verdict.ensures.prints; is = inl (ap Ok c.in_ok-put_verdict.ensures.status) }; unjudged = tt } in
    checked_refuses c.ledgers_have_one_reading.ensures g.D.Disk.reveals c.in_ok-ledger.ledger (g.D.Disk.state c.args.disk.now) (g.D.Disk.state c.open.new.disk) (g.S.Source.state c.args.input.now) before after (Ok verdict) (Ok status) c.in_ok-ledger.ensures gave.read to

pub returns-clause-reads : goal.returns-clause-reads
returns-clause-reads g c = (returns-clause-verifies g c).reads

pub returns-clause-out_kept : goal.returns-clause-out_kept
returns-clause-out_kept g c = c.in_ok-put_verdict.ensures.prints.cause.kept
