use Rattle.std.proofs.Common.{[]}
use Rattle.aea_command.proofs.OpeningCases.{err_with}
use Rattle.aea_command_store.proofs.PutLemmas.Running.{unopened_rest}
use Rattle.aea_command_session.proofs.Opening.{sessions_behind, session_rest, session_refuses, sessions_unopened, unopened_session}
use Rattle.aea_command_session.proofs.session.session.Goals as goal

pub returns-in_err-ledger-clause-sessions : goal.returns-in_err-ledger-clause-sessions
returns-in_err-ledger-clause-sessions g c =
    let f = c.in_err-ledger.field-0.0 in
    rw (err_with c.from_residual.result f c.from_residual.ensures.1)
    (sessions_unopened g.D.Disk.reveals (g.D.Disk.state c.args.disk.now) (g.D.Disk.state c.open.new.disk) (g.S.Source.state c.args.input.now).left f c.in_err-ledger.ensures (g.O.Sink.state c.args.out.now))

pub returns-in_err-ledger-clause-refuses : goal.returns-in_err-ledger-clause-refuses
returns-in_err-ledger-clause-refuses g c output =
    let f = c.in_err-ledger.field-0.0 in
    rw (err_with c.from_residual.result f c.from_residual.ensures.1)
    (unopened_session g.D.Disk.reveals (g.D.Disk.state c.args.disk.now) (g.D.Disk.state c.open.new.disk) (g.S.Source.state c.args.input.now).left f c.in_err-ledger.ensures)

pub returns-in_err-ledger-clause-rest : goal.returns-in_err-ledger-clause-rest
returns-in_err-ledger-clause-rest g c =
    let f = c.in_err-ledger.field-0.0 in
    rw (err_with c.from_residual.result f c.from_residual.ensures.1)
    (unopened_rest [] g.D.Disk.reveals (g.D.Disk.state c.args.disk.now) (g.D.Disk.state c.open.new.disk) (g.S.Source.state c.args.input.now).left f c.in_err-ledger.ensures)

pub returns-clause-sessions : goal.returns-clause-sessions
returns-clause-sessions g c =
    sessions_behind g.D.Disk.reveals c.in_ok-ledger.ledger (g.S.Source.state c.args.input.now).left (g.S.Source.state c.serve_opened.new.input).left
    (g.D.Disk.state c.args.disk.now) (g.D.Disk.state c.open.new.disk) (g.D.Disk.state c.serve_opened.new.disk) (g.O.Sink.state c.args.out.now) (g.O.Sink.state c.serve_opened.new.out) c.serve_opened.result
    c.in_ok-ledger.ensures c.serve_opened.ensures.writes c.serve_opened.ensures.serves

pub returns-clause-refuses : goal.returns-clause-refuses
returns-clause-refuses g c output =
    session_refuses g.D.Disk.reveals c.in_ok-ledger.ledger (g.S.Source.state c.args.input.now).left (g.S.Source.state c.serve_opened.new.input).left
    (g.D.Disk.state c.args.disk.now) (g.D.Disk.state c.open.new.disk) (g.D.Disk.state c.serve_opened.new.disk) (g.O.Sink.state c.args.out.now) (g.O.Sink.state c.serve_opened.new.out) c.serve_opened.result
    c.in_ok-ledger.ensures c.serve_opened.ensures.writes (c.serve_opened.ensures.refuses output)

pub returns-clause-rest : goal.returns-clause-rest
returns-clause-rest g c =
    session_rest g.D.Disk.reveals c.in_ok-ledger.ledger (g.S.Source.state c.args.input.now).left (g.S.Source.state c.serve_opened.new.input).left
    (g.D.Disk.state c.args.disk.now) (g.D.Disk.state c.open.new.disk) (g.D.Disk.state c.serve_opened.new.disk) (g.O.Sink.state c.args.out.now) (g.O.Sink.state c.serve_opened.new.out) c.serve_opened.result
    c.in_ok-ledger.ensures c.serve_opened.ensures.writes
