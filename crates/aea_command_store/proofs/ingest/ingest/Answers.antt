use Rattle.std.proofs.Common.{[]}
use Rattle.aea_command.proofs.OpeningCases.{err_with}
use Rattle.aea_command_store.proofs.IngestLemmas.Behind.{ingests_behind, ingests_rest, ingests_refuse, ingests_unopened, unopened_ingest}
use Rattle.aea_command_store.proofs.PutLemmas.Running.{unopened_rest}
use Rattle.aea_command_store.proofs.ingest.ingest.Goals as goal

pub returns-in_err-ledger-clause-ingests : goal.returns-in_err-ledger-clause-ingests
returns-in_err-ledger-clause-ingests g c =
    let f = c.in_err-ledger.field-0.0 in
    rw (err_with c.from_residual.result f c.from_residual.ensures.1)
    (ingests_unopened g.D.Disk.reveals (g.D.Disk.state c.args.disk.now) (g.D.Disk.state c.open.new.disk) (g.S.Source.state c.args.input.now).left (g.O.Sink.state c.args.out.now) f c.in_err-ledger.ensures)

pub returns-in_err-ledger-clause-refuses : goal.returns-in_err-ledger-clause-refuses
returns-in_err-ledger-clause-refuses g c output =
    let f = c.in_err-ledger.field-0.0 in
    rw (err_with c.from_residual.result f c.from_residual.ensures.1)
    (unopened_ingest g.D.Disk.reveals (g.D.Disk.state c.args.disk.now) (g.D.Disk.state c.open.new.disk) (g.S.Source.state c.args.input.now).left f c.in_err-ledger.ensures)

pub returns-in_err-ledger-clause-rest : goal.returns-in_err-ledger-clause-rest
returns-in_err-ledger-clause-rest g c =
    let f = c.in_err-ledger.field-0.0 in
    rw (err_with c.from_residual.result f c.from_residual.ensures.1)
    (unopened_rest [] g.D.Disk.reveals (g.D.Disk.state c.args.disk.now) (g.D.Disk.state c.open.new.disk) (g.S.Source.state c.args.input.now).left f c.in_err-ledger.ensures)

pub returns-clause-ingests : goal.returns-clause-ingests
returns-clause-ingests g c =
    ingests_behind c.ledgers_have_one_reading.ensures g.D.Disk.reveals c.in_ok-ledger.ledger (g.S.Source.state c.args.input.now).left (g.S.Source.state c.put_frames.new.input).left
    (g.D.Disk.state c.args.disk.now) (g.D.Disk.state c.open.new.disk) (g.D.Disk.state c.put_frames.new.disk) (g.O.Sink.state c.args.out.now) (g.O.Sink.state c.put_frames.new.out) c.put_frames.result
    c.in_ok-ledger.ensures c.put_frames.ensures.writes c.put_frames.ensures.ingests

pub returns-clause-refuses : goal.returns-clause-refuses
returns-clause-refuses g c output =
    ingests_refuse c.ledgers_have_one_reading.ensures g.D.Disk.reveals c.in_ok-ledger.ledger (g.S.Source.state c.args.input.now).left (g.S.Source.state c.put_frames.new.input).left
    (g.D.Disk.state c.args.disk.now) (g.D.Disk.state c.open.new.disk) (g.D.Disk.state c.put_frames.new.disk) (g.O.Sink.state c.args.out.now) (g.O.Sink.state c.put_frames.new.out) c.put_frames.result
    c.in_ok-ledger.ensures c.put_frames.ensures.writes (c.put_frames.ensures.refuses output) c.put_frames.ensures.after

pub returns-clause-rest : goal.returns-clause-rest
returns-clause-rest g c =
    ingests_rest c.ledgers_have_one_reading.ensures g.D.Disk.reveals c.in_ok-ledger.ledger (g.S.Source.state c.args.input.now).left (g.S.Source.state c.put_frames.new.input).left
    (g.D.Disk.state c.args.disk.now) (g.D.Disk.state c.open.new.disk) (g.D.Disk.state c.put_frames.new.disk) (g.O.Sink.state c.args.out.now) (g.O.Sink.state c.put_frames.new.out) c.put_frames.result
    c.in_ok-ledger.ensures c.put_frames.ensures.writes
