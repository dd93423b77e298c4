use Rattle.std.proofs.Common.{ap, refl, Ok, Err}
use Rattle.aea_command.specs.Failures.{repair_failure}
use Rattle.aea_command.specs.Openings.{OpeningCauses}
use Rattle.aea_command_loss.specs.Repair.{repair_answer}
use Rattle.aea_command.proofs.OpeningCases.{err_with}
use Rattle.aea_command.proofs.Refusing.{refuses_as, refuses_done}
use Rattle.aea_command_loss.proofs.RepairLemmas.Answering.{never_refused}
use Rattle.aea_command_loss.proofs.RepairLemmas.Opened.{HasRepaired, repairs_done, repairing_rest, repairs_unopened, unopened_repair}
use Rattle.aea_command_loss.proofs.repair.repair_archive.Goals as goal

pub returns-in_err-ledger-clause-repairs : goal.returns-in_err-ledger-clause-repairs
returns-in_err-ledger-clause-repairs g c =
    let f = c.in_err-ledger.field-0.0 in
    rw (err_with c.from_residual.result f c.from_residual.ensures.1)
    (repairs_unopened g.D.Disk.reveals (g.D.Disk.state c.args.disk.now) (g.D.Disk.state c.open.new.disk) (g.O.Sink.state c.args.out.now) f c.in_err-ledger.ensures)

pub returns-in_err-ledger-clause-refuses : goal.returns-in_err-ledger-clause-refuses
returns-in_err-ledger-clause-refuses g c =
    let f = c.in_err-ledger.field-0.0 in
    rw (err_with c.from_residual.result f c.from_residual.ensures.1)
    (refuses_as g.D.Disk.reveals (OpeningCauses ((g.D.Disk.state c.args.disk.now).files 0)) f (Err f) refl c.in_err-ledger.ensures.refuses)

pub returns-in_err-ledger-clause-rest : goal.returns-in_err-ledger-clause-rest
returns-in_err-ledger-clause-rest g c =
    let f = c.in_err-ledger.field-0.0 in
    rw (err_with c.from_residual.result f c.from_residual.ensures.1)
    (unopened_repair g.D.Disk.reveals (g.D.Disk.state c.args.disk.now) (g.D.Disk.state c.open.new.disk) (g.O.Sink.state c.args.out.now) f c.in_err-ledger.ensures)

pub returns-in_err-outcome-clause-repairs : goal.returns-in_err-outcome-clause-repairs
returns-in_err-outcome-clause-repairs g c =
    let old = g.D.Disk.state c.args.disk.now in
    let mid = g.D.Disk.state c.open.new.disk in
    let new = g.D.Disk.state c.repair.new.disk in
    let before = g.O.Sink.state c.args.out.now in
    let after = g.O.Sink.state c.repair.new.out in
    let v = c.in_ok-ledger.ledger in
    let fault = c.in_err-outcome.field-0.0 in
    let gave = c.in_err-outcome.ensures in
    let has : HasRepaired g.D.Disk.reveals v mid new before after (Err fault) = record {
      restores = λ revealed known is. (gave.repairs revealed known is).restores;
      durable = gave.durable;
      alone = λ revealed known is. (gave.repairs revealed known is).alone;
      held = gave.held;
      reports = gave.reports;
      unused = λ is differs. ap g.O.Sink.state (gave.unused is differs);
      clash = gave.clash;
      no_clash = gave.no_clash;
      memory = gave.memory;
      writes = gave.writes;
      in_room = gave.in_room;
    } in
    rw (err_with c.from_residual-in_err-outcome.result (repair_failure fault) c.from_residual-in_err-outcome.ensures.1)
    (repairs_done c.ledgers_have_one_reading.ensures g.D.Disk.reveals v old mid new before after (Err fault) c.in_ok-ledger.ensures has)

pub returns-in_err-outcome-clause-refuses : goal.returns-in_err-outcome-clause-refuses
returns-in_err-outcome-clause-refuses g c =
    let fault = c.in_err-outcome.field-0.0 in
    rw (err_with c.from_residual-in_err-outcome.result (repair_failure fault) c.from_residual-in_err-outcome.ensures.1)
    (refuses_done g.D.Disk.reveals (OpeningCauses ((g.D.Disk.state c.args.disk.now).files 0)) c.in_ok-ledger.ledger (repair_answer (Err fault)) (never_refused (Err fault)) c.in_ok-ledger.ensures.refuses)

pub returns-in_err-outcome-clause-rest : goal.returns-in_err-outcome-clause-rest
returns-in_err-outcome-clause-rest g c =
    let old = g.D.Disk.state c.args.disk.now in
    let mid = g.D.Disk.state c.open.new.disk in
    let new = g.D.Disk.state c.repair.new.disk in
    let before = g.O.Sink.state c.args.out.now in
    let after = g.O.Sink.state c.repair.new.out in
    let v = c.in_ok-ledger.ledger in
    let fault = c.in_err-outcome.field-0.0 in
    rw (err_with c.from_residual-in_err-outcome.result (repair_failure fault) c.from_residual-in_err-outcome.ensures.1)
    (repairing_rest g.D.Disk.reveals v old mid new before after (Err fault) c.in_ok-ledger.ensures c.in_err-outcome.ensures.writes)

pub returns-clause-repairs : goal.returns-clause-repairs
returns-clause-repairs g c =
    let old = g.D.Disk.state c.args.disk.now in
    let mid = g.D.Disk.state c.open.new.disk in
    let new = g.D.Disk.state c.repair.new.disk in
    let before = g.O.Sink.state c.args.out.now in
    let after = g.O.Sink.state c.repair.new.out in
    let v = c.in_ok-ledger.ledger in
    let outcome = c.in_ok-outcome.outcome in
    let gave = c.in_ok-outcome.ensures in
    let has : HasRepaired g.D.Disk.reveals v mid new before after (Ok outcome) = record {
      restores = λ revealed known is. (gave.repairs revealed known is).restores;
      durable = gave.durable;
      alone = λ revealed known is. (gave.repairs revealed known is).alone;
      held = gave.held;
      reports = gave.reports;
      unused = λ is differs. ap g.O.Sink.state (gave.unused is differs);
      clash = gave.clash;
      no_clash = gave.no_clash;
      memory = gave.memory;
      writes = gave.writes;
      in_room = gave.in_room;
    } in
    rw c.by_damage.ensures (repairs_done c.ledgers_have_one_reading.ensures g.D.Disk.reveals v old mid new before after (Ok outcome) c.in_ok-ledger.ensures has)

pub returns-clause-rest : goal.returns-clause-rest
returns-clause-rest g c =
    let old = g.D.Disk.state c.args.disk.now in
    let mid = g.D.Disk.state c.open.new.disk in
    let new = g.D.Disk.state c.repair.new.disk in
    let before = g.O.Sink.state c.args.out.now in
    let after = g.O.Sink.state c.repair.new.out in
    let outcome = c.in_ok-outcome.outcome in
    rw c.by_damage.ensures (repairing_rest g.D.Disk.reveals c.in_ok-ledger.ledger old mid new before after (Ok outcome) c.in_ok-ledger.ensures c.in_ok-outcome.ensures.writes)
