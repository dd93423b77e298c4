use Rattle.std.proofs.Common.{◌∙◌, Result, Ok, Err, ap, refl}
use Rattle.aea_append.specs.declared.fault.PutFault.{PutFault}
use Rattle.aea_append.specs.declared.store.Stored.{Stored}
use Rattle.aea_command.specs.Failures.{put_failure}
use Rattle.aea_command.proofs.OpeningCases.{err_with}
use Rattle.aea_command_store.proofs.PutLemmas.Behind.{unopened_put}
use Rattle.aea_command_store.proofs.PutLemmas.Causing.{HasPutting, answer_of, putting_refuses}
use Rattle.aea_command_store.proofs.PutLemmas.Running.{unopened_stores, unopened_rest}
use Rattle.aea_command_store.proofs.PutLemmas.Storing.{putting_stores, putting_rest, putting_line}
use Rattle.aea_command_store.proofs.put.add_object.Given.{Over}
use Rattle.aea_command_store.proofs.put.add_object.Goals as goal

pub returns-in_err-ledger-clause-stores : goal.returns-in_err-ledger-clause-stores
returns-in_err-ledger-clause-stores g c =
    let f = c.in_err-ledger.field-0.0 in
    rw (err_with c.from_residual.result f c.from_residual.ensures.1)
    (unopened_stores c.args.name.now g.D.Disk.reveals (g.D.Disk.state c.args.disk.now) (g.D.Disk.state c.open.new.disk) (g.S.Source.state c.args.input.now).left f c.in_err-ledger.ensures)

pub returns-in_err-ledger-clause-refuses : goal.returns-in_err-ledger-clause-refuses
returns-in_err-ledger-clause-refuses g c =
    let f = c.in_err-ledger.field-0.0 in
    rw (err_with c.from_residual.result f c.from_residual.ensures.1)
    (unopened_put c.args.name.now g.D.Disk.reveals (g.D.Disk.state c.args.disk.now) (g.D.Disk.state c.open.new.disk) (g.S.Source.state c.args.input.now).left f c.in_err-ledger.ensures)

pub returns-in_err-ledger-clause-rest : goal.returns-in_err-ledger-clause-rest
returns-in_err-ledger-clause-rest g c =
    let f = c.in_err-ledger.field-0.0 in
    rw (err_with c.from_residual.result f c.from_residual.ensures.1)
    (unopened_rest c.args.name.now g.D.Disk.reveals (g.D.Disk.state c.args.disk.now) (g.D.Disk.state c.open.new.disk) (g.S.Source.state c.args.input.now).left f c.in_err-ledger.ensures)

-- what the call ensures that stored none
not_put : (g : Over) (c : goal.After-drop-ledger-inside-in_err-put-3 g) → HasPutting g.D.Disk.reveals c.in_ok-ledger.ledger c.put.new.ledger c.args.name.now (g.S.Source.state c.args.input.now).left (g.S.Source.state c.put.new.source).left
    (g.D.Disk.state c.args.disk.now) (g.D.Disk.state c.open.new.disk) (g.D.Disk.state c.put.new.disk) (Err c.in_err-put.field-0.0)
not_put g c =
    let gave = c.in_err-put.ensures in
    record {
      opens = c.in_ok-ledger.ensures;
      stored = gave.stored;
      bad_name = gave.bad_name;
      taken = gave.taken;
      many = gave.many;
      early = λ e. let same = gave.early e in (ap g.D.Disk.state same.0, ap (λ s. (g.S.Source.state s).left) same.1);
      head = gave.head;
      head_leaves = λ b e. let leaves = gave.head_leaves b e in (ap (λ s. (g.S.Source.state s).left) leaves.0, leaves.1);
      head_refused = gave.head_refused;
      full = λ n e. let is = gave.full n e in (is.0, is.1.0);
      full_intact = λ n e revealed a damaged. damaged.damaged ((gave.full n e).1.1 revealed a damaged.last);
      full_refused = gave.full_refused;
      leaves = gave.refused_leaves;
      stopped = gave.stopped;
      writes = gave.writes;
      refused_in_room = gave.refused_in_room;
      padded = gave.padded;
      reads = gave.reads;
    }

pub returns-in_err-put-clause-stores : goal.returns-in_err-put-clause-stores
returns-in_err-put-clause-stores g c =
    rw (err_with c.from_residual-in_err-put.result (put_failure c.in_err-put.field-0.0) c.from_residual-in_err-put.ensures.1)
    (putting_stores c.ledgers_have_one_reading.ensures c.digests_are_counted.ensures c.survivors_stay_honest.ensures g.D.Disk.reveals _ _ c.args.name.now _ _ _ _ _ _ (not_put g c) c.objects_are_counted.ensures c.new_names_are_free.ensures)

pub returns-in_err-put-clause-refuses : goal.returns-in_err-put-clause-refuses
returns-in_err-put-clause-refuses g c =
    rw (err_with c.from_residual-in_err-put.result (put_failure c.in_err-put.field-0.0) c.from_residual-in_err-put.ensures.1)
    (putting_refuses c.ledgers_have_one_reading.ensures c.objects_are_counted.ensures c.new_names_are_free.ensures c.numbers_reveal_blocks.ensures g.D.Disk.reveals _ _ c.args.name.now _ _ _ _ _ _ (not_put g c))

pub returns-in_err-put-clause-rest : goal.returns-in_err-put-clause-rest
returns-in_err-put-clause-rest g c =
    rw (err_with c.from_residual-in_err-put.result (put_failure c.in_err-put.field-0.0) c.from_residual-in_err-put.ensures.1)
    (putting_rest c.ledgers_have_one_reading.ensures c.digests_are_counted.ensures c.survivors_stay_honest.ensures g.D.Disk.reveals _ _ c.args.name.now _ _ _ _ _ _ (not_put g c))

pub returns-in_err-put-clause-input_still : goal.returns-in_err-put-clause-input_still
returns-in_err-put-clause-input_still g c =
    let fault = c.in_err-put.field-0.0 in
    let gave : Result Stored PutFault = Err fault in
    λ differs. c.in_err-put.ensures.source_still (λ e. differs (err_with c.from_residual-in_err-put.result (put_failure c.in_err-put.field-0.0) c.from_residual-in_err-put.ensures.1 ∙ ap answer_of {x = gave} e))

-- and the one that stored the object
was_put : (g : Over) (c : goal.After-drop-ledger-inside-5 g) → HasPutting g.D.Disk.reveals c.in_ok-ledger.ledger c.put.new.ledger c.args.name.now (g.S.Source.state c.args.input.now).left (g.S.Source.state c.put.new.source).left
    (g.D.Disk.state c.args.disk.now) (g.D.Disk.state c.open.new.disk) (g.D.Disk.state c.put.new.disk) (Ok c.in_ok-put.field-0)
was_put g c =
    let gave = c.in_ok-put.ensures in
    record {
      opens = c.in_ok-ledger.ensures;
      stored = gave.stored;
      bad_name = gave.bad_name;
      taken = gave.taken;
      many = gave.many;
      early = λ e. let same = gave.early e in (ap g.D.Disk.state same.0, ap (λ s. (g.S.Source.state s).left) same.1);
      head = gave.head;
      head_leaves = λ b e. let leaves = gave.head_leaves b e in (ap (λ s. (g.S.Source.state s).left) leaves.0, leaves.1);
      head_refused = gave.head_refused;
      full = λ n e. let is = gave.full n e in (is.0, is.1.0);
      full_intact = λ n e revealed a damaged. damaged.damaged ((gave.full n e).1.1 revealed a damaged.last);
      full_refused = gave.full_refused;
      leaves = gave.refused_leaves;
      stopped = gave.stopped;
      writes = gave.writes;
      refused_in_room = gave.refused_in_room;
      padded = gave.padded;
      reads = gave.reads;
    }

pub returns-clause-stores : goal.returns-clause-stores
returns-clause-stores g c =
    putting_stores c.ledgers_have_one_reading.ensures c.digests_are_counted.ensures c.survivors_stay_honest.ensures g.D.Disk.reveals _ _ c.args.name.now _ _ _ _ _ _ (was_put g c) c.objects_are_counted.ensures c.new_names_are_free.ensures

pub returns-clause-line : goal.returns-clause-line
returns-clause-line g c =
    putting_line c.ledgers_have_one_reading.ensures c.digests_are_counted.ensures c.survivors_stay_honest.ensures g.D.Disk.reveals _ _ c.args.name.now _ _ _ _ _ _ (was_put g c) c.in_ok-put.field-0 refl

pub returns-clause-refuses : goal.returns-clause-refuses
returns-clause-refuses g c =
    putting_refuses c.ledgers_have_one_reading.ensures c.objects_are_counted.ensures c.new_names_are_free.ensures c.numbers_reveal_blocks.ensures g.D.Disk.reveals _ _ c.args.name.now _ _ _ _ _ _ (was_put g c)

pub returns-clause-rest : goal.returns-clause-rest
returns-clause-rest g c =
    putting_rest c.ledgers_have_one_reading.ensures c.digests_are_counted.ensures c.survivors_stay_honest.ensures g.D.Disk.reveals _ _ c.args.name.now _ _ _ _ _ _ (was_put g c)
