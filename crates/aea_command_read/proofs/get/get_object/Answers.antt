use Rattle.std.proofs.Common.{◌≡◌, ◌≢◌, ℕ, inl, inr, ap, ◌∙◌, Result, Ok, Err}
use Rattle.aea_fetch.specs.declared.fault.GetFault.{GetFault}
use Rattle.aea_fetch.specs.declared.fault.GetFault.TheVariants as fault
use Rattle.aea_command.specs.declared.refusal.Failure.{Failure}
use Rattle.aea_command.specs.declared.refusal.Failure.TheVariants as failure
use Rattle.aea_command.specs.Failures.{get_failure}
use Rattle.aea_command_read.proofs.GetLemmas.{HasFetching, gets_fetched, gets_unopened}
use Rattle.aea_command_read.proofs.GetLemmas.Causing.{unopened_get, fetched_refuses}
use Rattle.aea_command.proofs.OpeningCases.{err_with}
use Rattle.aea_command_read.proofs.get.get_object.Goals as goal

pub returns-in_err-ledger-clause-gets : goal.returns-in_err-ledger-clause-gets
returns-in_err-ledger-clause-gets g c =
    let f = c.in_err-ledger.field-0.0 in
    rw (err_with c.from_residual.result f c.from_residual.ensures.1)
    (gets_unopened c.args.name.now g.D.Disk.reveals (g.D.Disk.state c.args.disk.now) (g.D.Disk.state c.open.new.disk) (g.O.Sink.state c.args.out.now) f c.in_err-ledger.ensures)

pub returns-in_err-ledger-clause-refuses : goal.returns-in_err-ledger-clause-refuses
returns-in_err-ledger-clause-refuses g c =
    let f = c.in_err-ledger.field-0.0 in
    rw (err_with c.from_residual.result f c.from_residual.ensures.1)
    (unopened_get c.args.name.now g.D.Disk.reveals (g.D.Disk.state c.args.disk.now) (g.D.Disk.state c.open.new.disk) f c.in_err-ledger.ensures)

pub returns-in_err-ledger-clause-reads : goal.returns-in_err-ledger-clause-reads
returns-in_err-ledger-clause-reads g c = (returns-in_err-ledger-clause-gets g c).reads

pub returns-in_err-get-clause-gets : goal.returns-in_err-get-clause-gets
returns-in_err-get-clause-gets g c =
    let gave = c.in_err-get.ensures in
    let has : HasFetching c.args.name.now g.D.Disk.reveals c.in_ok-ledger.ledger (g.D.Disk.state c.args.disk.now) (g.D.Disk.state c.open.new.disk) (g.D.Disk.state c.get.new.disk) (g.O.Sink.state c.args.out.now) (g.O.Sink.state c.get.new.out) (Err c.in_err-get.field-0.0) = record {
      opens = c.in_ok-ledger.ensures;
      got = tt;
      own = tt;
      unknown = gave.unknown;
      damaged = λ b e. let by = gave.damaged b e in (by.0, by.1, by.2, λ revealed. let both = by.3 revealed in (both.0, ap g.O.Sink.state both.1));
      damage_refused = gave.damage_refused;
      unused = λ is. ap g.O.Sink.state (gave.unused is).0;
      part = λ p is. elim (gave.part p is) [ inl none ↦ inl (ap g.O.Sink.state none) | inr broken ↦ inr broken ];
      reads = gave.reads;
      in_room = gave.in_room;
    } in
    rw (err_with c.from_residual-in_err-get.result (get_failure c.in_err-get.field-0.0) c.from_residual-in_err-get.ensures.1)
    (gets_fetched c.args.name.now g.D.Disk.reveals c.in_ok-ledger.ledger (g.D.Disk.state c.args.disk.now) (g.D.Disk.state c.open.new.disk) (g.D.Disk.state c.get.new.disk) (g.O.Sink.state c.args.out.now) (g.O.Sink.state c.get.new.out) (Err c.in_err-get.field-0.0) has)

pub returns-in_err-get-clause-refuses : goal.returns-in_err-get-clause-refuses
returns-in_err-get-clause-refuses g c =
    let gave = c.in_err-get.ensures in
    let has : HasFetching c.args.name.now g.D.Disk.reveals c.in_ok-ledger.ledger (g.D.Disk.state c.args.disk.now) (g.D.Disk.state c.open.new.disk) (g.D.Disk.state c.get.new.disk) (g.O.Sink.state c.args.out.now) (g.O.Sink.state c.get.new.out) (Err c.in_err-get.field-0.0) = record {
      opens = c.in_ok-ledger.ensures;
      got = tt;
      own = tt;
      unknown = gave.unknown;
      damaged = λ b e. let by = gave.damaged b e in (by.0, by.1, by.2, λ revealed. let both = by.3 revealed in (both.0, ap g.O.Sink.state both.1));
      damage_refused = gave.damage_refused;
      unused = λ is. ap g.O.Sink.state (gave.unused is).0;
      part = λ p is. elim (gave.part p is) [ inl none ↦ inl (ap g.O.Sink.state none) | inr broken ↦ inr broken ];
      reads = gave.reads;
      in_room = gave.in_room;
    } in
    rw (err_with c.from_residual-in_err-get.result (get_failure c.in_err-get.field-0.0) c.from_residual-in_err-get.ensures.1)
    (fetched_refuses c.ledgers_have_one_reading.ensures c.new_names_are_free.ensures c.args.name.now g.D.Disk.reveals c.in_ok-ledger.ledger (g.D.Disk.state c.args.disk.now) (g.D.Disk.state c.open.new.disk) (g.D.Disk.state c.get.new.disk) (g.O.Sink.state c.args.out.now) (g.O.Sink.state c.get.new.out) (Err c.in_err-get.field-0.0) has)

pub returns-in_err-get-clause-reads : goal.returns-in_err-get-clause-reads
returns-in_err-get-clause-reads g c = (returns-in_err-get-clause-gets g c).reads

pub returns-clause-gets : goal.returns-clause-gets
returns-clause-gets g c =
    let gave = c.in_ok-get.ensures in
    let has : HasFetching c.args.name.now g.D.Disk.reveals c.in_ok-ledger.ledger (g.D.Disk.state c.args.disk.now) (g.D.Disk.state c.open.new.disk) (g.D.Disk.state c.get.new.disk) (g.O.Sink.state c.args.out.now) (g.O.Sink.state c.get.new.out) (Ok c.in_ok-get.field-0) = record {
      opens = c.in_ok-ledger.ensures;
      got = gave.got;
      own = gave.own;
      unknown = gave.unknown;
      damaged = λ b e. let by = gave.damaged b e in (by.0, by.1, by.2, λ revealed. let both = by.3 revealed in (both.0, ap g.O.Sink.state both.1));
      damage_refused = gave.damage_refused;
      unused = λ is. ap g.O.Sink.state (gave.unused is).0;
      part = tt;
      reads = gave.reads;
      in_room = gave.in_room;
    } in
    gets_fetched c.args.name.now g.D.Disk.reveals c.in_ok-ledger.ledger (g.D.Disk.state c.args.disk.now) (g.D.Disk.state c.open.new.disk) (g.D.Disk.state c.get.new.disk) (g.O.Sink.state c.args.out.now) (g.O.Sink.state c.get.new.out) (Ok c.in_ok-get.field-0) has

pub returns-clause-refuses : goal.returns-clause-refuses
returns-clause-refuses g c =
    let gave = c.in_ok-get.ensures in
    let has : HasFetching c.args.name.now g.D.Disk.reveals c.in_ok-ledger.ledger (g.D.Disk.state c.args.disk.now) (g.D.Disk.state c.open.new.disk) (g.D.Disk.state c.get.new.disk) (g.O.Sink.state c.args.out.now) (g.O.Sink.state c.get.new.out) (Ok c.in_ok-get.field-0) = record {
      opens = c.in_ok-ledger.ensures;
      got = gave.got;
      own = gave.own;
      unknown = gave.unknown;
      damaged = λ b e. let by = gave.damaged b e in (by.0, by.1, by.2, λ revealed. let both = by.3 revealed in (both.0, ap g.O.Sink.state both.1));
      damage_refused = gave.damage_refused;
      unused = λ is. ap g.O.Sink.state (gave.unused is).0;
      part = tt;
      reads = gave.reads;
      in_room = gave.in_room;
    } in
    fetched_refuses c.ledgers_have_one_reading.ensures c.new_names_are_free.ensures c.args.name.now g.D.Disk.reveals c.in_ok-ledger.ledger (g.D.Disk.state c.args.disk.now) (g.D.Disk.state c.open.new.disk) (g.D.Disk.state c.get.new.disk) (g.O.Sink.state c.args.out.now) (g.O.Sink.state c.get.new.out) (Ok c.in_ok-get.field-0) has

pub returns-clause-reads : goal.returns-clause-reads
returns-clause-reads g c = (returns-clause-gets g c).reads

-- where the failure is not of the output, the fault is not that of a write
not_by_output : {T : Type 0} (answer : Result T Failure) (f : GetFault) → answer ≡ Err (get_failure f) → answer ≢ Err failure.Output
    → (let r : Result ℕ GetFault = Err f in r ≢ Err fault.WriteFault)
not_by_output answer f is other e =
    let h : (let r : Result ℕ GetFault = Err f in r ≡ Err fault.WriteFault) = e in
    let same : f ≡ fault.WriteFault = cc in
    other (is ∙ ap (λ (x : GetFault). Err (get_failure x)) same)

pub returns-in_err-get-clause-out_still : goal.returns-in_err-get-clause-out_still
returns-in_err-get-clause-out_still g c other =
    let f = c.in_err-get.field-0.0 in
    c.in_err-get.ensures.out_still (not_by_output c.from_residual-in_err-get.result f (err_with c.from_residual-in_err-get.result (get_failure f) c.from_residual-in_err-get.ensures.1) other)
