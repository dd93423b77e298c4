use Rattle.std.proofs.Common.{◌≡◌, ◌≢◌, ℕ, inl, inr, ap, ◌∙◌, Result, Ok, Err}
use Rattle.aea_degraded.specs.declared.fault.FetchFault.{FetchFault}
use Rattle.aea_degraded.specs.declared.fault.FetchFault.TheVariants as fault
use Rattle.aea_command.specs.declared.refusal.Failure.{Failure}
use Rattle.aea_command.specs.declared.refusal.Failure.TheVariants as failure
use Rattle.aea_command.specs.Failures.{fetch_failure}
use Rattle.aea_command_read.proofs.FetchLemmas.{HasFetching, fetches_fetched, fetches_unopened}
use Rattle.aea_command_read.proofs.FetchLemmas.Causing.{unopened_fetch, fetched_refuses}
use Rattle.aea_command.proofs.OpeningCases.{err_with}
use Rattle.aea_command_read.proofs.fetch.fetch_object.Goals as goal

pub returns-in_err-ledger-clause-fetches : goal.returns-in_err-ledger-clause-fetches
returns-in_err-ledger-clause-fetches g c =
    let f = c.in_err-ledger.field-0.0 in
    rw (err_with c.from_residual.result f c.from_residual.ensures.1)
    (fetches_unopened c.args.name.now g.D.Disk.reveals (g.D.Disk.state c.args.disk.now) (g.D.Disk.state c.open.new.disk) (g.O.Sink.state c.args.out.now) f c.in_err-ledger.ensures)

pub returns-in_err-ledger-clause-refuses : goal.returns-in_err-ledger-clause-refuses
returns-in_err-ledger-clause-refuses g c =
    let f = c.in_err-ledger.field-0.0 in
    rw (err_with c.from_residual.result f c.from_residual.ensures.1)
    (unopened_fetch c.args.name.now g.D.Disk.reveals (g.D.Disk.state c.args.disk.now) (g.D.Disk.state c.open.new.disk) f c.in_err-ledger.ensures)

pub returns-in_err-ledger-clause-reads : goal.returns-in_err-ledger-clause-reads
returns-in_err-ledger-clause-reads g c = (returns-in_err-ledger-clause-fetches g c).reads

pub returns-in_err-fetch-clause-fetches : goal.returns-in_err-fetch-clause-fetches
returns-in_err-fetch-clause-fetches g c =
    let gave = c.in_err-fetch.ensures in
    let has : HasFetching c.args.name.now g.D.Disk.reveals c.in_ok-ledger.ledger (g.D.Disk.state c.args.disk.now) (g.D.Disk.state c.open.new.disk) (g.D.Disk.state c.fetch.new.disk) (g.O.Sink.state c.args.out.now) (g.O.Sink.state c.fetch.new.out) (Err c.in_err-fetch.field-0.0) = record {
      opens = c.in_ok-ledger.ensures;
      fetched = tt;
      own = tt;
      unknown = gave.unknown;
      undetermined = λ b nodes e. let by = gave.undetermined b nodes e in (by.0, by.1, by.2, by.3, ap g.O.Sink.state by.4, by.5);
      open_refused = gave.open_refused;
      clash = gave.clash;
      computed = λ reveal known tests b revealed computed e. let by = gave.computed reveal known tests b revealed computed e in (by.0, by.1, by.2, ap g.O.Sink.state by.3);
      no_clash = gave.no_clash;
      unused = λ is. ap g.O.Sink.state (gave.unused is);
      part = λ p is. elim (gave.part p is) [ inl none ↦ inl (ap g.O.Sink.state none) | inr part ↦ inr part ];
      reads = gave.reads;
      in_room = gave.in_room;
    } in
    rw (err_with c.from_residual-in_err-fetch.result (fetch_failure c.in_err-fetch.field-0.0) c.from_residual-in_err-fetch.ensures.1)
    (fetches_fetched c.args.name.now g.D.Disk.reveals c.in_ok-ledger.ledger (g.D.Disk.state c.args.disk.now) (g.D.Disk.state c.open.new.disk) (g.D.Disk.state c.fetch.new.disk) (g.O.Sink.state c.args.out.now) (g.O.Sink.state c.fetch.new.out) (Err c.in_err-fetch.field-0.0) has)

pub returns-in_err-fetch-clause-refuses : goal.returns-in_err-fetch-clause-refuses
returns-in_err-fetch-clause-refuses g c =
    let gave = c.in_err-fetch.ensures in
    let has : HasFetching c.args.name.now g.D.Disk.reveals c.in_ok-ledger.ledger (g.D.Disk.state c.args.disk.now) (g.D.Disk.state c.open.new.disk) (g.D.Disk.state c.fetch.new.disk) (g.O.Sink.state c.args.out.now) (g.O.Sink.state c.fetch.new.out) (Err c.in_err-fetch.field-0.0) = record {
      opens = c.in_ok-ledger.ensures;
      fetched = tt;
      own = tt;
      unknown = gave.unknown;
      undetermined = λ b nodes e. let by = gave.undetermined b nodes e in (by.0, by.1, by.2, by.3, ap g.O.Sink.state by.4, by.5);
      open_refused = gave.open_refused;
      clash = gave.clash;
      computed = λ reveal known tests b revealed computed e. let by = gave.computed reveal known tests b revealed computed e in (by.0, by.1, by.2, ap g.O.Sink.state by.3);
      no_clash = gave.no_clash;
      unused = λ is. ap g.O.Sink.state (gave.unused is);
      part = λ p is. elim (gave.part p is) [ inl none ↦ inl (ap g.O.Sink.state none) | inr part ↦ inr part ];
      reads = gave.reads;
      in_room = gave.in_room;
    } in
    rw (err_with c.from_residual-in_err-fetch.result (fetch_failure c.in_err-fetch.field-0.0) c.from_residual-in_err-fetch.ensures.1)
    (fetched_refuses c.ledgers_have_one_reading.ensures c.new_names_are_free.ensures c.survivors_are_revealed.ensures c.args.name.now g.D.Disk.reveals c.in_ok-ledger.ledger (g.D.Disk.state c.args.disk.now) (g.D.Disk.state c.open.new.disk) (g.D.Disk.state c.fetch.new.disk) (g.O.Sink.state c.args.out.now) (g.O.Sink.state c.fetch.new.out) (Err c.in_err-fetch.field-0.0) has)

pub returns-in_err-fetch-clause-reads : goal.returns-in_err-fetch-clause-reads
returns-in_err-fetch-clause-reads g c = (returns-in_err-fetch-clause-fetches g c).reads

pub returns-clause-fetches : goal.returns-clause-fetches
returns-clause-fetches g c =
    let gave = c.in_ok-fetch.ensures in
    let has : HasFetching c.args.name.now g.D.Disk.reveals c.in_ok-ledger.ledger (g.D.Disk.state c.args.disk.now) (g.D.Disk.state c.open.new.disk) (g.D.Disk.state c.fetch.new.disk) (g.O.Sink.state c.args.out.now) (g.O.Sink.state c.fetch.new.out) (Ok c.in_ok-fetch.field-0) = record {
      opens = c.in_ok-ledger.ensures;
      fetched = gave.fetched;
      own = gave.own;
      unknown = gave.unknown;
      undetermined = λ b nodes e. let by = gave.undetermined b nodes e in (by.0, by.1, by.2, by.3, ap g.O.Sink.state by.4, by.5);
      open_refused = gave.open_refused;
      clash = gave.clash;
      computed = λ reveal known tests b revealed computed e. let by = gave.computed reveal known tests b revealed computed e in (by.0, by.1, by.2, ap g.O.Sink.state by.3);
      no_clash = gave.no_clash;
      unused = λ is. ap g.O.Sink.state (gave.unused is);
      part = tt;
      reads = gave.reads;
      in_room = gave.in_room;
    } in
    fetches_fetched c.args.name.now g.D.Disk.reveals c.in_ok-ledger.ledger (g.D.Disk.state c.args.disk.now) (g.D.Disk.state c.open.new.disk) (g.D.Disk.state c.fetch.new.disk) (g.O.Sink.state c.args.out.now) (g.O.Sink.state c.fetch.new.out) (Ok c.in_ok-fetch.field-0) has

pub returns-clause-refuses : goal.returns-clause-refuses
returns-clause-refuses g c =
    let gave = c.in_ok-fetch.ensures in
    let has : HasFetching c.args.name.now g.D.Disk.reveals c.in_ok-ledger.ledger (g.D.Disk.state c.args.disk.now) (g.D.Disk.state c.open.new.disk) (g.D.Disk.state c.fetch.new.disk) (g.O.Sink.state c.args.out.now) (g.O.Sink.state c.fetch.new.out) (Ok c.in_ok-fetch.field-0) = record {
      opens = c.in_ok-ledger.ensures;
      fetched = gave.fetched;
      own = gave.own;
      unknown = gave.unknown;
      undetermined = λ b nodes e. let by = gave.undetermined b nodes e in (by.0, by.1, by.2, by.3, ap g.O.Sink.state by.4, by.5);
      open_refused = gave.open_refused;
      clash = gave.clash;
      computed = λ reveal known tests b revealed computed e. let by = gave.computed reveal known tests b revealed computed e in (by.0, by.1, by.2, ap g.O.Sink.state by.3);
      no_clash = gave.no_clash;
      unused = λ is. ap g.O.Sink.state (gave.unused is);
      part = tt;
      reads = gave.reads;
      in_room = gave.in_room;
    } in
    fetched_refuses c.ledgers_have_one_reading.ensures c.new_names_are_free.ensures c.survivors_are_revealed.ensures c.args.name.now g.D.Disk.reveals c.in_ok-ledger.ledger (g.D.Disk.state c.args.disk.now) (g.D.Disk.state c.open.new.disk) (g.D.Disk.state c.fetch.new.disk) (g.O.Sink.state c.args.out.now) (g.O.Sink.state c.fetch.new.out) (Ok c.in_ok-fetch.field-0) has

pub returns-clause-reads : goal.returns-clause-reads
returns-clause-reads g c = (returns-clause-fetches g c).reads

-- where the failure is not of the output, the fault is not that of a write
not_by_output : {T : Type 0} (answer : Result T Failure) (f : FetchFault) → answer ≡ Err (fetch_failure f) → answer ≢ Err failure.Output
    → (let r : Result ℕ FetchFault = Err f in r ≢ Err fault.WriteFault)
not_by_output answer f is other e =
    let h : (let r : Result ℕ FetchFault = Err f in r ≡ Err fault.WriteFault) = e in
    let same : f ≡ fault.WriteFault = cc in
    other (is ∙ ap (λ (x : FetchFault). Err (fetch_failure x)) same)

pub returns-in_err-fetch-clause-out_still : goal.returns-in_err-fetch-clause-out_still
returns-in_err-fetch-clause-out_still g c other =
    let f = c.in_err-fetch.field-0.0 in
    c.in_err-fetch.ensures.out_still (not_by_output c.from_residual-in_err-fetch.result f (err_with c.from_residual-in_err-fetch.result (fetch_failure f) c.from_residual-in_err-fetch.ensures.1) other)
