use Rattle.std.proofs.Common.{◌≡◌, inl, inr, Result, Ok, Err, ap, refl, sym, ◌∙◌}
use Rattle.aea_ledger.specs.declared.create.CreateFault.{CreateFault}
use Rattle.aea_ledger.specs.declared.create.CreateFault.TheVariants as creation
use Rattle.aea_command.specs.declared.refusal.Failure.TheVariants as failure
use Rattle.aea_command.specs.declared.status.Status.TheVariants.{Done}
use Rattle.aea_disk.specs.Files.{ChangesOnly}
use Rattle.aea_disk.proofs.Frames.{writes_none, writes_as}
use Rattle.aea_ledger.specs.Taking.{FitsMaking}
use Rattle.aea_command.specs.Failures.{Answer, creation_failure}
use Rattle.aea_command.proofs.OpeningCases.{err_with}
use Rattle.aea_command.proofs.Refusing.{refuses_stopped}
use Rattle.aea_command.proofs.Texts.{text_printed, text_broken}
use Rattle.aea_command_store.proofs.CreateLemmas.{IsUnmade, IsMade, creates_nothing, creates_failed, creates_made, create_refuses, made_refuses}
use Rattle.aea_command_store.proofs.create.create.Given.{Over}
use Rattle.aea_command_store.proofs.create.create.Goals as goal

ok_not_err : {T : Type 0} (v : T) (fault : CreateFault) → Ok v ≡ Err fault → ⊥
ok_not_err v fault e = cc

fault_same : (fault other : CreateFault) → (let one : Result (Unit {0}) CreateFault = Err fault in one ≡ Err other) → fault ≡ other
fault_same fault other e = cc

occupied_not_disk : (fault : CreateFault) → fault ≡ creation.Occupied → fault ≡ creation.DiskFault → ⊥
occupied_not_disk fault one two = let h : creation.Occupied ≡ creation.DiskFault = sym one ∙ two in cc

memory_not_disk : (answer : Answer) → answer ≡ Err failure.Memory → answer ≡ Err failure.Disk → ⊥
memory_not_disk answer one two = let h : Err failure.Memory ≡ Err failure.Disk = sym one ∙ two in cc

pub returns-in_err-line-clause-writes : goal.returns-in_err-line-clause-writes
returns-in_err-line-clause-writes g c =
    let s = g.D.Disk.state c.args.disk.now in
    writes_as g.D.Disk.reveals _ (FitsMaking s c.args.shape.now) ⊥ _ (ChangesOnly 0) s s
    (memory_not_disk c.from_residual.result (err_with c.from_residual.result failure.Memory c.from_residual.ensures.1)) (λ none. absurd none)
    (writes_none g.D.Disk.reveals _ (FitsMaking s c.args.shape.now) (ChangesOnly 0) s (λ files f keep. refl))

pub returns-in_err-line-clause-creates : goal.returns-in_err-line-clause-creates
returns-in_err-line-clause-creates g c =
    rw (err_with c.from_residual.result failure.Memory c.from_residual.ensures.1)
    (creates_nothing c.args.shape.now g.D.Disk.reveals (g.D.Disk.state c.args.disk.now) (g.O.Sink.state c.args.out.now))

pub returns-in_err-line-clause-refuses : goal.returns-in_err-line-clause-refuses
returns-in_err-line-clause-refuses g c =
    refuses_stopped _ _ _ (inr (inr (err_with c.from_residual.result failure.Memory c.from_residual.ensures.1)))

pub returns-in_err-create_ledger-clause-creates : goal.returns-in_err-create_ledger-clause-creates
returns-in_err-create_ledger-clause-creates g c =
    let old = g.D.Disk.state c.args.disk.now in
    let new = g.D.Disk.state c.create_ledger.new.disk in
    let fault = c.in_err-create_ledger.field-0.0 in
    let gave = c.in_err-create_ledger.ensures in
    let unmade : IsUnmade c.args.shape.now g.D.Disk.reveals old new fault = record {
      occupied = λ e. gave.occupied (ap Err e);
      kept = λ e. gave.untouched (ap Err e);
      stops = gave.stops;
      reads = gave.reads;
      long = gave.length;
      opened = λ e revealed.
          let other : Err fault ≡ Err creation.DiskFault → ⊥ = λ d. occupied_not_disk fault e (fault_same fault creation.DiskFault d) in
          (gave.opened other revealed, gave.durable other revealed);
      sure = λ revealed ready room. (λ e. (gave.writes.sure revealed ready room).0 (ap Err e), (gave.writes.sure revealed ready room).1);
      refused = λ revealed header ready room. let r = gave.refused revealed header ready room in let h = r.0 in (cc, r.1);
    } in
    rw (err_with c.from_residual-in_err-create_ledger.result (creation_failure fault) c.from_residual-in_err-create_ledger.ensures.1)
    (creates_failed c.args.shape.now g.D.Disk.reveals old new (g.O.Sink.state c.args.out.now) fault unmade)

pub returns-in_err-create_ledger-clause-refuses : goal.returns-in_err-create_ledger-clause-refuses
returns-in_err-create_ledger-clause-refuses g c =
    let fault = c.in_err-create_ledger.field-0.0 in
    rw (err_with c.from_residual-in_err-create_ledger.result (creation_failure fault) c.from_residual-in_err-create_ledger.ensures.1)
    (create_refuses g.D.Disk.reveals _ fault (λ e. c.in_err-create_ledger.ensures.occupied (ap Err e)))

-- what the call ensures that made the archive, where its line was not written
made_first : (g : Over) (c : goal.After-drop-line-in_err-put_text g) → IsMade c.args.shape.now g.D.Disk.reveals (g.D.Disk.state c.args.disk.now) (g.D.Disk.state c.create_ledger.new.disk)
made_first g c =
    let gave = c.in_ok-create_ledger.ensures in
    record {
      stands = λ revealed. record { free = gave.free revealed; empty = gave.created revealed; durable = gave.durable (ok_not_err c.in_ok-create_ledger.field-0 creation.DiskFault) revealed };
      stops = gave.stops;
      opened = λ revealed. (gave.opened (ok_not_err c.in_ok-create_ledger.field-0 creation.DiskFault) revealed, gave.durable (ok_not_err c.in_ok-create_ledger.field-0 creation.DiskFault) revealed);
      reads = gave.reads;
      long = gave.length;
      sure = λ revealed ready room. (gave.writes.sure revealed ready room).1;
    }

pub returns-in_err-put_text-clause-creates : goal.returns-in_err-put_text-clause-creates
returns-in_err-put_text-clause-creates g c =
    rw (err_with c.from_residual-in_err-put_text.result failure.Output c.from_residual-in_err-put_text.ensures.1)
    (creates_made c.args.shape.now g.D.Disk.reveals _ _ (g.O.Sink.state c.args.out.now) (g.O.Sink.state c.put_text.new.out) (Err failure.Output) (inr refl) (made_first g c)
    (text_broken (rw (c.as_bytes.ensures.value ∙ c.in_ok-line.ensures) at c.in_err-put_text.ensures.prints)))

pub returns-in_err-put_text-clause-refuses : goal.returns-in_err-put_text-clause-refuses
returns-in_err-put_text-clause-refuses g c =
    rw (err_with c.from_residual-in_err-put_text.result failure.Output c.from_residual-in_err-put_text.ensures.1)
    (made_refuses c.args.shape.now g.D.Disk.reveals _ _ (Err failure.Output) (inr refl) (made_first g c))

-- and where it was
is_made : (g : Over) (c : goal.After-drop-line-2 g) → IsMade c.args.shape.now g.D.Disk.reveals (g.D.Disk.state c.args.disk.now) (g.D.Disk.state c.create_ledger.new.disk)
is_made g c =
    let gave = c.in_ok-create_ledger.ensures in
    record {
      stands = λ revealed. record { free = gave.free revealed; empty = gave.created revealed; durable = gave.durable (ok_not_err c.in_ok-create_ledger.field-0 creation.DiskFault) revealed };
      stops = gave.stops;
      opened = λ revealed. (gave.opened (ok_not_err c.in_ok-create_ledger.field-0 creation.DiskFault) revealed, gave.durable (ok_not_err c.in_ok-create_ledger.field-0 creation.DiskFault) revealed);
      reads = gave.reads;
      long = gave.length;
      sure = λ revealed ready room. (gave.writes.sure revealed ready room).1;
    }

pub returns-clause-creates : goal.returns-clause-creates
returns-clause-creates g c =
    creates_made c.args.shape.now g.D.Disk.reveals _ _ (g.O.Sink.state c.args.out.now) (g.O.Sink.state c.put_text.new.out) (Ok Done) (inl refl) (is_made g c)
    (text_printed Done (rw (c.as_bytes.ensures.value ∙ c.in_ok-line.ensures) at c.in_ok-put_text.ensures.prints))

pub returns-clause-refuses : goal.returns-clause-refuses
returns-clause-refuses g c =
    made_refuses c.args.shape.now g.D.Disk.reveals _ _ (Ok Done) (inl refl) (is_made g c)
