use Rattle.std.proofs.Common.{inl, inr, refl, subst, Ok, Err}
use Rattle.aea_catalog.specs.Catalogs.{Objects}
use Rattle.aea_command.specs.declared.refusal.Failure.TheVariants as failure
use Rattle.aea_command.specs.declared.status.Status.TheVariants.{Done}
use Rattle.aea_command_read.specs.List.{list_text}
use Rattle.aea_command.specs.Printed.{PrintsText}
use Rattle.aea_command_read.proofs.ListLemmas.{lists_unopened, lists_opened}
use Rattle.aea_command.proofs.OpeningCases.{err_with}
use Rattle.aea_command_read.proofs.StatLemmas.{unopened_reveals}
use Rattle.aea_command.proofs.Texts.{text_printed, text_broken}
use Rattle.aea_command_read.proofs.list.list.Goals as goal

pub returns-in_err-ledger-clause-lists : goal.returns-in_err-ledger-clause-lists
returns-in_err-ledger-clause-lists g c =
    let f = c.in_err-ledger.field-0.0 in
    rw (err_with c.from_residual.result f c.from_residual.ensures.1)
    (lists_unopened g.D.Disk.reveals (g.D.Disk.state c.args.disk.now) (g.D.Disk.state c.open.new.disk) (g.O.Sink.state c.args.out.now) f c.in_err-ledger.ensures)

pub returns-in_err-put_objects-clause-lists : goal.returns-in_err-put_objects-clause-lists
returns-in_err-put_objects-clause-lists g c =
    rw (err_with c.from_residual-in_err-put_objects.result failure.Output c.from_residual-in_err-put_objects.ensures.1)
    (lists_opened g.D.Disk.reveals (g.D.Disk.state c.args.disk.now) (g.D.Disk.state c.open.new.disk) (g.O.Sink.state c.args.out.now) (g.O.Sink.state c.put_objects.new.out) c.in_ok-ledger.ledger (Err failure.Output) c.in_ok-ledger.ensures (inr refl)
    (subst (λ (m : Objects). PrintsText (g.O.Sink.state c.args.out.now) (g.O.Sink.state c.put_objects.new.out) (Err failure.Output) (list_text m)) c.catalog.ensures.objects (text_broken c.in_err-put_objects.ensures.prints)))

pub returns-clause-lists : goal.returns-clause-lists
returns-clause-lists g c =
    lists_opened g.D.Disk.reveals (g.D.Disk.state c.args.disk.now) (g.D.Disk.state c.open.new.disk) (g.O.Sink.state c.args.out.now) (g.O.Sink.state c.put_objects.new.out) c.in_ok-ledger.ledger (Ok Done) c.in_ok-ledger.ensures (inl refl)
    (subst (λ (m : Objects). PrintsText (g.O.Sink.state c.args.out.now) (g.O.Sink.state c.put_objects.new.out) (Ok Done) (list_text m)) c.catalog.ensures.objects (text_printed Done c.in_ok-put_objects.ensures.prints))

pub returns-in_err-ledger-clause-refuses : goal.returns-in_err-ledger-clause-refuses
returns-in_err-ledger-clause-refuses g c =
    let f = c.in_err-ledger.field-0.0 in
    rw (err_with c.from_residual.result f c.from_residual.ensures.1)
    (unopened_reveals g.D.Disk.reveals (g.D.Disk.state c.args.disk.now) (g.D.Disk.state c.open.new.disk) f c.in_err-ledger.ensures)
