use Rattle.std.proofs.Common.{◌≢◌, inl, inr, refl, ap, Result, Ok, Err}
use Rattle.aea_append.specs.declared.store.Stored.{Stored}
use Rattle.aea_command.specs.declared.refusal.Failure.{Failure}
use Rattle.aea_command.specs.declared.refusal.Failure.TheVariants as failure
use Rattle.aea_command.specs.declared.status.Status.TheVariants.{Done}
use Rattle.aea_command_store.specs.Put.{stored_text}
use Rattle.aea_command_store.proofs.Adding.Running.{printing_refuses_by}
use Rattle.aea_command.proofs.OpeningCases.{err_with}
use Rattle.aea_command_store.proofs.PutLemmas.Running.{puts_failed, puts_stored}
use Rattle.aea_command.proofs.Refusing.{refuses_by_as}
use Rattle.aea_command.proofs.Texts.{text_printed, text_broken}
use Rattle.aea_command_store.proofs.put.put_input.Goals as goal

not_output : (f : Failure) → (let one : Result Stored Failure = Err f in one ≢ Err failure.Output) → f ≢ failure.Output
not_output f differs e = differs (ap Err e)

pub returns-in_err-stored-clause-puts : goal.returns-in_err-stored-clause-puts
returns-in_err-stored-clause-puts g c =
    let f = c.in_err-stored.field-0.0 in
    rw (err_with c.from_residual.result f c.from_residual.ensures.1)
    (puts_failed c.args.name.now g.D.Disk.reveals (g.D.Disk.state c.args.disk.now) (g.D.Disk.state c.add_object.new.disk) (g.S.Source.state c.args.input.now).left (g.S.Source.state c.add_object.new.input).left (g.O.Sink.state c.args.out.now) f
    (not_output f c.in_err-stored.ensures.output) c.in_err-stored.ensures.stores)

pub returns-in_err-stored-clause-refuses : goal.returns-in_err-stored-clause-refuses
returns-in_err-stored-clause-refuses g c =
    let f = c.in_err-stored.field-0.0 in
    rw (err_with c.from_residual.result f c.from_residual.ensures.1)
    (refuses_by_as _ _ f (Err f) refl c.in_err-stored.ensures.refuses)

pub returns-in_err-write_line-clause-puts : goal.returns-in_err-write_line-clause-puts
returns-in_err-write_line-clause-puts g c =
    let stored = c.in_ok-stored.stored in
    rw (err_with c.from_residual-in_err-write_line.result failure.Output c.from_residual-in_err-write_line.ensures.1)
    (puts_stored c.args.name.now g.D.Disk.reveals (g.D.Disk.state c.args.disk.now) (g.D.Disk.state c.add_object.new.disk) (g.S.Source.state c.args.input.now).left (g.S.Source.state c.add_object.new.input).left (g.O.Sink.state c.args.out.now) (g.O.Sink.state c.write_line.new.out)
    stored (Err failure.Output) (stored_text stored.nodes stored.length stored.digest c.args.name.now) (inr refl)
    c.in_ok-stored.ensures.stores c.in_ok-stored.ensures.line (text_broken c.in_err-write_line.ensures.prints))

pub returns-in_err-write_line-clause-refuses : goal.returns-in_err-write_line-clause-refuses
returns-in_err-write_line-clause-refuses g c =
    rw (err_with c.from_residual-in_err-write_line.result failure.Output c.from_residual-in_err-write_line.ensures.1)
    (printing_refuses_by _ _ c.in_ok-stored.stored (Err failure.Output) (inr refl) c.in_ok-stored.ensures.refuses)

pub returns-clause-puts : goal.returns-clause-puts
returns-clause-puts g c =
    let stored = c.in_ok-stored.stored in
    puts_stored c.args.name.now g.D.Disk.reveals (g.D.Disk.state c.args.disk.now) (g.D.Disk.state c.add_object.new.disk) (g.S.Source.state c.args.input.now).left (g.S.Source.state c.add_object.new.input).left (g.O.Sink.state c.args.out.now) (g.O.Sink.state c.write_line.new.out)
    stored (Ok Done) (stored_text stored.nodes stored.length stored.digest c.args.name.now) (inl refl)
    c.in_ok-stored.ensures.stores c.in_ok-stored.ensures.line (text_printed Done c.in_ok-write_line.ensures.prints)

pub returns-clause-refuses : goal.returns-clause-refuses
returns-clause-refuses g c =
    printing_refuses_by _ _ c.in_ok-stored.stored (Ok Done) (inl refl) c.in_ok-stored.ensures.refuses
