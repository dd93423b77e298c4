use Rattle.std.proofs.Common.{◌≢◌, inl, inr, refl, ap, Result, Ok, Err}
use Rattle.aea_command.specs.declared.refusal.Failure.{Failure}
use Rattle.aea_command.specs.declared.refusal.Failure.TheVariants as failure
use Rattle.aea_command.specs.declared.status.Status.TheVariants.{Done}
use Rattle.aea_command_store.specs.Upgrade.{UpgradeCauses}
use Rattle.aea_command_store.proofs.Adding.Running.{printing_refuses}
use Rattle.aea_command_store.proofs.UpgradeLemmas.Running.{upgrades_failed, upgrades_added}
use Rattle.aea_command.proofs.OpeningCases.{err_with}
use Rattle.aea_command.proofs.Refusing.{refuses_as}
use Rattle.aea_command.proofs.Texts.{text_printed, text_broken}
use Rattle.aea_command_store.proofs.upgrade.upgrade.Goals as goal

not_output : (f : Failure) → (let one : Result (Unit {0}) Failure = Err f in one ≢ Err failure.Output) → f ≢ failure.Output
not_output f differs e = differs (ap Err e)

pub returns-in_err-add_raise-clause-upgrades : goal.returns-in_err-add_raise-clause-upgrades
returns-in_err-add_raise-clause-upgrades g c =
    let f = c.in_err-add_raise.field-0.0 in
    rw (err_with c.from_residual.result f c.from_residual.ensures.1)
    (upgrades_failed g.D.Disk.reveals (g.D.Disk.state c.args.disk.now) (g.D.Disk.state c.add_raise.new.disk) (g.O.Sink.state c.args.out.now) f (not_output f c.in_err-add_raise.ensures.output) c.in_err-add_raise.ensures.adds)

pub returns-in_err-add_raise-clause-refuses : goal.returns-in_err-add_raise-clause-refuses
returns-in_err-add_raise-clause-refuses g c =
    let f = c.in_err-add_raise.field-0.0 in
    rw (err_with c.from_residual.result f c.from_residual.ensures.1)
    (refuses_as g.D.Disk.reveals (UpgradeCauses ((g.D.Disk.state c.args.disk.now).files 0)) f (Err f) refl c.in_err-add_raise.ensures.refuses)

pub returns-in_err-put_text-clause-upgrades : goal.returns-in_err-put_text-clause-upgrades
returns-in_err-put_text-clause-upgrades g c =
    rw (err_with c.from_residual-in_err-put_text.result failure.Output c.from_residual-in_err-put_text.ensures.1)
    (upgrades_added g.D.Disk.reveals (g.D.Disk.state c.args.disk.now) (g.D.Disk.state c.add_raise.new.disk) (g.O.Sink.state c.args.out.now) (g.O.Sink.state c.put_text.new.out) c.in_ok-add_raise.field-0 (Err failure.Output) (inr refl)
    c.in_ok-add_raise.ensures.adds (text_broken c.in_err-put_text.ensures.prints))

pub returns-in_err-put_text-clause-refuses : goal.returns-in_err-put_text-clause-refuses
returns-in_err-put_text-clause-refuses g c =
    rw (err_with c.from_residual-in_err-put_text.result failure.Output c.from_residual-in_err-put_text.ensures.1)
    (printing_refuses g.D.Disk.reveals (UpgradeCauses ((g.D.Disk.state c.args.disk.now).files 0)) c.in_ok-add_raise.field-0 (Err failure.Output) (inr refl) c.in_ok-add_raise.ensures.refuses)

pub returns-clause-upgrades : goal.returns-clause-upgrades
returns-clause-upgrades g c =
    upgrades_added g.D.Disk.reveals (g.D.Disk.state c.args.disk.now) (g.D.Disk.state c.add_raise.new.disk) (g.O.Sink.state c.args.out.now) (g.O.Sink.state c.put_text.new.out) c.in_ok-add_raise.field-0 (Ok Done) (inl refl)
    c.in_ok-add_raise.ensures.adds (text_printed Done c.in_ok-put_text.ensures.prints)

pub returns-clause-refuses : goal.returns-clause-refuses
returns-clause-refuses g c =
    printing_refuses g.D.Disk.reveals (UpgradeCauses ((g.D.Disk.state c.args.disk.now).files 0)) c.in_ok-add_raise.field-0 (Ok Done) (inl refl) c.in_ok-add_raise.ensures.refuses
