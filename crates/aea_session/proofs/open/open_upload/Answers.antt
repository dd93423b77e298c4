use Rattle.std.proofs.Common.{Some, ◌++◌, refl, subst}
use Rattle.aea_lattice.specs.declared.shape.Shape.{Shape}
use Rattle.aea_messages.specs.declared.message.Message.TheVariants.{Open}
use Rattle.aea_uploads.specs.Slots.{Keeps, opened}
use Rattle.aea_session.proofs.Slotted.{steps_slot}
use Rattle.aea_session.proofs.open.open_upload.Goals as goal

pub returns-clause-steps : goal.returns-clause-steps
returns-clause-steps c m keeps =
    let v = c.args.work.now in
    steps_slot c.names_stay_own.ensures c.limits_stay.ensures v m (Open c.args.slot c.args.name.now) c.args.slot (Some c.in_ok-upload.upload) (Some (opened c.args.name.now))
    (c.in_default.ensures.inside refl) (c.in_default.ensures.steps m keeps) keeps
    (subst (λ (s : Shape). Keeps s (m.datas ++ m.woven) c.in_ok-upload.upload (opened c.args.name.now)) c.shape.ensures.value (c.in_ok-upload.ensures.keeps (m.datas ++ m.woven)))
