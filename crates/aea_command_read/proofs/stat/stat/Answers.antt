use Rattle.std.proofs.Common.{ℕ, List, inl, inr, refl, ◌∙◌, subst, Err}
use Rattle.aea_command.specs.declared.refusal.Failure.TheVariants as failure
use Rattle.aea_command.specs.Printed.{PrintsText}
use Rattle.aea_command.proofs.OpeningCases.{err_with}
use Rattle.aea_command.proofs.Texts.{text_broken}
use Rattle.aea_command_read.proofs.StatLemmas.{stats_opened, unopened_reveals}
use Rattle.aea_command_read.proofs.stat.stat.Goals as goal

pub returns-in_err-ledger-clause-refuses : goal.returns-in_err-ledger-clause-refuses
returns-in_err-ledger-clause-refuses g c =
    let f = c.in_err-ledger.field-0.0 in
    rw (err_with c.from_residual.result f c.from_residual.ensures.1)
    (unopened_reveals g.D.Disk.reveals (g.D.Disk.state c.args.disk.now) (g.D.Disk.state c.open.new.disk) f c.in_err-ledger.ensures)

pub returns-in_err-put_text-clause-stats : goal.returns-in_err-put_text-clause-stats
returns-in_err-put_text-clause-stats g c =
    let before = g.O.Sink.state c.args.out.now in
    let after = g.O.Sink.state c.put_text.new.out in
    rw (err_with c.from_residual-in_err-put_text.result failure.Output c.from_residual-in_err-put_text.ensures.1)
    (stats_opened c.objects_are_counted.ensures g.D.Disk.reveals (g.D.Disk.state c.args.disk.now) (g.D.Disk.state c.open.new.disk) before after c.in_ok-ledger.ledger (Err failure.Output) c.in_ok-ledger.ensures (inr (inl refl))
    (subst (λ (t : List ℕ). PrintsText before after (Err failure.Output) t) (c.as_bytes.ensures.value ∙ c.in_ok-line.ensures) (text_broken c.in_err-put_text.ensures.prints)))
