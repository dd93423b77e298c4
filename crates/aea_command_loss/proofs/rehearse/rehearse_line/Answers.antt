use Rattle.std.proofs.Common.{◌≡◌, inl, inr, refl, Ok, Err}
use Rattle.aea_command.specs.declared.refusal.Failure.TheVariants as failure
use Rattle.aea_command.specs.Failures.{Answer}
use Rattle.aea_command.proofs.OpeningCases.{err_with}
use Rattle.aea_command_loss.proofs.RehearseLemmas.{rehearses_printed}
use Rattle.aea_command.proofs.Texts.{text_printed, text_broken}
use Rattle.aea_command_loss.proofs.rehearse.rehearse_line.Goals as goal

pub returns-in_err-put_rehearsal-clause-rehearses : goal.returns-in_err-put_rehearsal-clause-rehearses
returns-in_err-put_rehearsal-clause-rehearses g c =
    rw (err_with c.from_residual-in_err-put_rehearsal.result failure.Output c.from_residual-in_err-put_rehearsal.ensures.1)
    (rehearses_printed c.args.number c.args.nodes c.args.permille (g.O.Sink.state c.args.out.now) (g.O.Sink.state c.put_rehearsal.new.out) (Err failure.Output) c.in_ok-rehearsal.rehearsal (inr (inl refl)) (λ e. let h : (let answer : Answer = Err failure.Output in answer ≡ Err failure.Memory) = e in cc)
    c.in_ok-rehearsal.ensures.rehearsed (record { prints = text_broken c.in_err-put_rehearsal.ensures.prints; status = tt }))

pub returns-clause-rehearses : goal.returns-clause-rehearses
returns-clause-rehearses g c =
    rehearses_printed c.args.number c.args.nodes c.args.permille (g.O.Sink.state c.args.out.now) (g.O.Sink.state c.put_rehearsal.new.out) (Ok c.by_damage.result) c.in_ok-rehearsal.rehearsal (inl refl) (λ e. let h : (let answer : Answer = Ok c.by_damage.result in answer ≡ Err failure.Memory) = e in cc)
    c.in_ok-rehearsal.ensures.rehearsed (record { prints = text_printed c.by_damage.result c.in_ok-put_rehearsal.ensures.prints; status = c.by_damage.ensures })
