use Rattle.std.proofs.Common.{◌≡◌, Result, Ok, Err, refl}
use Rattle.std.specs.Prelude.{IsOk}
use Rattle.std.proofs.lemmas.Bool.{false≢true}
use Rattle.aea_command.specs.declared.refusal.Failure.{Failure}
use Rattle.aea_command.specs.declared.refusal.Failure.TheVariants as failure
use Rattle.aea_command.specs.declared.status.Status.TheVariants.{Done}
use Rattle.aea_command.specs.Failures.{Answer}
use Rattle.aea_command.proofs.OpeningCases.{err_with}
use Rattle.aea_command.proofs.Refusing.{refuses_as, refuses_done}
use Rattle.aea_command.proofs.Texts.{text_printed, text_broken, text_unused}
use Rattle.aea_command_copies.specs.Copies.{copies_line, EndsBegun}
use Rattle.aea_command_copies.proofs.Running.{over_as, begins_by, not_begun, not_output, as_answer, from_answer}
use Rattle.aea_command_copies.proofs.copies.copies.Goals as goal

output_not : (let a : Answer = Err failure.Output in a ≡ Err failure.Disk) → ⊥
output_not e = cc

done_not : (let a : Answer = Ok Done in a ≡ Err failure.Disk) → ⊥
done_not e = cc

ok_not : (u : Unit {0}) → (let r : Result (Unit {0}) Failure = Ok u in r ≡ Err failure.Disk) → ⊥
ok_not u e = cc

pub returns-in_err-begin-clause-begins : goal.returns-in_err-begin-clause-begins
returns-in_err-begin-clause-begins g c =
    let f = c.in_err-begin.field-0.0 in
    let none = not_output f c.in_err-begin.ensures.output in
    rw (err_with c.from_residual.result f c.from_residual.ensures.1)
    (begins_by g.D.Disk.reveals c.args.mirror.now.on (let r : Result (Unit {0}) Failure = Err f in r ≡ Err failure.Disk) (let r : Result (Unit {0}) Failure = Err f in IsOk r) _ _ _ _ _ _ (Err f) tt (text_unused (g.O.Sink.state c.args.out.now) f copies_line none)
    (from_answer f) (λ is. absurd (not_begun f none is)) c.in_err-begin.ensures.begins)

pub returns-in_err-begin-clause-over : goal.returns-in_err-begin-clause-over
returns-in_err-begin-clause-over g c =
    let f = c.in_err-begin.field-0.0 in
    let none = not_output f c.in_err-begin.ensures.output in
    rw (err_with c.from_residual.result f c.from_residual.ensures.1)
    (over_as g.D.Disk.reveals c.args.mirror.now.on (let r : Result (Unit {0}) Failure = Err f in r ≡ Err failure.Disk) (let r : Result (Unit {0}) Failure = Err f in IsOk r)
    (let a : Answer = Err f in a ≡ Err failure.Disk) (EndsBegun (Err f)) _ _ _ _ (from_answer f) (as_answer f) (λ is. absurd (not_begun f none is)) (λ is. absurd (false≢true is)) c.in_err-begin.ensures.begins)

pub returns-in_err-begin-clause-refuses : goal.returns-in_err-begin-clause-refuses
returns-in_err-begin-clause-refuses g c =
    let f = c.in_err-begin.field-0.0 in
    rw (err_with c.from_residual.result f c.from_residual.ensures.1) (refuses_as g.D.Disk.reveals _ f (Err f) refl c.in_err-begin.ensures.refuses)

pub returns-in_err-put_text-clause-begins : goal.returns-in_err-put_text-clause-begins
returns-in_err-put_text-clause-begins g c =
    let u = c.in_ok-begin.field-0 in
    rw (err_with c.from_residual-in_err-put_text.result failure.Output c.from_residual-in_err-put_text.ensures.1)
    (begins_by g.D.Disk.reveals c.args.mirror.now.on (let r : Result (Unit {0}) Failure = Ok u in r ≡ Err failure.Disk) (let r : Result (Unit {0}) Failure = Ok u in IsOk r) _ _ _ _ _ _ (Err failure.Output) tt (text_broken c.in_err-put_text.ensures.prints)
    (λ e. absurd (output_not e)) (λ is. refl) c.in_ok-begin.ensures.begins)

pub returns-in_err-put_text-clause-over : goal.returns-in_err-put_text-clause-over
returns-in_err-put_text-clause-over g c =
    let u = c.in_ok-begin.field-0 in
    rw (err_with c.from_residual-in_err-put_text.result failure.Output c.from_residual-in_err-put_text.ensures.1)
    (over_as g.D.Disk.reveals c.args.mirror.now.on (let r : Result (Unit {0}) Failure = Ok u in r ≡ Err failure.Disk) (let r : Result (Unit {0}) Failure = Ok u in IsOk r)
    (let a : Answer = Err failure.Output in a ≡ Err failure.Disk) (EndsBegun (Err failure.Output)) _ _ _ _ (λ e. absurd (output_not e)) (λ e. absurd (ok_not u e)) (λ is. refl) (λ is. tt) c.in_ok-begin.ensures.begins)

pub returns-in_err-put_text-clause-refuses : goal.returns-in_err-put_text-clause-refuses
returns-in_err-put_text-clause-refuses g c =
    rw (err_with c.from_residual-in_err-put_text.result failure.Output c.from_residual-in_err-put_text.ensures.1)
    (refuses_done g.D.Disk.reveals _ c.in_ok-begin.field-0 (Err failure.Output) (λ why e. let h : (let a : Answer = Err failure.Output in a ≡ Err (failure.Refused why)) = e in cc) c.in_ok-begin.ensures.refuses)

pub returns-clause-begins : goal.returns-clause-begins
returns-clause-begins g c =
    let u = c.in_ok-begin.field-0 in
    begins_by g.D.Disk.reveals c.args.mirror.now.on (let r : Result (Unit {0}) Failure = Ok u in r ≡ Err failure.Disk) (let r : Result (Unit {0}) Failure = Ok u in IsOk r) _ _ _ _ _ _ (Ok Done) refl (text_printed Done c.in_ok-put_text.ensures.prints)
    (λ e. absurd (done_not e)) (λ is. refl) c.in_ok-begin.ensures.begins

pub returns-clause-over : goal.returns-clause-over
returns-clause-over g c =
    let u = c.in_ok-begin.field-0 in
    over_as g.D.Disk.reveals c.args.mirror.now.on (let r : Result (Unit {0}) Failure = Ok u in r ≡ Err failure.Disk) (let r : Result (Unit {0}) Failure = Ok u in IsOk r)
    (let a : Answer = Ok Done in a ≡ Err failure.Disk) (EndsBegun (Ok Done)) _ _ _ _ (λ e. absurd (done_not e)) (λ e. absurd (ok_not u e)) (λ is. refl) (λ is. tt) c.in_ok-begin.ensures.begins

pub returns-clause-refuses : goal.returns-clause-refuses
returns-clause-refuses g c =
    refuses_done g.D.Disk.reveals _ c.in_ok-begin.field-0 (Ok Done) (λ why e. let h : (let a : Answer = Ok Done in a ≡ Err (failure.Refused why)) = e in cc) c.in_ok-begin.ensures.refuses
