use Rattle.std.proofs.Common.{◌≡◌, [], inl, inr, refl, Ok, Err, ap}
use Rattle.std.specs.Prelude.{IsSome, unwrap_or}
use Rattle.aea_command.specs.declared.refusal.Failure.TheVariants as failure
use Rattle.aea_command_loss.specs.Drill.{DamageCauses}
use Rattle.aea_command_loss.specs.Drill.Reports.{text_by, status_by}
use Rattle.aea_command.proofs.OpeningCases.{err_with}
use Rattle.aea_command.proofs.Refusing.{refuses_stopped, refuses_none, refuses_one}
use Rattle.aea_command.proofs.Texts.{text_printed, text_broken}
use Rattle.aea_command_loss.proofs.DrillLemmas.Refused.{revealed_is, accepted_not_refused, one_cause}
use Rattle.aea_command_loss.proofs.DrillLemmas.Outcomes.{planned_outcome, one_text}
use Rattle.aea_command_loss.proofs.drill.drill.Goals as goal

pub returns-in_err-planned-clause-refuses : goal.returns-in_err-planned-clause-refuses
returns-in_err-planned-clause-refuses g c =
    let f = c.in_err-planned.field-0.0 in
    let left = (g.S.Source.state c.args.input.now).left in
    let revealed = IsSome left in
    let l = c.args.lattice.now in
    let causes = DamageCauses l (unwrap_or left []) in
    rw (err_with c.from_residual.result f c.from_residual.ensures.1)
    (elim c.in_err-planned.ensures.faults [
      | inl e ↦ refuses_stopped revealed causes (Err f) (inr (inl (ap Err e)))
      | inr (inl e) ↦ refuses_stopped revealed causes (Err f) (inr (inr (ap Err e)))
      | inr (inr why) ↦ refuses_one revealed causes (Err f) why.0 (ap Err why.1)
          (λ some. c.in_err-planned.ensures.refused why.0 (ap Err why.1) (unwrap_or left []) (revealed_is left some))
          (λ some other first. one_cause l (unwrap_or left []) other why.0 first (c.in_err-planned.ensures.refused why.0 (ap Err why.1) (unwrap_or left []) (revealed_is left some)))
    ])

pub returns-in-Ok-clause-drills : goal.returns-in-Ok-clause-drills
returns-in-Ok-clause-drills g c =
    let l = c.args.lattice.now in
    let plan = c.in_ok-planned.planned.plan in
    record {
      planned = λ e bytes revealed.
          let planned = c.in_ok-planned.ensures.planned bytes revealed in
          (planned.accepted, (text_by plan, status_by plan, planned_outcome l bytes plan (status_by plan) planned refl));
      outcome = λ bytes revealed.
          (text_by plan, planned_outcome l bytes plan c.in-Ok.status (c.in_ok-planned.ensures.planned bytes revealed) c.in-Ok.ensures.status);
      prints = λ bytes text status revealed outcome.
          rw (one_text c.printed_are_one.ensures l bytes plan text status (c.in_ok-planned.ensures.planned bytes revealed) outcome)
          (text_printed c.in-Ok.status c.in-Ok.ensures.prints);
      unused = tt;
      end = c.in_ok-planned.ensures.end;
      most = c.in_ok-planned.ensures.most;
    }

pub returns-in-Ok-clause-refuses : goal.returns-in-Ok-clause-refuses
returns-in-Ok-clause-refuses g c =
    let left = (g.S.Source.state c.args.input.now).left in
    refuses_none _ _ _
    (λ why e. let h : Ok c.in-Ok.status ≡ Err (failure.Refused why) = e in cc)
    (λ some why first. accepted_not_refused c.args.lattice.now (unwrap_or left []) why (c.in_ok-planned.ensures.planned (unwrap_or left []) (revealed_is left some)).accepted first.stands)

pub returns-in-Ok-clause-out_kept : goal.returns-in-Ok-clause-out_kept
returns-in-Ok-clause-out_kept g c = c.in-Ok.ensures.prints.cause.kept

pub returns-clause-drills : goal.returns-clause-drills
returns-clause-drills g c =
    let l = c.args.lattice.now in
    let plan = c.in_ok-planned.planned.plan in
    record {
      planned = λ e bytes revealed.
          let planned = c.in_ok-planned.ensures.planned bytes revealed in
          (planned.accepted, (text_by plan, status_by plan, planned_outcome l bytes plan (status_by plan) planned refl));
      outcome = tt;
      prints = λ bytes text status revealed outcome.
          rw (one_text c.printed_are_one.ensures l bytes plan text status (c.in_ok-planned.ensures.planned bytes revealed) outcome)
          (text_broken c.in-Err.ensures.prints);
      unused = λ differs. absurd (differs refl);
      end = tt;
      most = c.in_ok-planned.ensures.most;
    }

pub returns-clause-refuses : goal.returns-clause-refuses
returns-clause-refuses g c =
    let left = (g.S.Source.state c.args.input.now).left in
    refuses_none _ _ _
    (λ why e. let h : Err failure.Output ≡ Err (failure.Refused why) = e in cc)
    (λ some why first. accepted_not_refused c.args.lattice.now (unwrap_or left []) why (c.in_ok-planned.ensures.planned (unwrap_or left []) (revealed_is left some)).accepted first.stands)

pub returns-clause-out_kept : goal.returns-clause-out_kept
returns-clause-out_kept g c = c.in-Err.ensures.prints.cause.kept

pub returns-clause-out_cause : goal.returns-clause-out_cause
returns-clause-out_cause g c same = c.in-Err.ensures.prints.cause.rose
