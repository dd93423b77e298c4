use Rattle.std.proofs.Common.{◌≡◌, inl, inr, refl, sym, ap, subst, Ok, Err}
use Rattle.aea_lattice.specs.declared.grid.Lattice.{Lattice}
use Rattle.aea_lattice.specs.Blocks.{HasBlock}
use Rattle.std.specs.Prelude.{Result}
use Rattle.aea_disk.proofs.Frames.{reads_as}
use Rattle.aea_explain.specs.declared.explaining.Explanation.{Explanation}
use Rattle.aea_explain.specs.declared.explaining.ExplainFault.{ExplainFault}
use Rattle.aea_explain.specs.declared.explaining.ExplainFault.TheVariants as is
use Rattle.aea_command.specs.declared.refusal.Refusal.TheVariants.{NoSuchBlock}
use Rattle.aea_command.specs.declared.refusal.Failure.TheVariants as failure
use Rattle.aea_command_loss.specs.Drill.{NamesBlock}
use Rattle.aea_command.specs.Failures.{explain_failure}
use Rattle.aea_command_loss.proofs.ExplainLemmas.{HasExplanation, explains_failed, explains_printed, failure_kinds, failure_disk, fault_disk, failure_never, names_in}
use Rattle.aea_command_loss.proofs.ExplainLemmas.Causing.{unopened_explain, unnamed_refuses, named_refuses}
use Rattle.aea_command.proofs.OpeningCases.{err_with}
use Rattle.aea_command.proofs.Texts.{text_printed, text_broken}
use Rattle.aea_command_loss.proofs.explain.explain_word.Goals as goal

pub returns-in_err-ledger-clause-refuses : goal.returns-in_err-ledger-clause-refuses
returns-in_err-ledger-clause-refuses g c =
    let f = c.in_err-ledger.field-0.0 in
    rw (err_with c.from_residual.result f c.from_residual.ensures.1)
    (unopened_explain c.args.word.now g.D.Disk.reveals (g.D.Disk.state c.args.disk.now) (g.D.Disk.state c.open.new.disk) f c.in_err-ledger.ensures)

pub returns-in_default-clause-refuses : goal.returns-in_default-clause-refuses
returns-in_default-clause-refuses g c =
    unnamed_refuses c.ledgers_have_one_reading.ensures c.args.word.now g.D.Disk.reveals c.in_ok-ledger.ledger (g.D.Disk.state c.args.disk.now) (g.D.Disk.state c.open.new.disk) c.in_ok-ledger.ensures
    (Err (failure.Refused NoSuchBlock)) refl
    (λ names. c.in_default.ensures.none (subst (λ (l : Lattice). NamesBlock l c.args.word.now) (sym c.lattice.ensures.value) names))

pub returns-in_err-explanation-clause-explains : goal.returns-in_err-explanation-clause-explains
returns-in_err-explanation-clause-explains g c =
    let fault = c.in_err-explanation.field-0.0 in
    let names : NamesBlock c.in_ok-ledger.ledger.lattice c.args.word.now = names_in c.lattice.result c.in_ok-ledger.ledger.lattice c.args.word.now c.in-Some.block c.lattice.ensures.value c.in-Some.ensures.block c.in-Some.ensures.text in
    rw (err_with c.from_residual-in_err-explanation.result (explain_failure fault) c.from_residual-in_err-explanation.ensures.1)
    (explains_failed c.args.word.now g.D.Disk.reveals (let r : Result Explanation ExplainFault = Err fault in r ≡ Err is.DiskFault) c.in_ok-ledger.ledger (g.D.Disk.state c.args.disk.now) (g.D.Disk.state c.open.new.disk) (g.D.Disk.state c.explain.new.disk) (g.O.Sink.state c.args.out.now) (explain_failure fault)
    c.in_ok-ledger.ensures names c.in_err-explanation.ensures.reads (λ e. ap Err (failure_disk fault e)) (λ e. let h : (let r : Result Explanation ExplainFault = Err fault in r ≡ Err is.DiskFault) = e in fault_disk fault cc) (failure_kinds fault))

pub returns-in_err-explanation-clause-refuses : goal.returns-in_err-explanation-clause-refuses
returns-in_err-explanation-clause-refuses g c =
    let fault = c.in_err-explanation.field-0.0 in
    let names : NamesBlock c.in_ok-ledger.ledger.lattice c.args.word.now = names_in c.lattice.result c.in_ok-ledger.ledger.lattice c.args.word.now c.in-Some.block c.lattice.ensures.value c.in-Some.ensures.block c.in-Some.ensures.text in
    rw (err_with c.from_residual-in_err-explanation.result (explain_failure fault) c.from_residual-in_err-explanation.ensures.1)
    (named_refuses c.ledgers_have_one_reading.ensures c.args.word.now g.D.Disk.reveals c.in_ok-ledger.ledger (g.D.Disk.state c.args.disk.now) (g.D.Disk.state c.open.new.disk) c.in_ok-ledger.ensures
    (Err (explain_failure fault)) names (failure_never fault))

pub returns-in_err-explanation-clause-reads : goal.returns-in_err-explanation-clause-reads
returns-in_err-explanation-clause-reads g c = (returns-in_err-explanation-clause-explains g c).reads

pub returns-in_err-put_explanation-clause-explains : goal.returns-in_err-put_explanation-clause-explains
returns-in_err-put_explanation-clause-explains g c =
    let v = c.in_ok-ledger.ledger in
    let mid = g.D.Disk.state c.open.new.disk in
    let new = g.D.Disk.state c.explain.new.disk in
    let before = g.O.Sink.state c.args.out.now in
    let after = g.O.Sink.state c.put_explanation.new.out in
    let gave : HasExplanation c.args.word.now g.D.Disk.reveals v (g.D.Disk.state c.args.disk.now) mid new before after (Err failure.Output) = record {
      opens = c.in_ok-ledger.ensures;
      reads = reads_as g.D.Disk.reveals _ ⊥ mid new (λ none. absurd none) (λ is. absurd (cc)) c.in_ok-explanation.ensures.reads;
      block = c.in-Some.block;
      inside = subst (λ (l : Lattice). HasBlock l c.in-Some.block) c.lattice.ensures.value c.in-Some.ensures.block;
      named = c.in-Some.ensures.text;
      explanation = c.in_ok-explanation.explanation;
      explains = c.in_ok-explanation.ensures.explains;
      printed = record { prints = text_broken c.in_err-put_explanation.ensures.prints; status = tt };
      ends = inr refl;
    } in
    rw (err_with c.from_residual-in_err-put_explanation.result failure.Output c.from_residual-in_err-put_explanation.ensures.1)
    (explains_printed c.explanations_are_one.ensures c.args.word.now g.D.Disk.reveals v (g.D.Disk.state c.args.disk.now) mid new before after (Err failure.Output) gave)

pub returns-in_err-put_explanation-clause-refuses : goal.returns-in_err-put_explanation-clause-refuses
returns-in_err-put_explanation-clause-refuses g c =
    let names : NamesBlock c.in_ok-ledger.ledger.lattice c.args.word.now = names_in c.lattice.result c.in_ok-ledger.ledger.lattice c.args.word.now c.in-Some.block c.lattice.ensures.value c.in-Some.ensures.block c.in-Some.ensures.text in
    rw (err_with c.from_residual-in_err-put_explanation.result failure.Output c.from_residual-in_err-put_explanation.ensures.1)
    (named_refuses c.ledgers_have_one_reading.ensures c.args.word.now g.D.Disk.reveals c.in_ok-ledger.ledger (g.D.Disk.state c.args.disk.now) (g.D.Disk.state c.open.new.disk) c.in_ok-ledger.ensures
    (Err failure.Output) names (λ why e. let h : Err failure.Output ≡ Err (failure.Refused why) = e in cc))

pub returns-in_err-put_explanation-clause-reads : goal.returns-in_err-put_explanation-clause-reads
returns-in_err-put_explanation-clause-reads g c = (returns-in_err-put_explanation-clause-explains g c).reads

pub returns-clause-explains : goal.returns-clause-explains
returns-clause-explains g c =
    let v = c.in_ok-ledger.ledger in
    let mid = g.D.Disk.state c.open.new.disk in
    let new = g.D.Disk.state c.explain.new.disk in
    let before = g.O.Sink.state c.args.out.now in
    let after = g.O.Sink.state c.put_explanation.new.out in
    let status = c.in_ok-put_explanation.field-0 in
    let gave : HasExplanation c.args.word.now g.D.Disk.reveals v (g.D.Disk.state c.args.disk.now) mid new before after (Ok status) = record {
      opens = c.in_ok-ledger.ensures;
      reads = reads_as g.D.Disk.reveals _ ⊥ mid new (λ none. absurd none) (λ is. absurd (cc)) c.in_ok-explanation.ensures.reads;
      block = c.in-Some.block;
      inside = subst (λ (l : Lattice). HasBlock l c.in-Some.block) c.lattice.ensures.value c.in-Some.ensures.block;
      named = c.in-Some.ensures.text;
      explanation = c.in_ok-explanation.explanation;
      explains = c.in_ok-explanation.ensures.explains;
      printed = record { prints = text_printed status c.in_ok-put_explanation.ensures.prints; status = c.in_ok-put_explanation.ensures.status };
      ends = inl (ap Ok c.in_ok-put_explanation.ensures.status);
    } in
    explains_printed c.explanations_are_one.ensures c.args.word.now g.D.Disk.reveals v (g.D.Disk.state c.args.disk.now) mid new before after (Ok status) gave

pub returns-clause-refuses : goal.returns-clause-refuses
returns-clause-refuses g c =
    let names : NamesBlock c.in_ok-ledger.ledger.lattice c.args.word.now = names_in c.lattice.result c.in_ok-ledger.ledger.lattice c.args.word.now c.in-Some.block c.lattice.ensures.value c.in-Some.ensures.block c.in-Some.ensures.text in
    named_refuses c.ledgers_have_one_reading.ensures c.args.word.now g.D.Disk.reveals c.in_ok-ledger.ledger (g.D.Disk.state c.args.disk.now) (g.D.Disk.state c.open.new.disk) c.in_ok-ledger.ensures
    (Ok c.in_ok-put_explanation.field-0) names (λ why e. let h : Ok c.in_ok-put_explanation.field-0 ≡ Err (failure.Refused why) = e in cc)

pub returns-clause-reads : goal.returns-clause-reads
returns-clause-reads g c = (returns-clause-explains g c).reads
