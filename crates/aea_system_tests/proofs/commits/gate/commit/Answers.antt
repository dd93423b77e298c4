use Rattle.std.proofs.Common.{Result, Ok, Err, ◌+◌, sym, subst}
use Rattle.std.specs.Prelude.{OnOk}
use Rattle.aea_disk.specs.Files.{Files}
use Rattle.aea_disk.proofs.Moments.{others_both}
use Rattle.aea_disk.proofs.Stays.{stays_both, stays_same}
use Rattle.aea_system_tests.specs.Gate.{HasNew, TakesWrite, FitsWrite, TakesGate, FitsGate}
use Rattle.aea_system_tests.proofs.Gates.{new_of_old, new_of_new}
use Rattle.aea_system_tests.proofs.Surely.{sure_failed, sure_committed}
use Rattle.aea_disk.proofs.Moments.{passes_both}
use Rattle.aea_system_tests.proofs.commits.gate.commit.Goals as goal

on_ok_two : {T E P Q R : Type 0} (r : Result T E) → (P → Q → R) → OnOk r P → OnOk r Q → OnOk r R
on_ok_two (Ok x) f p q = f p q
on_ok_two (Err e) f p q = tt

pub returns-clause-stays : goal.returns-clause-stays
returns-clause-stays g c revealed =
    let first = g.D.Disk.state c.args.disk.now in
    let second = g.D.Disk.state c.write_body.new.disk in
    let third = g.D.Disk.state c.open_gate.new.disk in
    let gate = c.args.gate in
    let body = c.args.body.now in
    let was = c.write_body.ensures.reads revealed in
    let P : Files → Type 0 = λ d. HasNew gate body (first.files 0) (d 0) in
    let Q : Files → Type 0 = λ d. HasNew gate body (second.files 0) (d 0) in
    stays_both first second third P c.write_body.ensures.time c.open_gate.ensures.time (c.write_body.ensures.stays revealed)
    (stays_same second third Q P (λ d has. new_of_old gate body (first.files 0) (second.files 0) (d 0) was has) (λ d has. new_of_new gate body (first.files 0) (second.files 0) (d 0) was has) (c.open_gate.ensures.stays revealed))

pub returns-clause-committed : goal.returns-clause-committed
returns-clause-committed g c =
    let first = g.D.Disk.state c.args.disk.now in
    let second = g.D.Disk.state c.write_body.new.disk in
    on_ok_two c.open_gate.result
    (λ opened fixed revealed d here.
    let whole = new_of_old c.args.gate c.args.body.now (first.files 0) (second.files 0) _ (c.write_body.ensures.reads revealed) (opened revealed) in
    subst (HasNew c.args.gate c.args.body.now (first.files 0)) (sym (fixed revealed d here)) whole)
    c.open_gate.ensures.opened c.open_gate.ensures.fixed

pub returns-clause-others : goal.returns-clause-others
returns-clause-others g c =
    others_both g.D.Disk.reveals 0 _ _ _ c.write_body.ensures.time c.open_gate.ensures.time c.write_body.ensures.others c.open_gate.ensures.others

pub returns-in_err-write_body-clause-sure : goal.returns-in_err-write_body-clause-sure
returns-in_err-write_body-clause-sure g c =
    let first = g.D.Disk.state c.args.disk.now in
    let gate = c.args.gate in
    let body = c.args.body.now in
    sure_failed (g.D.Disk.reveals × TakesWrite first 0 (gate + 1) body) (g.D.Disk.reveals × TakesGate first gate body) (FitsWrite first 0 (gate + 1) body) (FitsGate first gate body) first (g.D.Disk.state c.write_body.new.disk) c.from_residual.result (cc)
    (λ is. (is.0, is.1.first)) (λ is fit. fit.first) c.in_err-write_body.ensures.sure

pub returns-clause-sure : goal.returns-clause-sure
returns-clause-sure g c =
    let first = g.D.Disk.state c.args.disk.now in
    let second = g.D.Disk.state c.write_body.new.disk in
    let e = c.in_ok-write_body.ensures in
    sure_committed g.D.Disk.reveals c.args.gate c.args.body.now first second (g.D.Disk.state c.open_gate.new.disk) c.open_gate.result
    (λ revealed. record { here = e.written revealed; others = e.others.reads revealed }) (g.met.D.Disk.smaller_fits c.write_body.new.disk 0) e.time e.sure c.open_gate.ensures.sure

pub returns-clause-time : goal.returns-clause-time
returns-clause-time g c = passes_both (g.D.Disk.state c.args.disk.now) (g.D.Disk.state c.write_body.new.disk) (g.D.Disk.state c.open_gate.new.disk) c.write_body.ensures.time c.open_gate.ensures.time
