use Rattle.std.proofs.Common.{◌≤◌, inl, refl, ◌∙◌, ap, Ok, Err}
use Rattle.aea_lattice.specs.declared.shape.Shape.{Shape}
use Rattle.aea_command.specs.declared.status.Status.TheVariants.{Done}
use Rattle.aea_command.specs.Openings.{OpeningCauses}
use Rattle.aea_command.proofs.OpeningCases.{err_with}
use Rattle.aea_command.proofs.Refusing.{refuses_as}
use Rattle.aea_command_loss.specs.Sites.{cases_of}
use Rattle.aea_command_loss.proofs.SitesLemmas.{sums_unopened, sums_opened, stop_kinds, stop_refuses, stop_reads, some_site, all_flushed}
use Rattle.aea_command_loss.proofs.SitesLemmas.Steps.{losses_done, losses_failed}
use Rattle.aea_command_loss.proofs.sites.sum_up_sites.Goals as goal

pub returns-in_err-ledger-clause-sums_up : goal.returns-in_err-ledger-clause-sums_up
returns-in_err-ledger-clause-sums_up g c =
    let f = c.in_err-ledger.field-0.0 in
    rw (err_with c.from_residual.result f c.from_residual.ensures.1)
    (sums_unopened g.D.Disk.reveals (g.D.Disk.state c.args.disk.now) (g.D.Disk.state c.open.new.disk) (g.O.Sink.state c.args.out.now) f c.in_err-ledger.ensures)

pub returns-in_err-ledger-clause-refuses : goal.returns-in_err-ledger-clause-refuses
returns-in_err-ledger-clause-refuses g c =
    let f = c.in_err-ledger.field-0.0 in
    rw (err_with c.from_residual.result f c.from_residual.ensures.1)
    (refuses_as g.D.Disk.reveals (OpeningCauses ((g.D.Disk.state c.args.disk.now).files 0)) f (Err f) refl c.in_err-ledger.ensures.refuses)

pub returns-in_err-put_losses-clause-sums_up : goal.returns-in_err-put_losses-clause-sums_up
returns-in_err-put_losses-clause-sums_up g c =
    let f = c.in_err-put_losses.field-0.0 in
    let before = g.O.Sink.state c.args.out.now in
    let after = g.O.Sink.state c.put_losses.new.out in
    rw (err_with c.from_residual-in_err-put_losses.result f c.from_residual-in_err-put_losses.ensures.1)
    (sums_opened g.D.Disk.reveals (g.D.Disk.state c.args.disk.now) (g.D.Disk.state c.open.new.disk) before after c.in_ok-ledger.ledger (Err f) c.lattice.result c.sites.result
    c.lattice.ensures.value (c.sites.ensures ∙ ap (λ (s : Shape). s.sites) c.shape.ensures.value) c.in_ok-ledger.ensures (stop_kinds f c.in_err-put_losses.ensures.kinds)
    (losses_failed c.lattice.result c.sites.result (cases_of c.sites.result) before after f c.in_err-put_losses.ensures.prints))

pub returns-in_err-put_losses-clause-refuses : goal.returns-in_err-put_losses-clause-refuses
returns-in_err-put_losses-clause-refuses g c =
    let f = c.in_err-put_losses.field-0.0 in
    rw (err_with c.from_residual-in_err-put_losses.result f c.from_residual-in_err-put_losses.ensures.1)
    (stop_refuses g.D.Disk.reveals (g.D.Disk.state c.args.disk.now) (g.D.Disk.state c.open.new.disk) c.in_ok-ledger.ledger f c.in_ok-ledger.ensures c.in_err-put_losses.ensures.kinds)

pub returns-in_err-put_losses-clause-reads : goal.returns-in_err-put_losses-clause-reads
returns-in_err-put_losses-clause-reads g c =
    let f = c.in_err-put_losses.field-0.0 in
    rw (err_with c.from_residual-in_err-put_losses.result f c.from_residual-in_err-put_losses.ensures.1)
    (stop_reads g.D.Disk.reveals (g.D.Disk.state c.args.disk.now) (g.D.Disk.state c.open.new.disk) c.in_ok-ledger.ledger f c.in_ok-ledger.ensures c.in_err-put_losses.ensures.kinds)

pub returns-clause-sums_up : goal.returns-clause-sums_up
returns-clause-sums_up g c =
    let before = g.O.Sink.state c.args.out.now in
    let after = g.O.Sink.state c.put_losses.new.out in
    sums_opened g.D.Disk.reveals (g.D.Disk.state c.args.disk.now) (g.D.Disk.state c.open.new.disk) before after c.in_ok-ledger.ledger (Ok Done) c.lattice.result c.sites.result
    c.lattice.ensures.value (c.sites.ensures ∙ ap (λ (s : Shape). s.sites) c.shape.ensures.value) c.in_ok-ledger.ensures (inl refl)
    (losses_done c.lattice.result c.sites.result (cases_of c.sites.result) before after tt Done c.in_ok-put_losses.ensures.prints)

pub returns-clause-flushed : goal.returns-clause-flushed
returns-clause-flushed g c =
    let some : 1 ≤ c.sites.result = rw c.sites.ensures (some_site c.shape.result) in
    all_flushed c.lattice.result c.sites.result (g.O.Sink.state c.args.out.now) (g.O.Sink.state c.put_losses.new.out) some c.in_ok-put_losses.ensures.prints
