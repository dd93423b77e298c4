use Rattle.std.proofs.Common.{◌∷◌, []}
use Rattle.aea_command.specs.declared.refusal.Failure.TheVariants as failure
use Rattle.aea_command.proofs.OpeningCases.{err_with}
use Rattle.aea_command_loss.proofs.SitesLemmas.Steps.{puts_unbegun, puts_cut, puts_line}
use Rattle.aea_command_loss.proofs.sites.cases.put_case.Goals as goal

pub returns-in_err-loss : goal.returns-in_err-loss
returns-in_err-loss g c =
    rw (err_with c.from_residual.result failure.Memory c.from_residual.ensures.1)
    (puts_unbegun c.args.lattice.now c.args.sites ((c.args.a, c.args.b) ∷ []) (g.O.Sink.state c.args.out.now))

pub returns-in_err-write_loss : goal.returns-in_err-write_loss
returns-in_err-write_loss g c =
    rw (err_with c.from_residual-in_err-write_loss.result failure.Output c.from_residual-in_err-write_loss.ensures.1)
    (puts_cut c.args.lattice.now c.args.sites (c.args.a, c.args.b) c.in_ok-loss.loss c.in_ok-loss.ensures (g.O.Sink.state c.args.out.now) (g.O.Sink.state c.write_loss.new.out) c.in_err-write_loss.ensures.prints)

pub returns : goal.returns
returns g c =
    puts_line c.args.lattice.now c.args.sites (c.args.a, c.args.b) c.in_ok-loss.loss c.in_ok-loss.ensures (g.O.Sink.state c.args.out.now) (g.O.Sink.state c.write_loss.new.out) tt c.in_ok-write_loss.ensures.flushed c.in_ok-write_loss.ensures.prints
