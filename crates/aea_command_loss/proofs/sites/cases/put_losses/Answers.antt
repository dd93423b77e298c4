use Rattle.std.proofs.Common.{Ok, Err}
use Rattle.aea_command.proofs.OpeningCases.{err_with}
use Rattle.aea_command_loss.specs.Sites.{alone, pairs_of}
use Rattle.aea_command_loss.proofs.SitesLemmas.Steps.{puts_then, puts_stopped}
use Rattle.aea_command_loss.proofs.sites.cases.put_losses.Goals as goal

pub returns-in_err-put_alone : goal.returns-in_err-put_alone
returns-in_err-put_alone g c =
    let f = c.in_err-put_alone.field-0.0 in
    let sites = c.args.sites in
    rw (err_with c.from_residual.result f c.from_residual.ensures.1)
    (puts_stopped c.args.lattice.now sites (alone sites) (pairs_of sites sites) (g.O.Sink.state c.args.out.now) (g.O.Sink.state c.put_alone.new.out) f c.in_err-put_alone.ensures)

pub returns-in_err-put_pairs : goal.returns-in_err-put_pairs
returns-in_err-put_pairs g c =
    let f = c.in_err-put_pairs.field-0.0 in
    let sites = c.args.sites in
    rw (err_with c.from_residual-in_err-put_pairs.result f c.from_residual-in_err-put_pairs.ensures.1)
    (puts_then c.args.lattice.now sites (alone sites) (pairs_of sites sites) (g.O.Sink.state c.args.out.now) (g.O.Sink.state c.put_alone.new.out) (g.O.Sink.state c.put_pairs.new.out) tt (Err f) c.in_ok-put_alone.ensures c.in_err-put_pairs.ensures)

pub returns : goal.returns
returns g c =
    let sites = c.args.sites in
    puts_then c.args.lattice.now sites (alone sites) (pairs_of sites sites) (g.O.Sink.state c.args.out.now) (g.O.Sink.state c.put_alone.new.out) (g.O.Sink.state c.put_pairs.new.out) tt (Ok tt) c.in_ok-put_alone.ensures c.in_ok-put_pairs.ensures
