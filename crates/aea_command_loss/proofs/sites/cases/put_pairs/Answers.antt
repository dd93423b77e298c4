use Rattle.std.proofs.Common.{ℕ, ◌+◌, ◌-◌, List, ◌++◌, Ok, Err}
use Rattle.std.specs.List.{range_with_len, flat_map}
use Rattle.aea_command.proofs.OpeningCases.{err_with}
use Rattle.aea_command_loss.specs.Sites.{pairs_behind, pairs_of}
use Rattle.aea_command_loss.proofs.SitesLemmas.Cases.{flat_more, flat_around}
use Rattle.aea_command_loss.proofs.SitesLemmas.Steps.{puts_none, puts_then, puts_stopped}
use Rattle.aea_command_loss.proofs.sites.cases.put_pairs.Goals as goal

pub loop-k-init : goal.loop-k-init
loop-k-init g c = puts_none c.args.lattice.now c.args.sites (g.O.Sink.state c.args.out.now) tt

pub returns-in_err-put_pairs_behind : goal.returns-in_err-put_pairs_behind
returns-in_err-put_pairs_behind g c =
    let f = c.in_err-put_pairs_behind.field-0.0 in
    let k = c.loop-k.k in
    let sites = c.args.sites in
    let pairs : ℕ → List (ℕ × ℕ) = λ a. pairs_behind a (sites - a) in
    rw (err_with c.from_residual.result f c.from_residual.ensures.1, flat_around pairs 1 k sites c.loop-k-test.true)
    (puts_stopped c.args.lattice.now sites (pairs_of sites k ++ pairs (1 + k)) (flat_map pairs (range_with_len (1 + (k + 1)) (sites - (k + 1)))) (g.O.Sink.state c.args.out.now) (g.O.Sink.state c.put_pairs_behind.new.out) f
    (puts_then c.args.lattice.now sites (pairs_of sites k) (pairs (1 + k)) (g.O.Sink.state c.args.out.now) (g.O.Sink.state c.loop-k.out) (g.O.Sink.state c.put_pairs_behind.new.out) tt (Err f) c.loop-k.invariant c.in_err-put_pairs_behind.ensures))

pub loop-k-preserved : goal.loop-k-preserved
loop-k-preserved g c =
    let k = c.loop-k.k in
    let sites = c.args.sites in
    let pairs : ℕ → List (ℕ × ℕ) = λ a. pairs_behind a (sites - a) in
    rw (flat_more pairs 1 k)
    (puts_then c.args.lattice.now sites (pairs_of sites k) (pairs (1 + k)) (g.O.Sink.state c.args.out.now) (g.O.Sink.state c.loop-k.out) (g.O.Sink.state c.put_pairs_behind.new.out) tt (Ok tt) c.loop-k.invariant c.in_ok-put_pairs_behind.ensures)
