use Rattle.std.proofs.Common.{ℕ, ◌+◌, ◌-◌, [], ◌∷◌, ◌++◌, Ok, Err}
use Rattle.std.specs.Prelude.{map}
use Rattle.std.specs.List.{range_with_len}
use Rattle.aea_command.proofs.OpeningCases.{err_with}
use Rattle.aea_command_loss.specs.Sites.{alone}
use Rattle.aea_command_loss.proofs.SitesLemmas.Cases.{map_more, map_around}
use Rattle.aea_command_loss.proofs.SitesLemmas.Steps.{puts_none, puts_then, puts_stopped}
use Rattle.aea_command_loss.proofs.sites.cases.put_alone.Goals as goal

pub loop-k-init : goal.loop-k-init
loop-k-init g c = puts_none c.args.lattice.now c.args.sites (g.O.Sink.state c.args.out.now) tt

pub returns-in_err-put_case : goal.returns-in_err-put_case
returns-in_err-put_case g c =
    let f = c.in_err-put_case.field-0.0 in
    let k = c.loop-k.k in
    let pair : ℕ → ℕ × ℕ = λ a. (a, a) in
    rw (err_with c.from_residual.result f c.from_residual.ensures.1, map_around pair 1 k c.args.sites c.loop-k-test.true)
    (puts_stopped c.args.lattice.now c.args.sites (alone k ++ pair (1 + k) ∷ []) (map pair (range_with_len (1 + (k + 1)) (c.args.sites - (k + 1)))) (g.O.Sink.state c.args.out.now) (g.O.Sink.state c.put_case.new.out) f
    (puts_then c.args.lattice.now c.args.sites (alone k) (pair (1 + k) ∷ []) (g.O.Sink.state c.args.out.now) (g.O.Sink.state c.loop-k.out) (g.O.Sink.state c.put_case.new.out) tt (Err f) c.loop-k.invariant c.in_err-put_case.ensures))

pub loop-k-preserved : goal.loop-k-preserved
loop-k-preserved g c =
    let k = c.loop-k.k in
    let pair : ℕ → ℕ × ℕ = λ a. (a, a) in
    rw (map_more pair 1 k)
    (puts_then c.args.lattice.now c.args.sites (alone k) (pair (1 + k) ∷ []) (g.O.Sink.state c.args.out.now) (g.O.Sink.state c.loop-k.out) (g.O.Sink.state c.put_case.new.out) tt (Ok tt) c.loop-k.invariant c.in_ok-put_case.ensures)
