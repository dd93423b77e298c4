use Rattle.std.proofs.Common.{◌≡◌, List, ℕ, replicate, inr, ◌∙◌, ap, subst}
use Rattle.aea_restore.specs.Plans.{is_left_over}
use Rattle.aea_restore.specs.Drawn.{other_blocks}
use Rattle.aea_restore.specs.Judged.{IsJudgedSum}
use Rattle.aea_degraded.proofs.computing.sum_payload.Goals as goal

pub returns-clause-found : goal.returns-clause-found
returns-clause-found g c d revealed computed is =
    let v = c.args.ledger.now in
    let zeros : c.clear.new.sum ≡ replicate c.args.ledger.now.shape.block 0 = c.clear.ensures ∙ ap (λ n. replicate n 0) c.requires.sum in
    let clash = c.judge_sum.ensures.clash d revealed computed is in
    inr (
      clash.0,
      record {
        other = clash.1.0;
        payload = c.add_equations.new.sum;
        summed = subst (λ (s : List ℕ). IsJudgedSum g.D.Disk.reveals v (g.D.Disk.state c.args.disk.now).files s (other_blocks v.lattice (is_left_over v.lattice c.args.equations.now) c.args.b c.args.equations.now) c.add_equations.new.sum) zeros c.in-Ok.ensures.judged;
        computed_is = clash.1.1;
      },
    )
