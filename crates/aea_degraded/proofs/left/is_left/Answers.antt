use Rattle.std.proofs.Common.{take, sym, ◌∙◌, ap}
use Rattle.aea_lattice.specs.Equations.{HasEquation}
use Rattle.aea_lattice.specs.Parity.{differ}
use Rattle.aea_restore.specs.Plans.{is_left_over}
use Rattle.aea_restore.proofs.Items.{item_has}
use Rattle.aea_degraded.proofs.LeftOver.{left_more}
use Rattle.aea_degraded.proofs.left.is_left.Goals as goal

pub loop-k-preserved : goal.loop-k-preserved
loop-k-preserved c =
    let l = c.args.lattice.now in
    let es = c.args.equations.now in
    let here = sym c.get.ensures ∙ c.in-Some.is in
    let has = item_has (HasEquation l) es c.in-Some.e c.loop-k.k here c.requires.equations in
    record {
      odd = c.differ-odd.ensures
          ∙ ap (λ x. differ x c.is_in.result) c.loop-k.invariant.odd
          ∙ ap (differ (is_left_over l (take c.loop-k.k es) c.args.b)) (c.is_in.ensures l has c.next_of-next.ensures)
          ∙ sym (left_more l es c.in-Some.e c.loop-k.k c.args.b here);
    }
