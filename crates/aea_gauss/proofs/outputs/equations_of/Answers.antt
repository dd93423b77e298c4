use Rattle.std.proofs.Common.{◌≡◌, Bool, ap, ◌∙◌}
use Rattle.std.specs.Prelude.{map}
use Rattle.std.proofs.lemmas.Result.{IfOk-weaker}
use Rattle.aea_lattice.specs.declared.blocks.BlockId.{BlockId}
use Rattle.aea_fates.specs.Live.{live_equations}
use Rattle.aea_readings.specs.Small.{unknown_blocks}
use Rattle.aea_gauss.specs.Outputs.{equation_at}
use Rattle.aea_gauss.proofs.Marking.{outputs_live}
use Rattle.aea_gauss.proofs.outputs.equations_of.Goals as goal

pub returns : goal.returns
returns c =
    let l = c.args.lattice.now in
    let outputs = c.in_ok-outputs.outputs.items in
    IfOk-weaker c.equations_at.result
    (λ equations. equations.items ≡ map equation_at c.as_slice.result.now)
    (λ equations. (known : BlockId → Bool) → c.args.blocks.now ≡ unknown_blocks l known → equations.items ≡ live_equations l known)
    (λ equations are known blocks_are.
    outputs_live l known c.args.blocks.now outputs equations.items c.in_ok-marks.marks c.in_ok-marks.ensures c.in_ok-outputs.ensures.all
    (are ∙ ap (map equation_at) c.as_slice.ensures.value) blocks_are)
    c.equations_at.ensures
