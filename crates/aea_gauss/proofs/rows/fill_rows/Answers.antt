use Rattle.std.proofs.Common.{length, refl}
use Rattle.aea_readings.specs.Small.{equation_in, own_column, small_row, small_start}
use Rattle.aea_gauss.proofs.Filling.{filled_more}
use Rattle.aea_gauss.proofs.rows.fill_rows.Goals as goal

pub loop-row-preserved : goal.loop-row-preserved
loop-row-preserved c =
    let blocks = c.args.blocks.now in
    let equations = c.args.equations.now in
    let row = c.loop-row.row in
    filled_more row c.args.wide (small_start c.args.lattice.now blocks equations)
    (small_row c.args.lattice.now blocks (equation_in equations row) (own_column (length blocks) (length equations) row))
    c.args.words.now c.loop-row.words c.fill_row.new.words c.loop-row.invariant c.fill_row.ensures (λ k. refl)
