use Rattle.aea_gauss.proofs.Joining.{found_in}
use Rattle.aea_gauss.proofs.labels.find_in_equation.Goals as goal

pub returns-in-Some-input : goal.returns-in-Some-input
returns-in-Some-input c =
    found_in c.args.lattice.now c.args.blocks.now c.args.e c.equation-q.result c.find_column.result c.in-Some-input.g c.equation-q.ensures.listed c.in-Some-input.is
    c.find_column.ensures c.in-None.ensures.0 c.in-None.ensures.1
