use Rattle.aea_view.specs.Marked.{is_marked}
use Rattle.aea_gauss.proofs.Solving.{sum_at}
use Rattle.aea_gauss.proofs.batch.sum_of.Goals as goal

pub returns-in-Some-clause-batch : goal.returns-in-Some-clause-batch
returns-in-Some-clause-batch c = c.take_at.ensures.batch c.args.lattice.now (is_marked c.args.known.now) c.requires.batch

pub returns-clause-batch : goal.returns-clause-batch
returns-clause-batch c = c.take_at-2.ensures.batch c.args.lattice.now (is_marked c.args.known.now) c.in_ok-batch.ensures.batch

pub returns-in-Some-clause-sum : goal.returns-in-Some-clause-sum
returns-in-Some-clause-sum c =
    sum_at c.args.lattice.now (is_marked c.args.known.now) c.args.batch.now c.as_slice.result.now c.in-Some.k c.args.b c.take_at.result c.as_slice.ensures.value c.in-Some.ensures.0 c.in-Some.ensures.1
    c.requires.determined c.requires.batch c.take_at.ensures.taken
