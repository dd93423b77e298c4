use Rattle.std.proofs.Common.{arith}
use Rattle.aea_view.specs.Marked.{is_marked}
use Rattle.aea_gauss.proofs.Solving.{is_batch}
use Rattle.aea_gauss.proofs.batch.next_batch.Goals as goal

pub returns-clause-batch : goal.returns-clause-batch
returns-clause-batch c =
    let wanted = c.in_ok-wanted.wanted in
    let lists = c.in_ok-lists.lists in
    let table = c.find.new.self in
    let few = c.in_ok-wanted.ensures.few in
    let counted = c.len.ensures in
    let drawn = c.in_ok-lists.ensures.long in
    is_batch c.args.lattice.now (is_marked c.args.known.now) (record { wanted = wanted; lists = lists }) c.as_slice.result.now table.table.items table.lost
    c.as_slice.ensures.value c.find.ensures.sums (omega arith) (λ k less. c.in_ok-lists.ensures.each k (omega arith))
