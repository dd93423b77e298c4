use Rattle.std.proofs.lemmas.Result.{on_ok_weaker}
use Rattle.aea_peel.proofs.Queues.{datum_in_node}
use Rattle.aea_peel.proofs.worklist.add_around.Goals as goal

pub returns-in-Datum-clause-added : goal.returns-in-Datum-clause-added
returns-in-Datum-clause-added c =
    on_ok_weaker c.add_node.result
    (λ added e has contains. added e has (datum_in_node c.args.lattice.now e c.args.b c.in-Datum.is has contains))
    c.add_node.ensures.added
