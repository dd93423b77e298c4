use Rattle.std.proofs.lemmas.Result.{on_ok_weaker}
use Rattle.aea_search.proofs.Around.{datum_in_node}
use Rattle.aea_search.proofs.searching.Search.look_around.Goals as goal

pub returns-in-Datum-clause-around : goal.returns-in-Datum-clause-around
returns-in-Datum-clause-around g c =
    on_ok_weaker c.look_node.result
    (λ read e has stands. read e has (datum_in_node c.args.ledger.now.lattice e c.args.b c.in-Datum.is has stands))
    c.look_node.ensures.read
