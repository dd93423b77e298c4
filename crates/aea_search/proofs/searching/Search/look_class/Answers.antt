use Rattle.aea_search.proofs.Going.{ok_no_fault, looks_none}
use Rattle.aea_search.proofs.searching.Search.look_class.Goals as goal

pub returns-clause-looks : goal.returns-clause-looks
returns-clause-looks g c = looks_none g.D.Disk.reveals _ c.args.ledger.now c.args.self.now (g.D.Disk.state c.args.disk.now) ok_no_fault
