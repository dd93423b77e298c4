use Rattle.aea_search.proofs.Going.{ok_no_fault, looks_none}
use Rattle.aea_search.proofs.searching.Search.look_input.Goals as goal

pub look-requires-clause-block : goal.look-requires-clause-block
look-requires-clause-block g c = c.requires.input c.in-Some.g c.in-Some.is

pub returns-in-None-clause-looks : goal.returns-in-None-clause-looks
returns-in-None-clause-looks g c = looks_none g.D.Disk.reveals _ c.args.ledger.now c.args.self.now (g.D.Disk.state c.args.disk.now) ok_no_fault
