use Rattle.std.proofs.Common.{inl, rules}
use Rattle.std.proofs.lemmas.List.Elements.{Contains-push}
use Rattle.aea_lattice.specs.Equations.{HasEquation, equation_of}
use Rattle.aea_peel.proofs.Queues.{Adds-push}
use Rattle.aea_peel.proofs.worklist.add.Goals as goal

pub returns-in_ok-push-clause-adds : goal.returns-in_ok-push-clause-adds
returns-in_ok-push-clause-adds c =
    let has : HasEquation c.args.lattice.now (equation_of c.args.node c.args.class) = search rules in
    rw c.in_ok-push.ensures.items (Adds-push c.args.lattice.now c.args.waiting.now.items (equation_of c.args.node c.args.class) has)

pub returns-in_ok-push-clause-added : goal.returns-in_ok-push-clause-added
returns-in_ok-push-clause-added c = λ _.
    rw c.in_ok-push.ensures.items (inl (Contains-push c.args.waiting.now.items (equation_of c.args.node c.args.class)))
