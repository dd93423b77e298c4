use Rattle.aea_sweep.specs.Words.{has_odd}
use Rattle.aea_sweep.proofs.Stretching.{all_ended, none_open}
use Rattle.aea_sweep.proofs.marking.label_class.Goals as goal

pub returns-clause-empty : goal.returns-clause-empty
returns-clause-empty c =
    none_open c.args.lattice.now c.args.class (has_odd c.args.nodes.now) c.args.label c.args.first.now c.end_stretches.new.first c.end_stretches.new.starts c.requires.class
    c.end_stretches.ensures.ended (c.end_stretches.ensures.kept (has_odd c.args.nodes.now) c.args.first.now c.pass_nodes.ensures.passed)

pub returns-clause-labelled : goal.returns-clause-labelled
returns-clause-labelled c =
    let ending = c.end_stretches.ensures.kept (has_odd c.args.nodes.now) c.args.first.now c.pass_nodes.ensures.passed in
    all_ended c.args.lattice.now c.args.class (has_odd c.args.nodes.now) c.args.label c.args.first.now c.end_stretches.new.first c.end_stretches.new.starts
    (none_open c.args.lattice.now c.args.class (has_odd c.args.nodes.now) c.args.label c.args.first.now c.end_stretches.new.first c.end_stretches.new.starts c.requires.class
    c.end_stretches.ensures.ended ending)
    ending
