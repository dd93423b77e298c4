use Rattle.aea_shelf.proofs.Held.{held_in, held_of}
use Rattle.aea_shelf.proofs.facts.held_is_held_now.Goals as goal

pub returns-clause-images : goal.returns-clause-images
returns-clause-images g c = λ recorded held. held_in c.args.shape.now c.args.b recorded (g.D.Disk.state c.args.disk.now) held

pub returns-clause-reads : goal.returns-clause-reads
returns-clause-reads g c = λ revealed recorded t files here held.
    held_of c.args.shape.now c.args.b recorded (g.D.Disk.state c.args.disk.now) (g.met.D.Disk.as_it_reads c.args.disk.now t files revealed here) held
