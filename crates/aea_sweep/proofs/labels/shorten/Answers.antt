use Rattle.aea_sweep.proofs.Alongs.{along_refl}
use Rattle.aea_sweep.proofs.labels.shorten.Goals as goal

pub loop-node-init : goal.loop-node-init
loop-node-init c = record { labels = c.requires.labels; along = λ inside. along_refl c.args.lattice.now c.args.class c.args.from }
