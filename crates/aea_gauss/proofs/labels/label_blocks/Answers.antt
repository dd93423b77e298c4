use Rattle.aea_gauss.specs.Parts.{label_at}
use Rattle.aea_gauss.proofs.labels.label_blocks.Goals as goal

pub returns-clause-joined : goal.returns-clause-joined
returns-clause-joined c = c.join_each.ensures.follows (label_at c.settle.new.parents) c.settle.ensures.follows
