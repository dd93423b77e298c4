use Rattle.std.proofs.Common.{◌∙◌, ap, rules}
use Rattle.std.specs.Int.{div_ceil}
use Rattle.aea_session.proofs.Ceilings.{ceil-div}
use Rattle.aea_session.proofs.close.nodes_taken.Goals as goal

pub returns : goal.returns
returns c = c.div_ceil.ensures ∙ ap (div_ceil c.args.length) (c.from.ensures ∙ c.block.ensures) ∙ ceil-div c.args.length c.args.shape.now.block (search rules)
