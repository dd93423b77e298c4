use Rattle.std.proofs.Common.{◌∙◌, ap, drop}
use Rattle.aea_reader.proofs.Pieces.{range_more}
use Rattle.aea_reader.proofs.ahead.Ahead.skip.Goals as goal

pub returns : goal.returns
returns c = range_more c.self.inside.page c.self.inside.start c.args.count c.self.inside.end ∙ ap (drop c.args.count) c.self.view_is
