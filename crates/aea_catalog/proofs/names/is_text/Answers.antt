use Rattle.std.proofs.Common.{◌∙◌}
use Rattle.aea_catalog.proofs.Texts.{is_ok-from_utf8}
use Rattle.aea_catalog.proofs.names.is_text.Goals as goal

pub returns : goal.returns
returns c = c.is_ok.ensures.value ∙ is_ok-from_utf8 c.args.name.now _ _ c.from_utf8.result c.from_utf8.ensures.cases
