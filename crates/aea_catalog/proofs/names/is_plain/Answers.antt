use Rattle.std.proofs.Common.{rules, tests}
use Rattle.std.proofs.lemmas.Iterator.{YieldsList-from_slice}
use Rattle.std.proofs.lemmas.Iterator.Search.{all_from_yields_List}
use Rattle.aea_catalog.specs.Names.{is_plain_byte}
use Rattle.aea_catalog.proofs.names.is_plain.Goals as goal

pub returns : goal.returns
returns c = all_from_yields_List is_plain_byte _ _ _ c.all.ensures.ran (YieldsList-from_slice c.args.name.now cc) (λ x b q k. search (rules, tests))
