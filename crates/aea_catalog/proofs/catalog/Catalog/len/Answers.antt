use Rattle.std.proofs.Common.{sym, ap, ◌∙◌}
use Rattle.std.specs.FinMap as map
use Rattle.aea_catalog.specs.Pieces.{joined}
use Rattle.aea_catalog.proofs.Catalogues.{count_of}
use Rattle.aea_catalog.proofs.catalog.Catalog.len.Goals as goal

pub returns : goal.returns
returns c = c.len.ensures ∙ c.self.inside.entries.ok.0 ∙ sym c.self.invariant.as_many ∙ sym (count_of c.self.inside.entries.items (joined c.self.inside.order.pieces) c.self.invariant) ∙ ap (λ v. map.len v.objects) c.self.view_is
