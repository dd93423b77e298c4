use Rattle.std.proofs.Common.{sym, ap, ◌∙◌}
use Rattle.std.specs.FinMap as map
use Rattle.aea_catalog.specs.Pieces.{joined, place_in}
use Rattle.aea_catalog.proofs.Catalogues.{object_at, missing}
use Rattle.aea_catalog.proofs.catalog.Catalog.entry_of.Goals as goal

pub returns-in-Ok : goal.returns-in-Ok
returns-in-Ok c =
    let has = rw (c.deref.ensures.value, c.pieces.ensures.pieces) at c.in-Ok.ensures.found in
    let object = object_at c.self.inside.entries.items (joined c.self.inside.order.pieces) c.self.invariant c.args.name.now (place_in c.self.inside.order.pieces c.in-Ok.place) c.at.result c.index-entry.result.now has.is_at c.at.ensures c.index-entry.ensures in
    sym object ∙ ap (λ v. map.get v.objects c.args.name.now) c.self.view_is

pub returns-in-Err : goal.returns-in-Err
returns-in-Err c =
    let has = rw (c.deref.ensures.value, c.pieces.ensures.pieces) at c.in-Err.ensures.absent in
    sym (missing c.self.inside.entries.items (joined c.self.inside.order.pieces) c.self.invariant c.args.name.now _ has.is_gap) ∙ ap (λ v. map.get v.objects c.args.name.now) c.self.view_is
