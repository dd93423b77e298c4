use Rattle.std.proofs.Common.{Some, sym, ap, ◌∙◌, slice_get}
use Rattle.std.specs.Prelude.{option_map}
use Rattle.std.specs.FinMap as map
use Rattle.aea_catalog.specs.Pieces.{joined}
use Rattle.aea_catalog.specs.Kept.{Pair}
use Rattle.aea_catalog.specs.Catalogs.{named_object}
use Rattle.aea_catalog.proofs.Catalogues.{entry_read, entry_none}
use Rattle.aea_catalog.proofs.catalog.Catalog.entry.Goals as goal

pub returns-in_err-index-clause-entry : goal.returns-in_err-index-clause-entry
returns-in_err-index-clause-entry c =
    rw c.from_residual.ensures
    (ap (option_map named_object) (sym (entry_none c.self.inside.entries.items (joined c.self.inside.order.pieces) c.self.invariant c.args.k c.in_err-index.ensures) ∙ ap (λ v. slice_get (map.entries v.objects) c.args.k) c.self.view_is))

pub returns-clause-entry : goal.returns-clause-entry
returns-clause-entry c =
    ap (λ bytes. Some (bytes, c.entry.inside.object)) c.as_slice.ensures.value
    ∙ ap (λ (pair : Pair). Some (named_object pair)) c.entry.view_is
    ∙ ap (option_map named_object) (sym (entry_read c.self.inside.entries.items (joined c.self.inside.order.pieces) c.self.invariant c.args.k c.in_ok-index.index c.index-entry.result.now c.in_ok-index.ensures c.index-entry.ensures)
    ∙ ap (λ v. slice_get (map.entries v.objects) c.args.k) c.self.view_is)
