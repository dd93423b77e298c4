use Rattle.std.proofs.Common.{sym, ◌∙◌}
use Rattle.aea_catalog.specs.Pieces.{half_size}
use Rattle.aea_catalog.proofs.Pieces.{moved_upper}
use Rattle.aea_catalog.proofs.order.Piece.cut.Goals as goal

pub returns-clause-upper : goal.returns-clause-upper
returns-clause-upper c =
    let moved = rw (sym c.is_ok.ensures.value ∙ c.if-prove.false) at c.extend_from_slice-moved.ensures.items in
    moved_upper _ _ c.deref.result.now c.args.self.now half_size moved (c.upper.view_is ∙ c.requires.empty) (c.deref.ensures.value ∙ c.self.view_is)
