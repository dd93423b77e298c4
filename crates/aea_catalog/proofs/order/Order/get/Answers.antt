use Rattle.std.proofs.Common.{Some, slice_get, get_or, length, ◌<◌, ◌≤◌, ◌+◌, ◌-◌, drop, arith, sym, ap, ◌∙◌}
use Rattle.aea_catalog.specs.Pieces.{joined}
use Rattle.aea_catalog.proofs.Pieces.{get_in_piece, get_past_piece}
use Rattle.aea_catalog.proofs.order.Order.get.Goals as goal

pub returns-then-left-indices : goal.returns-then-left-indices
returns-then-left-indices c =
    let within : c.loop-piece.left < length c.piece-item.result = rw (sym c.indices-indices.ensures) c.if-left-indices.true in
    let pieces = c.deref-piece-items.ensures.value ∙ ap (λ o. o.pieces) c.self.view_is in
    ap (λ l. Some (get_or l c.loop-piece.left 0)) c.indices-indices.ensures
    ∙ sym (get_in_piece c.deref-piece-items.result.now c.loop-piece.piece-index c.piece-item.result (omega arith) c.piece-item.is c.loop-piece.left within)
    ∙ c.loop-piece.invariant ∙ ap (λ l. slice_get (joined l) c.args.k) pieces

pub loop-piece-preserved : goal.loop-piece-preserved
loop-piece-preserved c =
    let past : length c.piece-item.result ≤ c.loop-piece.left = rw (sym c.indices-indices.ensures) c.if-left-indices.false in
    ap (λ l. slice_get (joined (drop (c.loop-piece.piece-index + 1) c.deref-piece-items.result.now)) (c.loop-piece.left - length l)) c.indices-indices.ensures
    ∙ get_past_piece c.deref-piece-items.result.now c.loop-piece.piece-index c.piece-item.result (omega arith) c.piece-item.is c.loop-piece.left past
    ∙ c.loop-piece.invariant
