use Rattle.std.proofs.Common.{◌≡◌, [], ◌<◌, length, get_or, sym, ap, ◌∙◌}
use Rattle.std.proofs.lemmas.List.{get_or_read, get_or_default}
use Rattle.aea_catalog.proofs.Pieces.{get_or-joined}
use Rattle.aea_catalog.proofs.order.Order.at.Goals as goal

pub returns : goal.returns
returns c =
    let pieces = c.args.self.now.pieces in
    let same : c.self.inside.pieces.items ≡ pieces = ap (λ o. o.pieces) c.self.view_is in
    let read = rw same at c.index.ensures in
    let here : c.indices.result.now ≡ get_or pieces c.args.place.piece [] = c.indices.ensures ∙ get_or_read pieces c.args.place.piece _ c.requires.piece_in read [] in
    let there = get_or-joined pieces c.args.place.piece c.args.place.at (get_or c.indices.result.now c.args.place.at 0) c.requires.piece_in c.requires.at_in in
    let within : c.args.place.at < length c.indices.result.now = rw here c.requires.at_in in
    get_or_default c.indices.result.now c.args.place.at 0 (get_or c.indices.result.now c.args.place.at 0) within
    ∙ ap (λ l. get_or l c.args.place.at (get_or c.indices.result.now c.args.place.at 0)) here ∙ sym there
