use Rattle.std.proofs.Common.{[], arith, ap, ◌∙◌}
use Rattle.std.specs.List.{insert}
use Rattle.std.proofs.lemmas.List.{get_or_read}
use Rattle.aea_catalog.proofs.Pieces.{joined-insert_into}
use Rattle.aea_catalog.proofs.order.insert_into.Goals as goal

pub returns-clause-items : goal.returns-clause-items
returns-clause-items c =
    let pieces = c.args.pieces.now in
    let here = get_or_read pieces.items c.args.place.piece _ (omega (arith, pieces.ok.0)) c.index_mut-piece.ensures.value [] in
    joined-insert_into pieces.items c.args.place.piece c.args.place.at c.args.index c.insert.new.self (omega (arith, pieces.ok.0)) c.requires.at
    (c.insert.ensures ∙ ap (λ p. insert p c.args.place.at c.args.index) here)
