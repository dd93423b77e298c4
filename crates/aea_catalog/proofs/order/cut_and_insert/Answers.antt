use Rattle.std.proofs.Common.{[], arith, sym, ap, ◌∙◌}
use Rattle.std.specs.List.{insert}
use Rattle.std.proofs.lemmas.List.{get_or_read}
use Rattle.aea_catalog.specs.Pieces.{joined}
use Rattle.aea_catalog.proofs.Pieces.{joined-cut}
use Rattle.aea_catalog.proofs.order.cut_and_insert.Goals as goal

pub returns-clause-items : goal.returns-clause-items
returns-clause-items c =
    let pieces = c.args.pieces.now in
    let here = get_or_read pieces.items c.args.place.piece _ (omega (arith, pieces.ok.0)) c.index_mut-lower.ensures.value [] in
    let both = c.insert_halved.ensures.both ∙ ap (λ p. insert p c.args.place.at c.args.index) here in
    let items = rw (sym c.is_ok.ensures.value ∙ c.if-prove.false) at c.insert-inserted.ensures.items in
    ap joined items
    ∙ joined-cut pieces.items c.args.place.piece c.args.place.at c.args.index c.insert_halved.new.lower c.insert_halved.new.upper (omega (arith, pieces.ok.0)) c.requires.at both
