use Rattle.std.proofs.Common.{◌∷◌, ◌++◌, [], sym, ◌∙◌, ap, arith}
use Rattle.aea_explain.proofs.Fated.{item_at, take_more}
use Rattle.aea_explain.proofs.fate.copy_items.Goals as goal

pub loop-k-preserved : goal.loop-k-preserved
loop-k-preserved g c =
    let items = c.args.items.now in
    let item = item_at items c.loop-k.k (omega (arith, c.loop-k-test.true, c.len-k-end.ensures)) in
    record {
      copied = c.in_ok-push_from.ensures item.0 item.1 ∙ ap (λ xs. xs ++ item.0 ∷ []) c.loop-k.invariant.copied ∙ sym (take_more items c.loop-k.k item.0 item.1);
    }
