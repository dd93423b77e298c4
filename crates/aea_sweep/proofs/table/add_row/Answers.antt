use Rattle.std.proofs.Common.{◌≡◌, ◌<◌, List, ℕ, length, sym, ◌∙◌, ap, subst, arith}
use Rattle.aea_sweep.specs.Words.{has_odd, RiseWithin}
use Rattle.aea_sweep.proofs.Rows.{adds-read, element_is}
use Rattle.aea_sweep.proofs.table.add_row.Goals as goal

pub returns : goal.returns
returns c =
    let words = c.args.words.now.items in
    let into_in : c.args.into < length words = (let a = c.requires.into in let b = c.requires.rows in omega arith) in
    let from_in : c.args.from < length words = (let a = c.requires.from in let b = c.requires.rows in omega arith) in
    let x_is = c.as_slice.ensures ∙ element_is words c.args.into c.index.result.now c.index.ensures into_in in
    let y_is = c.as_slice-2.ensures ∙ element_is words c.args.from c.index-2.result.now c.index-2.ensures from_in in
    let z_is : c.swap.new.x ≡ c.add_lists.new.sum = c.swap.ensures.x_after in
    adds-read c.args.from c.args.into words c.swap.new.x c.as_slice.result.now c.as_slice-2.result.now c.args.heads.now c.sum.result into_in c.requires.into
    x_is y_is
    (λ i. ap (λ (xs : List ℕ). has_odd xs i) z_is ∙ c.in_ok-add_lists.ensures.sum i)
    (λ top a b. subst (λ (xs : List ℕ). RiseWithin 1 xs top) (sym z_is) (c.in_ok-add_lists.ensures.rises top a b))
    c.sum.ensures
