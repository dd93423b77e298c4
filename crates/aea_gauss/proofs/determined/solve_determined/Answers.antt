use Rattle.std.proofs.Common.{ℕ, inl, inr, refl, None, Some, get_or, sym, ◌∙◌, ap}
use Rattle.std.proofs.lemmas.Option.{get_or_from_slice_get}
use Rattle.aea_gauss.proofs.determined.solve_determined.Goals as goal

pub returns-in-Some : goal.returns-in-Some
returns-in-Some c =
    let losses = c.args.losses.now in
    inl
    (refl, (c.in-Some.field-0.now, ap (λ (k : ℕ). get_or losses k None) (sym c.number-number.ensures.value) ∙ get_or_from_slice_get losses c.number-number.result (Some c.in-Some.field-0.now) None c.in-Some.ensures))

pub returns-in_ok-solve_block-in-None : goal.returns-in_ok-solve_block-in-None
returns-in_ok-solve_block-in-None c =
    let losses = c.args.losses.now in
    inr
    (c.in_ok-solve_block-in-None.ensures, ap (λ (k : ℕ). get_or losses k None) (sym c.number-number.ensures.value) ∙ get_or_from_slice_get losses c.number-number.result None None c.in-None.ensures)
