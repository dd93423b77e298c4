use Rattle.std.proofs.Common.{ℕ, Bool, ◌++◌, ◌∷◌, [], cond, take, length, sym, ◌∙◌, ap, arith}
use Rattle.aea_lattice.specs.declared.blocks.Class.TheVariants.{Datum}
use Rattle.aea_lattice.specs.Equations.{equation_of}
use Rattle.aea_gauss_words.specs.Words.{is_bit}
use Rattle.aea_readings.specs.Small.{equation_in, own_column, equations_at}
use Rattle.aea_gauss.proofs.Reading.{equations-more}
use Rattle.aea_gauss.proofs.read.read_equations.Goals as goal

pub loop-row-preserved : goal.loop-row-preserved
loop-row-preserved c =
    let es = c.args.equations.now in
    let p : ℕ → Bool = λ j. is_bit c.args.words.now c.args.begin (own_column c.args.count (length es) j) in
    let k = c.loop-row.row in
    let e = equation_in es k in
    c.in_ok-keep_equation.ensures
    ∙ ap (λ xs. xs ++ cond c.has-in_row.result (e ∷ []) []) c.loop-row.invariant
    ∙ ap (λ x. equations_at p (take k es) ++ cond x (e ∷ []) []) c.has-in_row.ensures
    ∙ sym (equations-more p es k (equation_of 0 Datum) (omega arith))
