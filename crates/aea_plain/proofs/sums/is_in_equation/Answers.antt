use Rattle.std.proofs.Common.{◌≡◌, ◌||◌, List, [], ◌∷◌, ◌++◌, sym, ◌∙◌, ap}
use Rattle.std.specs.Prelude.{option_to_list}
use Rattle.std.specs.List.{list_any}
use Rattle.aea_lattice.specs.declared.blocks.BlockId.{BlockId}
use Rattle.aea_lattice.specs.Blocks.{same_block}
use Rattle.aea_lattice.specs.Equations.{equation_blocks}
use Rattle.aea_plain.proofs.sums.is_in_equation.Goals as goal

pub returns-else-is_same : goal.returns-else-is_same
returns-else-is_same c =
    let q = c.equation-q.result in
    let ends : List BlockId = q.datum ∷ q.output ∷ [] in
    let blocks : c.in-Some.g ∷ ends ≡ equation_blocks c.args.lattice.now c.args.e =
    ap (λ input. option_to_list input ++ ends) (sym c.in-Some.is) ∙ c.equation-q.ensures.listed in
    c.is_either.ensures
    ∙ ap (λ t. t || list_any (same_block c.args.b) ends) (sym c.if-is_same.false ∙ c.is_same.ensures)
    ∙ ap (list_any (same_block c.args.b)) blocks
