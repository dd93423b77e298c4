use Rattle.std.proofs.Common.{◌<◌, ◌≤◌, ◌==◌, ℕ, get_or, length, ◌∙◌, ap, subst, arith}
use Rattle.aea_readings.specs.Small.{equation_in}
use Rattle.aea_gauss.specs.Parts.{items_at, IsLabelOf}
use Rattle.aea_gauss.proofs.Parting.{labels_part, labels_whole}
use Rattle.aea_gauss.proofs.parts.parts_of.Goals as goal

pub returns-clause-each : goal.returns-clause-each
returns-clause-each c known blocks_are equations_are label below =
    let blocks = c.args.blocks.now in
    let equations = c.args.equations.now in
    let labels = c.in_ok-labels.labels.items in
    let own = c.in_ok-own.own.items in
    let v = c.as_slice-labels.ensures.value in
    let w = c.as_slice.ensures.value in
    let less : label < length blocks = subst (λ n. label < n) c.in_ok-part_blocks.ensures.long below in
    labels_part c.args.lattice.now known blocks equations labels own blocks_are equations_are c.requires.listed
    c.in_ok-labels.ensures.joined
    (subst (λ xs. (i : ℕ) → i < length equations → IsLabelOf c.args.lattice.now blocks xs (equation_in equations i) (get_or own i 0)) v c.in_ok-own.ensures.label) label
    (get_or c.in_ok-part_blocks.part_blocks.items label _) (get_or c.in_ok-part_equations.part_equations.items label _)
    (c.in_ok-part_blocks.ensures.each label less ∙ ap (λ xs. items_at (λ k. get_or xs k 0 == label) blocks) v)
    (c.in_ok-part_equations.ensures.each label less ∙ ap (λ xs. items_at (λ k. get_or xs k 0 == label) equations) w)

pub returns-clause-whole : goal.returns-clause-whole
returns-clause-whole c a less =
    let blocks = c.args.blocks.now in
    let labels = c.in_ok-labels.labels.items in
    let v = c.as_slice-labels.ensures.value in
    let label = get_or labels a 0 in
    let low : label ≤ a = c.in_ok-labels.ensures.below a less in
    let long = c.in_ok-part_blocks.ensures.long in
    let inside : label < length blocks = omega arith in (
      label,
      omega arith,
      labels_whole blocks (get_or c.in_ok-part_blocks.part_blocks.items label _) labels a less
          (c.in_ok-part_blocks.ensures.each label inside ∙ ap (λ xs. items_at (λ k. get_or xs k 0 == label) blocks) v),
    )
