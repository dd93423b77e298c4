use Rattle.std.proofs.Common.{◌≡◌, ◌∙◌, subst}
use Rattle.aea_view.specs.Marked.{is_marked}
use Rattle.aea_readings.specs.Small.{unknown_blocks}
use Rattle.aea_gauss.specs.Parts.{HaveEach}
use Rattle.aea_gauss.proofs.parts.unknown_parts.Goals as goal

pub returns-clause-each : goal.returns-clause-each
returns-clause-each c =
    c.in_ok-parts.ensures.each (is_marked c.args.marks.now) (c.as_slice.ensures.value ∙ c.in_ok-blocks.ensures.all) (c.as_slice-2.ensures.value ∙ c.in_ok-equations.ensures.live)

pub returns-clause-whole : goal.returns-clause-whole
returns-clause-whole c =
    let same : c.as_slice.result.now ≡ unknown_blocks c.args.lattice.now (is_marked c.args.marks.now) = c.as_slice.ensures.value ∙ c.in_ok-blocks.ensures.all in
    subst (λ bs. HaveEach bs c.in_ok-parts.parts.blocks.items) same c.in_ok-parts.ensures.whole
