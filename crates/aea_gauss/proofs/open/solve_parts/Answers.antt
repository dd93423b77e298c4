use Rattle.std.proofs.Common.{◌≡◌, ◌<◌, Bool, not, All, [], length, get_or, sym, ◌∙◌, ap, subst, arith}
use Rattle.aea_lattice.specs.declared.blocks.BlockId.{BlockId}
use Rattle.aea_lattice.specs.Equations.{HasEquation}
use Rattle.aea_view.specs.Marked.{is_marked}
use Rattle.aea_fates.specs.Live.{live_equations}
use Rattle.aea_readings.specs.Small.{unknown_blocks}
use Rattle.aea_readings.proofs.Standing.{live_inside}
use Rattle.aea_gauss.specs.Parts.{ArePart, IsWanted}
use Rattle.aea_gauss.proofs.Parting.{part_at, part_ready}
use Rattle.aea_gauss.proofs.Placing.{solved_more, solved_whole}
use Rattle.aea_gauss.proofs.open.solve_parts.Goals as goal

pub parts_of-requires-clause-equations : goal.parts_of-requires-clause-equations
parts_of-requires-clause-equations c =
    let l = c.args.lattice.now in
    let kn : BlockId → Bool = λ b. not (is_marked c.args.open.now b) in
    let blocks : c.as_slice-blocks.result.now ≡ unknown_blocks l kn = c.as_slice-blocks.ensures.value ∙ c.in_ok-blocks.ensures.all in
    subst (All (HasEquation l)) (sym (c.as_slice.ensures.value ∙ c.in_ok-equations.ensures kn blocks)) (live_inside l kn)

pub solve_whole-requires-clause-ready : goal.solve_whole-requires-clause-ready
solve_whole-requires-clause-ready c =
    let l = c.args.lattice.now in
    let kn : BlockId → Bool = λ b. not (is_marked c.args.open.now b) in
    let blocks : c.as_slice-blocks.result.now ≡ unknown_blocks l kn = c.as_slice-blocks.ensures.value ∙ c.in_ok-blocks.ensures.all in
    let equations : c.as_slice.result.now ≡ live_equations l kn = c.as_slice.ensures.value ∙ c.in_ok-equations.ensures kn blocks in
    let parts = c.in_ok-parts.parts in
    let label = c.loop-label.label in
    let bs = c.bucket_at-part_blocks.result.now in
    let es = c.bucket_at-part_equations.result.now in
    let b : bs ≡ get_or parts.blocks.items label [] = c.bucket_at-part_blocks.ensures ∙ ap (λ xs. get_or xs label []) c.as_slice-in-loop-label.ensures.value in
    let e : es ≡ get_or parts.equations.items label [] = c.bucket_at-part_equations.ensures ∙ ap (λ xs. get_or xs label []) c.as_slice-in-loop-label-2.ensures.value in
    let below : label < length parts.blocks.items = (let inside = c.loop-label-test.true in let count = c.len-label-end.ensures in omega arith) in
    let part : ArePart l kn bs es = part_at l kn parts.blocks.items parts.equations.items label bs es (c.in_ok-parts.ensures.each kn blocks equations) below b e in
    part_ready c.unknown_are_listed.ensures l kn kn (λ d has known. known) c.as_slice-blocks.result.now bs es blocks part

pub loop-label-init : goal.loop-label-init
loop-label-init c = record {
  blocks = c.in_ok-fates.ensures;
  right = λ k a none. absurd (omega (arith, none));
}

pub loop-label-preserved : goal.loop-label-preserved
loop-label-preserved c =
    let l = c.args.lattice.now in
    let kn : BlockId → Bool = λ b. not (is_marked c.args.open.now b) in
    let blocks : c.as_slice-blocks.result.now ≡ unknown_blocks l kn = c.as_slice-blocks.ensures.value ∙ c.in_ok-blocks.ensures.all in
    let equations : c.as_slice.result.now ≡ live_equations l kn = c.as_slice.ensures.value ∙ c.in_ok-equations.ensures kn blocks in
    let parts = c.in_ok-parts.parts in
    let label = c.loop-label.label in
    let bs = c.bucket_at-part_blocks.result.now in
    let es = c.bucket_at-part_equations.result.now in
    let b : bs ≡ get_or parts.blocks.items label [] = c.bucket_at-part_blocks.ensures ∙ ap (λ xs. get_or xs label []) c.as_slice-in-loop-label.ensures.value in
    let e : es ≡ get_or parts.equations.items label [] = c.bucket_at-part_equations.ensures ∙ ap (λ xs. get_or xs label []) c.as_slice-in-loop-label-2.ensures.value in
    let below : label < length parts.blocks.items = (let inside = c.loop-label-test.true in let count = c.len-label-end.ensures in omega arith) in
    let part : ArePart l kn bs es = part_at l kn parts.blocks.items parts.equations.items label bs es (c.in_ok-parts.ensures.each kn blocks equations) below b e in
    solved_more l kn IsWanted c.as_slice-blocks.result.now parts.blocks.items label bs c.loop-label.fates c.solve_whole.new.fates c.loop-label.invariant b
    c.in_ok-solve_whole.ensures.fates (c.in_ok-solve_whole.ensures.rights kn part)

pub returns : goal.returns
returns c =
    let l = c.args.lattice.now in
    let kn : BlockId → Bool = λ b. not (is_marked c.args.open.now b) in
    let blocks : c.as_slice-blocks.result.now ≡ unknown_blocks l kn = c.as_slice-blocks.ensures.value ∙ c.in_ok-blocks.ensures.all in
    let past = c.loop-label-test.false in
    solved_whole l kn c.as_slice-blocks.result.now c.in_ok-parts.parts.blocks.items c.loop-label.label c.loop-label.fates blocks (omega arith) c.loop-label.invariant c.in_ok-parts.ensures.whole
