use Rattle.std.proofs.Common.{◌≡◌, ◌<◌, [], length, get_or, sym, ◌∙◌, ap, subst, arith}
use Rattle.aea_readings.specs.Small.{AreListed}
use Rattle.aea_view.specs.Marked.{is_marked}
use Rattle.aea_gauss.specs.Lost.{IsNotLost}
use Rattle.aea_gauss.specs.Parts.{ArePart}
use Rattle.aea_gauss.proofs.Parting.{part_at, part_ready}
use Rattle.aea_gauss.proofs.Placing.{solved_more, solved_all}
use Rattle.aea_gauss.proofs.fates.solve.Goals as goal

pub solve_part-requires-clause-ready : goal.solve_part-requires-clause-ready
solve_part-requires-clause-ready c =
    let l = c.args.lattice.now in
    let kn = is_marked c.args.known.now in
    let more = is_marked c.in_ok-marked.marked.marks in
    let parts = c.in_ok-parts.parts in
    let label = c.loop-label.label in
    let bs = c.bucket_at-part_blocks.result.now in
    let es = c.bucket_at-part_equations.result.now in
    let b : bs ≡ get_or parts.blocks.items label [] = c.bucket_at-part_blocks.ensures ∙ ap (λ xs. get_or xs label []) c.as_slice.ensures.value in
    let e : es ≡ get_or parts.equations.items label [] = c.bucket_at-part_equations.ensures ∙ ap (λ xs. get_or xs label []) c.as_slice-in-loop-label.ensures.value in
    let below : label < length parts.blocks.items = (let inside = c.loop-label-test.true in let count = c.len-label-end.ensures in omega arith) in
    let part : ArePart l more bs es = part_at l more parts.blocks.items parts.equations.items label bs es c.in_ok-parts.ensures.each below b e in
    part_ready c.unknown_are_listed.ensures l kn more c.in_ok-marked.ensures.ends.kept c.as_slice-blocks.result.now bs es (c.as_slice-blocks.ensures.value ∙ c.in_ok-blocks.ensures.all) part

pub loop-label-init : goal.loop-label-init
loop-label-init c = record {
  solved = record {
    blocks = c.in_ok-fates.ensures.blocks;
    right = λ k a none. absurd (omega (arith, none));
  };
  lost = c.in_ok-fates.ensures.lost (is_marked c.args.known.now) c.in_ok-marked.ensures.losses;
}

pub loop-label-preserved : goal.loop-label-preserved
loop-label-preserved c =
    let l = c.args.lattice.now in
    let kn = is_marked c.args.known.now in
    let more = is_marked c.in_ok-marked.marked.marks in
    let parts = c.in_ok-parts.parts in
    let label = c.loop-label.label in
    let bs = c.bucket_at-part_blocks.result.now in
    let es = c.bucket_at-part_equations.result.now in
    let b : bs ≡ get_or parts.blocks.items label [] = c.bucket_at-part_blocks.ensures ∙ ap (λ xs. get_or xs label []) c.as_slice.ensures.value in
    let e : es ≡ get_or parts.equations.items label [] = c.bucket_at-part_equations.ensures ∙ ap (λ xs. get_or xs label []) c.as_slice-in-loop-label.ensures.value in
    let below : label < length parts.blocks.items = (let inside = c.loop-label-test.true in let count = c.len-label-end.ensures in omega arith) in
    let part : ArePart l more bs es = part_at l more parts.blocks.items parts.equations.items label bs es c.in_ok-parts.ensures.each below b e in
    let losses = c.in_ok-marked.marked.losses in
    let rights = c.in_ok-solve_part.ensures.rights kn more c.in_ok-marked.ensures.losses c.in_ok-marked.ensures.ends part in
    record {
      solved = solved_more l kn (IsNotLost l losses) c.as_slice-blocks.result.now parts.blocks.items label bs c.loop-label.fates c.solve_part.new.fates c.loop-label.invariant.solved b
          c.in_ok-solve_part.ensures.fates rights;
      lost = λ a less is_lost. rights.kept a less (c.loop-label.invariant.lost a less is_lost);
    }

pub returns : goal.returns
returns c =
    let l = c.args.lattice.now in
    let us = c.as_slice-blocks.result.now in
    let past = c.loop-label-test.false in
    let same = c.as_slice-blocks.ensures.value in
    solved_all l (is_marked c.args.known.now) (is_marked c.in_ok-marked.marked.marks) us c.in_ok-marked.marked.losses c.in_ok-parts.parts.blocks.items c.loop-label.label c.loop-label.fates
    (same ∙ c.in_ok-blocks.ensures.all) (subst (AreListed l) (sym same) c.in_ok-blocks.ensures.listed) c.in_ok-marked.ensures.losses c.in_ok-marked.ensures.ends
    (omega arith) c.loop-label.invariant.solved c.loop-label.invariant.lost c.in_ok-parts.ensures.whole
