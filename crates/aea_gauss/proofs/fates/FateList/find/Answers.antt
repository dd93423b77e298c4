use Rattle.std.proofs.Common.{◌≡◌, ◌+◌, ◌-◌, ◌/◌, ◌<◌, [], inl, inr, length, sym, ◌∙◌, ap, subst, arith}
use Rattle.std.proofs.lemmas.Cmp.{ranked}
use Rattle.std.specs.declared.cmp.Ordering.TheVariants.{Less, Equal, Greater}
use Rattle.std.proofs.lemmas.Bool.{cases_lt}
use Rattle.std.proofs.lemmas.Option.{slice_get-get_or}
use Rattle.aea_lattice.specs.declared.blocks.Class.TheVariants.{Datum}
use Rattle.aea_lattice.specs.Blocks.{HasBlock, block_of, number_of}
use Rattle.aea_lattice.proofs.Equations.{number_equal}
use Rattle.aea_gauss.specs.declared.fates.Fate.TheVariants.{Word}
use Rattle.aea_gauss.specs.Fates.{block_of_fate}
use Rattle.aea_gauss.specs.Parts.{fate_in}
use Rattle.aea_gauss.proofs.Halving.{lesser_to, greater_from, fates_rise, fate_inside, fate_here}
use Rattle.aea_gauss.proofs.Reading.{same_default}
use Rattle.aea_gauss.proofs.fates.FateList.find.Goals as goal

pub number-requires : goal.number-requires
number-requires c =
    let middle = c.loop-low.low + (c.loop-low.high - c.loop-low.low) / 2 in
    let fates = c.args.self.now in
    let inside : middle < length fates = omega arith in
    let here = fate_here fates c.self.inside.items.items middle c.index.result.now c.block.result c.self.view_is inside c.index.ensures c.block.ensures in
    subst (HasBlock c.args.lattice.now) (sym here) (fate_inside c.unknown_are_listed.ensures c.args.lattice.now fates c.requires.order middle inside)

pub loop-low-preserved-in-Less : goal.loop-low-preserved-in-Less
loop-low-preserved-in-Less c =
    let l = c.args.lattice.now in
    let fates = c.args.self.now in
    let middle = c.loop-low.low + (c.loop-low.high - c.loop-low.low) / 2 in
    let inside : middle < length fates = omega arith in
    let less = ranked c.number.result c.number-number.result Less c.in-Less.ensures in
    let block = fate_here fates c.self.inside.items.items middle c.index.result.now c.block.result c.self.view_is inside c.index.ensures c.block.ensures in
    let here = c.number.ensures.value ∙ ap (number_of l) block in
    let there = c.number-number.ensures.value in
    record {
      order = omega arith;
      inside = omega arith;
      below = lesser_to (λ a. number_of l (block_of_fate (fate_in fates a))) (length fates) (number_of l c.args.b) middle
          (fates_rise c.unknown_are_listed.ensures l fates c.requires.order) inside (omega arith);
      above = c.loop-low.invariant.above;
    }

pub returns-in-Equal : goal.returns-in-Equal
returns-in-Equal c =
    let l = c.args.lattice.now in
    let fates = c.args.self.now in
    let middle = c.loop-low.low + (c.loop-low.high - c.loop-low.low) / 2 in
    let inside : middle < length fates = omega arith in
    let same = ranked c.number.result c.number-number.result Equal c.in-Equal.ensures in
    let block = fate_here fates c.self.inside.items.items middle c.index.result.now c.block.result c.self.view_is inside c.index.ensures c.block.ensures in (
      fate_in fates middle,
      slice_get-get_or fates middle (Word (block_of 0 Datum) []) inside,
      number_equal l (block_of_fate (fate_in fates middle)) c.args.b (fate_inside c.unknown_are_listed.ensures l fates c.requires.order middle inside) c.requires.block
          (ap (number_of l) (sym block) ∙ sym c.number.ensures.value ∙ same ∙ c.number-number.ensures.value),
    )

pub loop-low-preserved : goal.loop-low-preserved
loop-low-preserved c =
    let l = c.args.lattice.now in
    let fates = c.args.self.now in
    let middle = c.loop-low.low + (c.loop-low.high - c.loop-low.low) / 2 in
    let inside : middle < length fates = omega arith in
    let greater = ranked c.number.result c.number-number.result Greater c.in-Greater.ensures in
    let block = fate_here fates c.self.inside.items.items middle c.index.result.now c.block.result c.self.view_is inside c.index.ensures c.block.ensures in
    let here = c.number.ensures.value ∙ ap (number_of l) block in
    let there = c.number-number.ensures.value in
    record {
      order = omega arith;
      inside = omega arith;
      below = c.loop-low.invariant.below;
      above = greater_from (λ a. number_of l (block_of_fate (fate_in fates a))) (length fates) (number_of l c.args.b) middle
          (fates_rise c.unknown_are_listed.ensures l fates c.requires.order) (omega arith);
    }

pub returns : goal.returns
returns c k d less same =
    let l = c.args.lattice.now in
    let fates = c.args.self.now in
    let past = c.loop-low-test.false in
    let is : number_of l (block_of_fate (fate_in fates k)) ≡ number_of l c.args.b =
    ap (number_of l) (ap block_of_fate (same_default fates k (Word (block_of 0 Datum) []) d less) ∙ same) in
    elim (cases_lt k c.loop-low.low) [
      | inl before ↦ let below = c.loop-low.invariant.below k before in omega arith
      | inr after ↦ let above = c.loop-low.invariant.above k (omega arith) less in omega arith
    ]
