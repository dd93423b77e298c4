use Rattle.std.proofs.Common.{◌+◌, ◌-◌, ◌/◌, ◌<◌, length, sym, ◌∙◌, arith}
use Rattle.std.proofs.lemmas.Cmp.{ranked}
use Rattle.std.proofs.lemmas.List.Elements.{All-get_or}
use Rattle.std.specs.declared.cmp.Ordering.TheVariants.{Less, Equal, Greater}
use Rattle.aea_lattice.specs.declared.blocks.Class.TheVariants.{Datum}
use Rattle.aea_lattice.specs.Blocks.{HasBlock, block_of, number_of}
use Rattle.aea_lattice.proofs.Equations.{number_equal}
use Rattle.aea_readings.specs.Small.{block_in}
use Rattle.aea_gauss.proofs.Halving.{lesser_to, greater_from}
use Rattle.aea_gauss.proofs.columns.find_column.Goals as goal

pub loop-low-preserved-in-Less : goal.loop-low-preserved-in-Less
loop-low-preserved-in-Less c =
    let l = c.args.lattice.now in
    let blocks = c.args.blocks.now in
    let middle = c.loop-low.low + (c.loop-low.high - c.loop-low.low) / 2 in
    let inside : middle < length blocks = omega arith in
    let less = ranked c.number.result c.number-number.result Less c.in-Less.ensures in
    let here = c.number.ensures.value in
    let there = c.number-number.ensures.value in
    record {
      order = omega arith;
      inside = omega arith;
      below = lesser_to (λ a. number_of l (block_in blocks a)) (length blocks) (number_of l c.args.b) middle c.requires.listed.rise inside (omega arith);
      above = c.loop-low.invariant.above;
    }

pub returns-in-Equal : goal.returns-in-Equal
returns-in-Equal c =
    let l = c.args.lattice.now in
    let blocks = c.args.blocks.now in
    let middle = c.loop-low.low + (c.loop-low.high - c.loop-low.low) / 2 in
    let inside : middle < length blocks = omega arith in
    let same = ranked c.number.result c.number-number.result Equal c.in-Equal.ensures in (
      inside,
      number_equal l (block_in blocks middle) c.args.b (All-get_or (HasBlock l) blocks middle (block_of 0 Datum) inside c.requires.listed.inside) c.requires.block
          (sym c.number.ensures.value ∙ same ∙ c.number-number.ensures.value),
    )

pub loop-low-preserved : goal.loop-low-preserved
loop-low-preserved c =
    let l = c.args.lattice.now in
    let blocks = c.args.blocks.now in
    let middle = c.loop-low.low + (c.loop-low.high - c.loop-low.low) / 2 in
    let inside : middle < length blocks = omega arith in
    let greater = ranked c.number.result c.number-number.result Greater c.in-Greater.ensures in
    let here = c.number.ensures.value in
    let there = c.number-number.ensures.value in
    record {
      order = omega arith;
      inside = omega arith;
      below = c.loop-low.invariant.below;
      above = greater_from (λ a. number_of l (block_in blocks a)) (length blocks) (number_of l c.args.b) middle c.requires.listed.rise (omega arith);
    }
