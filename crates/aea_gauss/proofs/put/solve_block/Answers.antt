use Rattle.std.proofs.Common.{◌+◌, length, subst, sym}
use Rattle.std.proofs.lemmas.List.Elements.{All-get_or}
use Rattle.aea_lattice.specs.declared.blocks.Class.TheVariants.{Datum}
use Rattle.aea_lattice.specs.Blocks.{block_of}
use Rattle.aea_gauss_words.specs.Words.{bit_matrix}
use Rattle.aea_gauss_words.specs.Matrices.{IsReduction}
use Rattle.aea_readings.specs.Small.{small_start}
use Rattle.aea_gauss.specs.Parts.{StandsIn}
use Rattle.aea_gauss.proofs.put.solve_block.Goals as goal

pub put_fate-requires-clause-stands : goal.put_fate-requires-clause-stands
put_fate-requires-clause-stands c =
    subst (StandsIn c.args.blocks.now) (sym c.in_ok-fate.ensures.block)
    (All-get_or (StandsIn c.args.blocks.now) c.args.part_blocks.now c.args.a (block_of 0 Datum) c.requires.a c.requires.stand)

pub returns : goal.returns
returns c =
    let l = c.args.lattice.now in
    let part = c.args.part_blocks.now in
    let equations = c.args.part_equations.now in
    let wide = c.args.reduced.now.wide in
    record {
      at = c.put_fate.ensures.0;
      fate = c.in_ok-fate.fate;
      inside = c.put_fate.ensures.1;
      here = c.put_fate.ensures.2;
      block = c.in_ok-fate.ensures.block;
      reveals = λ known blocks_are equations_are.
          c.in_ok-fate.ensures.revealed l known
          (c.small_rows_reveal_fates.ensures l known part equations (bit_matrix wide c.as_slice.result.now) blocks_are equations_are
          (subst (λ words. IsReduction (length equations) (length part + length equations) (small_start l part equations) (bit_matrix wide words)) (sym c.as_slice.ensures.value)
          c.requires.reduced.reduction));
      is = c.put_fate.ensures.3;
    }
