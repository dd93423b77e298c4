use Rattle.std.proofs.Common.{◌≡◌, Option, Some, None, refl, sym, subst}
use Rattle.std.specs.Prelude.{IfSome}
use Rattle.aea_lattice.specs.declared.blocks.BlockId.{BlockId}
use Rattle.aea_lattice.specs.Blocks.{HasBlock}
use Rattle.aea_lattice.specs.Strands.{previous}
use Rattle.aea_lattice.proofs.Equations.{input_inside}
use Rattle.aea_gauss.proofs.Turning.{row_flipped}
use Rattle.aea_gauss.proofs.rows.fill_row.Goals as goal

each : (P : BlockId → Type 0) (p : Option BlockId) → IfSome p P → (x : BlockId) → p ≡ Some x → P x
each P None h x is = absurd (cc)
each P (Some y) h x is = let same : y ≡ x = cc in subst P same h

pub turn_input-requires-clause-block : goal.turn_input-requires-clause-block
turn_input-requires-clause-block c =
    each (HasBlock c.args.lattice.now) c.equation-q.result.input
    (subst (λ p. IfSome p (HasBlock c.args.lattice.now)) (sym c.equation-q.ensures.input)
    (input_inside c.args.lattice.now c.args.e (previous c.args.lattice.now c.args.e.class c.args.e.node) refl c.requires.equation))

pub returns : goal.returns
returns c =
    row_flipped c.args.lattice.now c.args.blocks.now c.args.own c.requires.own c.args.e c.args.begin c.args.wide
    c.args.words.now c.turn_input.new.words c.turn_block.new.words c.turn_block-2.new.words c.turn.new.words c.requires.equation
    c.equation-q.result.input c.equation-q.result.datum c.equation-q.result.output
    c.equation-q.ensures.input c.equation-q.ensures.datum c.equation-q.ensures.output
    c.turn_input.ensures c.turn_block.ensures c.turn_block-2.ensures c.turn.ensures
