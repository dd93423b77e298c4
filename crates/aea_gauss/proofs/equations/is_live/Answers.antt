use Rattle.std.proofs.Common.{◌≡◌, Option, Some, None, refl, sym, subst}
use Rattle.aea_lattice.specs.declared.blocks.BlockId.{BlockId}
use Rattle.aea_lattice.specs.Blocks.{HasBlock}
use Rattle.aea_lattice.specs.Strands.{previous}
use Rattle.aea_gauss.proofs.equations.is_live.Goals as goal
use Rattle.std.proofs.Common.{IfSome}
use Rattle.aea_lattice.proofs.Equations.{input_inside}

each : (P : BlockId → Type 0) (p : Option BlockId) → IfSome p P → (x : BlockId) → p ≡ Some x → P x
each P None h x is = absurd (cc)
each P (Some y) h x is = let same : y ≡ x = cc in subst P same h

pub is_known-requires-clause-block : goal.is_known-requires-clause-block
is_known-requires-clause-block c =
    each (HasBlock c.args.lattice.now) c.equation-q.result.input
    (subst (λ p. IfSome p (HasBlock c.args.lattice.now)) (sym c.equation-q.ensures.input)
    (input_inside c.args.lattice.now c.args.e (previous c.args.lattice.now c.args.e.class c.args.e.node) refl c.requires.equation)) c.in-Some.g c.in-Some.is
