use Rattle.std.proofs.Common.{sym, ◌∙◌, ap}
use Rattle.std.specs.Prelude.{slice_get}
use Rattle.aea_lattice.specs.Blocks.{blocks_of}
use Rattle.aea_lattice.proofs.Numbers.{slice_get-blocks_of}
use Rattle.aea_lattice.proofs.grid.Lattice.block.Goals as goal

pub returns-clause-place : goal.returns-clause-place
returns-clause-place c =
    ap (slice_get (blocks_of c.args.self.now)) (sym c.numbered.ensures.number)
    ∙ slice_get-blocks_of c.args.self.now c.numbered.result c.numbered.ensures.block
