use Rattle.std.proofs.Common.{subst}
use Rattle.aea_lattice.specs.Blocks.{blocks_count}
use Rattle.aea_view.specs.Marked.{IsWhole}
use Rattle.aea_view.proofs.Packed.{bits-length}
use Rattle.aea_view.proofs.marks.Marks.lattice.Goals as goal

pub returns-clause-whole : goal.returns-clause-whole
returns-clause-whole c = subst IsWhole c.self.view_is (bits-length (blocks_count c.self.inside.lattice) c.self.inside.words.items)
