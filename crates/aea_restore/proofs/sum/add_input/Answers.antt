use Rattle.std.proofs.Common.{filter, Option, sym, subst}
use Rattle.std.specs.Prelude.{option_to_list}
use Rattle.aea_lattice.specs.declared.blocks.BlockId.{BlockId}
use Rattle.aea_view.specs.Marked.{is_marked}
use Rattle.aea_disk.proofs.Frames.{reads_none}
use Rattle.aea_restore.specs.Drawn.{is_other}
use Rattle.aea_restore.specs.Judged.{IsReadClashIn}
use Rattle.aea_restore.proofs.sum.add_input.Goals as goal

pub returns-in-None-clause-reads : goal.returns-in-None-clause-reads
returns-in-None-clause-reads g c = reads_none g.D.Disk.reveals _ (g.D.Disk.state c.args.disk.now) (λ is. absurd (let e = is in cc))

pub returns-in-Some-clause-found : goal.returns-in-Some-clause-found
returns-in-Some-clause-found g c d revealed computed is =
    subst (λ (i : Option BlockId). IsReadClashIn g.D.Disk.reveals c.args.ledger.now (g.D.Disk.state c.args.disk.now).files (filter (is_other (is_marked c.args.marks.now) c.args.b) (option_to_list i)) d revealed computed) (sym c.in-Some.is)
    (c.add_other.ensures.found d revealed computed is)
