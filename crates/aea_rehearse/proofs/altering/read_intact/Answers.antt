use Rattle.std.proofs.Common.{refl, sym, subst}
use Rattle.std.specs.Prelude.{IsErr}
use Rattle.aea_disk.proofs.Frames.{reads_as, ok_fine}
use Rattle.aea_rehearse.proofs.Homes.{willing_ready, willing_roomy}
use Rattle.aea_rehearse.proofs.altering.read_intact.Goals as goal

pub unreachable-requires-in-Err : goal.unreachable-requires-in-Err
unreachable-requires-in-Err g c =
    let old = g.D.Disk.state c.args.disk.now in
    (c.read_block.ensures.reads.sure c.requires.reveals (willing_ready old (g.met.D.Disk.free_taken c.args.disk.now) c.requires.willing) (willing_roomy old c.requires.willing)).0
    (subst IsErr (sym c.in-Err.is) refl)

pub returns-clause-reads : goal.returns-clause-reads
returns-clause-reads g c = reads_as _ _ ⊥ _ _ (λ x. absurd x) (ok_fine c.in-Ok-Intact.is) c.read_block.ensures.reads
