use Rattle.aea_command_read.proofs.ScrubLemmas.DamagedMarks.{flipped_damaged}
use Rattle.aea_command_read.proofs.scrub.damaged_marks.Goals as goal

pub returns-in-Ok-complement-clause-damaged : goal.returns-in-Ok-complement-clause-damaged
returns-in-Ok-complement-clause-damaged g c revealed =
    flipped_damaged c.args.ledger.now (g.D.Disk.state c.args.disk.now).files c.in-Ok.intact c.in-Ok-complement.damaged
    c.in-Ok.ensures.lattice c.in-Ok-complement.ensures.lattice c.in-Ok-complement.ensures.marks c.in-Ok-complement.ensures.whole (c.in-Ok.ensures.intact revealed)
