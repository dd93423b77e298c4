use Rattle.std.proofs.Common.{refl}
use Rattle.aea_io.proofs.Printing.{prints_as, prints_failed}
use Rattle.aea_session.proofs.read.put_damaged.Goals as goal

pub returns-in-Ok-clause-prints : goal.returns-in-Ok-clause-prints
returns-in-Ok-clause-prints g c = prints_as 10 c.in-Ok.ensures.prints

pub returns-in-Err-clause-prints : goal.returns-in-Err-clause-prints
returns-in-Err-clause-prints g c = prints_failed {T = Unit {0}} refl c.in-Err.ensures.prints
