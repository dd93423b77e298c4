use Rattle.std.proofs.Common.{[]}
use Rattle.aea_messages.proofs.Parts.{goes_abort}
use Rattle.aea_messages.proofs.Taken.{took_none, behind_lacks}
use Rattle.aea_messages.proofs.kinds.read_abort.Goals as goal

pub returns-in-Err-clause-reads : goal.returns-in-Err-clause-reads
returns-in-Err-clause-reads g c =
    let L0 = (g.S.Source.state c.args.source.now).left in
    let L1 = (g.S.Source.state c.take_byte.new.source).left in
    behind_lacks L0 L0 L1 c.args.at.now c.args.at.now c.take_byte.new.at 1 4 [] [] c.in-Err.fault (took_none L0 c.args.at.now) c.in-Err.ensures.reads goes_abort
