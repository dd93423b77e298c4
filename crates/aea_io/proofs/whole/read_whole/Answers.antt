use Rattle.std.proofs.Common.{arith}
use Rattle.std.proofs.lemmas.List.{length-append, length-take}
use Rattle.std.proofs.KnownBytes.{Consumes-trans}
use Rattle.aea_io.proofs.whole.read_whole.Goals as goal

pub returns-then-is_err-clause-most : goal.returns-then-is_err-clause-most
returns-then-is_err-clause-most g c =
    let asked = length-take c.min-room.result c.loop-buf.buf in
    (_, Consumes-trans _ _ _ _ _ c.loop-buf.invariant.taken c.in-Ok.ensures.bytes.0, simp (length-append, length-take) (omega arith))
