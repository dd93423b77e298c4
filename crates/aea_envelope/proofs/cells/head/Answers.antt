use Rattle.std.proofs.Common.{refl}
use Rattle.aea_envelope.specs.Cells.{head_of}
use Rattle.aea_envelope.proofs.cells.head.Goals as goal

pub returns : goal.returns
unfolding head_of
returns c = rw (c.class_byte-class.ensures, c.to_be_bytes.ensures, c.from.ensures) refl
