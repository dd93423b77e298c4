use Rattle.std.proofs.Common.{refl}
use Rattle.aea_rehearse.specs.Generator.{byte_of}
use Rattle.aea_rehearse.proofs.generator.top_byte.Goals as goal

pub returns : goal.returns
unfolding byte_of
returns c = refl
