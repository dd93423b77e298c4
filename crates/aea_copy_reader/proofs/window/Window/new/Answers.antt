use Rattle.std.proofs.Common.{refl}
use Rattle.aea_copy_reader.proofs.window.Window.new.Goals as goal

pub returns : goal.returns
returns c = λ file. record { same = refl; last = λ is. absurd (cc) }
