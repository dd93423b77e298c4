use Rattle.aea_lattice.specs.Lists.{is_listed}
use Rattle.aea_gauss_laws.proofs.Bits.{given-determined}
use Rattle.aea_fates.proofs.laws.sums_are_determined.Goals as goal

pub returns : goal.returns
returns c l known b equations has sum = given-determined l known b has (is_listed equations) sum.gives
