use Rattle.std.proofs.Common.{◌≡◌, ◌&&◌, take}
use Rattle.aea_lattice.specs.Equations.{is_in_equation, is_odd_count}
use Rattle.aea_lattice.specs.Lists.{is_listed}
use Rattle.aea_plain.proofs.sums.is_in_sum.Given as goal

abbrev pub invariant-loop-e : goal.invariant-loop-e
invariant-loop-e l = l.is_odd ≡ is_odd_count (λ e. is_listed l.equations e && is_in_equation l.lattice e l.b) (take l.e-index l.all)
