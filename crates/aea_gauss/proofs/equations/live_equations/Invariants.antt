use Rattle.std.proofs.Common.{◌≡◌, filter, take}
use Rattle.aea_view.specs.Marked.{is_marked}
use Rattle.aea_fates.specs.Live.{is_live}
use Rattle.aea_gauss.proofs.equations.live_equations.Given as goal

abbrev pub invariant-loop-e : goal.invariant-loop-e
invariant-loop-e l = l.live.items ≡ filter (is_live l.lattice (is_marked l.known)) (take l.e-index l.e-items)
