use Rattle.std.proofs.Common.{◌≡◌, [], ◌∷◌}
use Rattle.aea_lattice.specs.declared.grid.Lattice.{Lattice}
use Rattle.aea_dispatch.specs.Words.{AreNoDrill, IsDrilled}
use Rattle.aea_dispatch.proofs.Commands.{if_none_weaker, no_lattice}
use Rattle.aea_dispatch.proofs.drill_words.drill_of.Goals as goal

pub returns-clause-none : goal.returns-clause-none
returns-clause-none c =
    if_none_weaker c.lattice_of.result
    ((l : Lattice) → l.alpha ≡ c.in_ok-alpha.alpha → l.s ≡ c.in_ok-s.s → l.p ≡ c.in_ok-p.p → l.n ≡ c.in_ok-n.n → IsDrilled l → ⊥)
    (AreNoDrill (c.args.command.now ∷ c.args.alpha.now ∷ c.args.s.now ∷ c.args.p.now ∷ c.args.n.now ∷ []))
    (λ never.
    rw (c.in_ok-alpha.ensures.found, c.in_ok-s.ensures.found, c.in_ok-p.ensures.found, c.in_ok-n.ensures.found)
    (no_lattice c.args.command.now c.in_ok-alpha.alpha c.in_ok-s.s c.in_ok-p.p c.in_ok-n.n c.in_ok-alpha.ensures.fits c.in_ok-s.ensures.fits c.in_ok-p.ensures.fits c.in_ok-n.ensures.fits never))
    c.lattice_of.ensures.none
