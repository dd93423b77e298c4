use Rattle.std.proofs.Common.{◌≡◌, [], ◌∷◌, codes}
use Rattle.aea_lattice.specs.declared.shape.Shape.{Shape}
use Rattle.aea_dispatch.specs.Words.{AreNoCreate}
use Rattle.aea_dispatch.proofs.Commands.{if_none_weaker, no_shape}
use Rattle.aea_dispatch.proofs.create_words.numbered_shape.Goals as goal

pub returns-clause-none : goal.returns-clause-none
returns-clause-none c =
    if_none_weaker c.shape_of.result
    ((shape : Shape) → shape.alpha ≡ c.in_ok-alpha.alpha → shape.s ≡ c.in_ok-s.s → shape.p ≡ c.in_ok-p.p → shape.block ≡ c.in_ok-block.block → shape.sites ≡ c.in_ok-sites.sites → ⊥)
    (AreNoCreate (codes "create" ∷ c.args.alpha.now ∷ c.args.s.now ∷ c.args.p.now ∷ c.args.block.now ∷ c.args.sites.now ∷ []))
    (λ never.
    rw (c.in_ok-alpha.ensures.found, c.in_ok-s.ensures.found, c.in_ok-p.ensures.found, c.in_ok-block.ensures.found, c.in_ok-sites.ensures.found)
    (no_shape (codes "create") c.in_ok-alpha.alpha c.in_ok-s.s c.in_ok-p.p c.in_ok-block.block c.in_ok-sites.sites
    c.in_ok-alpha.ensures.fits c.in_ok-s.ensures.fits c.in_ok-p.ensures.fits c.in_ok-block.ensures.fits c.in_ok-sites.ensures.fits never))
    c.shape_of.ensures.none
