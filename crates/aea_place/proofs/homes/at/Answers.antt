use Rattle.std.proofs.Common.{sym, ◌∙◌}
use Rattle.aea_place.proofs.HomeLemmas.{home_of-number_at, number_at, same_home}
use Rattle.aea_place.proofs.homes.at.Goals as goal

pub returns-clause-home : goal.returns-clause-home
returns-clause-home c =
    rw (c.from-count.ensures, c.from-site.ensures)
    (home_of-number_at c.args.sites c.args.spot c.requires.site c.requires.last)

pub returns-clause-only : goal.returns-clause-only
returns-clause-only c =
    rw (c.from-count.ensures, c.from-site.ensures)
    (λ k same. same_home c.args.sites k (number_at c.args.sites c.args.spot) c.requires.some
    (same ∙ sym (home_of-number_at c.args.sites c.args.spot c.requires.site c.requires.last)))
