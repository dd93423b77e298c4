use Rattle.aea_place.proofs.HomeLemmas.{same_home, same_in_row}
use Rattle.aea_place.proofs.homes.home.Goals as goal

pub returns-clause-apart : goal.returns-clause-apart
returns-clause-apart c =
    rw c.from-count.ensures (λ j same. same_home c.args.sites j c.args.k c.requires.some same)

pub returns-clause-row : goal.returns-clause-row
returns-clause-row c =
    rw c.from-count.ensures (λ j row site. same_in_row c.args.sites j c.args.k c.requires.some row site)
