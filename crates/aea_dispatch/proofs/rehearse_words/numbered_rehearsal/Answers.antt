use Rattle.std.proofs.Common.{codes}
use Rattle.aea_dispatch.proofs.Commands.{no_rehearsal}
use Rattle.aea_dispatch.proofs.rehearse_words.numbered_rehearsal.Goals as goal

pub returns-else-is_within-clause-none : goal.returns-else-is_within-clause-none
returns-else-is_within-clause-none c =
    rw (c.in_ok-from.ensures.found, c.in_ok-nodes.ensures.found, c.in_ok-permille.ensures.found)
    (no_rehearsal (codes "rehearse") c.in_ok-from.from c.in_ok-nodes.nodes c.in_ok-permille.permille c.in_ok-from.ensures.fits c.in_ok-nodes.ensures.fits c.in_ok-permille.ensures.fits
    (λ are. c.is_within.ensures.outside c.if-is_within.false are.some are.few are.part))
