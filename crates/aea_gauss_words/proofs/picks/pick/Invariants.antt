use Rattle.std.proofs.Common.{◌≡◌, ◌+◌, ◌*◌, get_or, None}
use Rattle.aea_gauss_words.specs.Tables.{place_of, has_lead}
use Rattle.aea_gauss_words.proofs.picks.pick.Given as goal

abbrev pub invariant-loop-s : goal.invariant-loop-s
invariant-loop-s l = l.place ≡ place_of (λ s. has_lead l.wide l.words l.row (get_or l.leads (8 * l.t + s) None)) l.s
