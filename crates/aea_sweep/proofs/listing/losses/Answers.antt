use Rattle.aea_view.specs.Marked.{is_marked}
use Rattle.aea_sweep.proofs.Revealing.{few_words, losses_are, labels_within}
use Rattle.aea_sweep.proofs.listing.losses.Goals as goal

pub first_words-requires-clause-few : goal.first_words-requires-clause-few
first_words-requires-clause-few c = few_words c.args.lattice.now (is_marked c.args.known.now) c.in_ok-words.words c.in_ok-words.ensures

pub invariant_of-result : goal.invariant_of-result
invariant_of-result c =
    labels_within c.args.lattice.now (is_marked c.args.known.now) c.in_ok-words.words c.in_ok-first.first.items c.in_ok-words.ensures
    c.in_ok-first.ensures.first c.in_ok-first.ensures.long

pub returns : goal.returns
returns c =
    losses_are c.args.lattice.now (is_marked c.args.known.now) c.in_ok-words.words c.in_ok-first.first.items c.in_ok-words.ensures
    c.in_ok-first.ensures.first c.in_ok-first.ensures.long
