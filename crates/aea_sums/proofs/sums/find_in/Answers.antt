use Rattle.aea_view.specs.Marked.{is_marked}
use Rattle.aea_sums.proofs.Found.{are_sums}
use Rattle.aea_sums.proofs.sums.find_in.Goals as goal

pub back_all-requires-clause-taken : goal.back_all-requires-clause-taken
back_all-requires-clause-taken c = (c.pass_all-lost.ensures.records c.args.wanted.now c.fill_tags.ensures.tags).kind

pub returns-clause-sums : goal.returns-clause-sums
returns-clause-sums c =
    let wanted = c.args.wanted.now in
    let back = c.back_all.ensures.back wanted c.fill_tags.ensures.tags in
    are_sums c.args.lattice.now (is_marked c.args.known.now) wanted c.pass_all-lost.new.records c.back_all.new.table back.0 c.pass_all-lost.result
    c.requires.few c.requires.wanted (c.pass_all-lost.ensures.records wanted c.fill_tags.ensures.tags) back.1
