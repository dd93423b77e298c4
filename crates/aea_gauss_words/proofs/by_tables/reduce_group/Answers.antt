use Rattle.std.proofs.Common.{◌*◌}
use Rattle.aea_gauss_words.specs.Words.{bit_matrix}
use Rattle.aea_gauss_words.proofs.Elimination.{sums_through}
use Rattle.aea_gauss_words.proofs.Grouping.{new_sums, new_reduced}
use Rattle.aea_gauss_words.proofs.by_tables.reduce_group.Goals as goal

pub returns-clause-sums : goal.returns-clause-sums
returns-clause-sums c =
    let now = c.reduce_within.new.words in
    let new = c.add_group.new.words in
    sums_through c.args.rows (64 * c.args.wide) (bit_matrix c.args.wide c.args.words.now) (bit_matrix c.args.wide now) (bit_matrix c.args.wide new) c.reduce_within.ensures.sums
    (new_sums c.args.rows c.args.wide c.args.lo now new c.find_leads.new.leads c.requires.group c.find_leads.ensures c.add_group.ensures c.reduce_within.ensures.alone)

pub returns-clause-reduced : goal.returns-clause-reduced
returns-clause-reduced c before =
    new_reduced c.args.rows c.args.wide c.args.lo c.reduce_within.new.words c.add_group.new.words c.find_leads.new.leads c.requires.group c.find_leads.ensures c.add_group.ensures
    c.reduce_within.ensures.alone (c.reduce_within.ensures.kept before)
