use Rattle.std.proofs.Common.{sym, ◌∙◌}
use Rattle.aea_gauss.proofs.Joining.{linked}
use Rattle.aea_gauss.proofs.labels.join.Goals as goal

pub returns-then-first-second-clause-follows : goal.returns-then-first-second-clause-follows
returns-then-first-second-clause-follows c label follows =
    let link = linked c.find_root-second.new.parents c.find_root-second.result c.find_root-first.result label c.find_root-second.ensures.root follows in
    let second = c.find_root-second.ensures.follows label link.0 in
    let first = c.find_root-first.ensures.follows label second.0 in
    (first.0, first.1 ∙ sym link.1 ∙ sym second.1)

pub returns-else-first-second-clause-follows : goal.returns-else-first-second-clause-follows
returns-else-first-second-clause-follows c label follows =
    let root = c.find_root-second.ensures.roots c.find_root-first.result c.find_root-first.ensures.root in
    let link = linked c.find_root-second.new.parents c.find_root-first.result c.find_root-second.result label root follows in
    let second = c.find_root-second.ensures.follows label link.0 in
    let first = c.find_root-first.ensures.follows label second.0 in
    (first.0, first.1 ∙ link.1 ∙ sym second.1)
