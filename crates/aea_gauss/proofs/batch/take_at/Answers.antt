use Rattle.std.proofs.Common.{◌<◌, length, arith}
use Rattle.aea_gauss.proofs.Solving.{batch_left, taken_out}
use Rattle.aea_gauss.proofs.batch.take_at.Goals as goal

pub returns-clause-batch : goal.returns-clause-batch
returns-clause-batch c l known is =
    let wanted = c.args.batch.now.wanted in
    let lists = c.args.batch.now.lists in
    let below : c.args.k < length lists.items = (let same = c.requires.long in let inside = c.requires.inside in omega arith) in
    batch_left l known c.args.batch.now (record { wanted = c.swap_remove-block.new.self; lists = c.swap_remove.new.self }) c.args.k c.requires.inside
    (taken_out wanted.items c.swap_remove-block.new.self.items c.args.k c.swap_remove-block.result c.requires.inside c.swap_remove-block.ensures.items)
    (taken_out lists.items c.swap_remove.new.self.items c.args.k c.swap_remove.result below c.swap_remove.ensures.items) is
