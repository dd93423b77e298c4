use Rattle.std.proofs.Common.{◌≡◌, ◌^◌, [], ◌∷◌, ◌++◌, ℕ, ◌<◌, ap, arith}
use Rattle.std.specs.Int.{w32, to_be_bytes}
use Rattle.aea_messages.specs.declared.message.Message.TheVariants.{Patrol}
use Rattle.aea_messages.proofs.Parts.{goes_patrol_first, goes_patrol_count}
use Rattle.aea_messages.proofs.Taken.{took_none, took_trans, behind_lacks, behind_ok}
use Rattle.aea_messages.proofs.kinds.read_patrol.Goals as goal

pub returns-in-Err-clause-reads : goal.returns-in-Err-clause-reads
returns-in-Err-clause-reads g c =
    let L0 = (g.S.Source.state c.args.source.now).left in
    let L1 = (g.S.Source.state c.take_long.new.source).left in
    behind_lacks L0 L0 L1 c.args.at.now c.args.at.now c.take_long.new.at 4 6 [] [] c.in-Err.fault (took_none L0 c.args.at.now) c.in-Err.ensures.reads goes_patrol_first

pub returns-in-Err-take_long-clause-reads : goal.returns-in-Err-take_long-clause-reads
returns-in-Err-take_long-clause-reads g c =
    let L0 = (g.S.Source.state c.args.source.now).left in
    let L1 = (g.S.Source.state c.take_long.new.source).left in
    let L2 = (g.S.Source.state c.take_long-2.new.source).left in
    let fits : c.in-Ok.first < 2 ^ 32 = omega arith in
    behind_lacks L0 L1 L2 c.args.at.now c.take_long.new.at c.take_long-2.new.at 4 6 [] (to_be_bytes w32 c.in-Ok.first) c.in-Err-take_long.fault c.in-Ok.ensures.reads c.in-Err-take_long.ensures.reads (goes_patrol_count c.in-Ok.first fits)

pub returns-clause-reads : goal.returns-clause-reads
returns-clause-reads g c =
    let L0 = (g.S.Source.state c.args.source.now).left in
    let L1 = (g.S.Source.state c.take_long.new.source).left in
    let L2 = (g.S.Source.state c.take_long-2.new.source).left in
    let first = c.in-Ok.first in
    let count = c.in-Ok-take_long.count in
    let fits : first < 2 ^ 32 = omega arith in
    let more : count < 2 ^ 32 = omega arith in
    behind_ok L0 L2 c.args.at.now c.take_long-2.new.at 6 [] (to_be_bytes w32 first ++ to_be_bytes w32 count) (Patrol first count)
    (record { fields = (fits, more); short = tt })
    (took_trans L0 L1 L2 c.args.at.now c.take_long.new.at c.take_long-2.new.at (to_be_bytes w32 first) (to_be_bytes w32 count) c.in-Ok.ensures.reads c.in-Ok-take_long.ensures.reads)
    (ap (λ (k : ℕ). 6 ∷ (to_be_bytes w32 first ++ to_be_bytes w32 k)) (let e : count ≡ count = omega arith in e))
