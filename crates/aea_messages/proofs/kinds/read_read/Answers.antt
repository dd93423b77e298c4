use Rattle.std.proofs.Common.{◌≡◌, ◌^◌, [], ◌∷◌, ◌++◌, ℕ, ◌<◌, length, sym, ◌∙◌, ap, subst, arith}
use Rattle.std.specs.Int.{w16, to_be_bytes}
use Rattle.aea_messages.specs.declared.message.Message.TheVariants.{Read}
use Rattle.aea_messages.specs.Fields.{Lacks}
use Rattle.aea_messages.proofs.Parts.{goes_read_length, goes_read_name}
use Rattle.aea_messages.proofs.Taken.{took_none, took_trans, behind_lacks, behind_ok}
use Rattle.aea_messages.proofs.kinds.read_read.Goals as goal

pub returns-in-Err-clause-reads : goal.returns-in-Err-clause-reads
returns-in-Err-clause-reads g c =
    let L0 = (g.S.Source.state c.args.source.now).left in
    let L1 = (g.S.Source.state c.take_short.new.source).left in
    behind_lacks L0 L0 L1 c.args.at.now c.args.at.now c.take_short.new.at 2 5 [] [] c.in-Err.fault (took_none L0 c.args.at.now) c.in-Err.ensures.reads goes_read_length

pub returns-in-Err-take_name-clause-reads : goal.returns-in-Err-take_name-clause-reads
returns-in-Err-take_name-clause-reads g c =
    let L0 = (g.S.Source.state c.args.source.now).left in
    let L1 = (g.S.Source.state c.take_short.new.source).left in
    let L2 = (g.S.Source.state c.take_name.new.source).left in
    let most : c.in-Ok.long < 2 ^ 16 = omega arith in
    behind_lacks L0 L1 L2 c.args.at.now c.take_short.new.at c.take_name.new.at c.in-Ok.long 5 [] (to_be_bytes w16 c.in-Ok.long) c.in-Err-take_name.fault c.in-Ok.ensures.reads
    (subst (λ (k : ℕ). Lacks L1 L2 c.take_short.new.at c.take_name.new.at k c.in-Err-take_name.fault) c.from.ensures c.in-Err-take_name.ensures.reads)
    (goes_read_name c.in-Ok.long most)

pub returns-clause-reads : goal.returns-clause-reads
returns-clause-reads g c =
    let L0 = (g.S.Source.state c.args.source.now).left in
    let L1 = (g.S.Source.state c.take_short.new.source).left in
    let L2 = (g.S.Source.state c.take_name.new.source).left in
    let long = c.in-Ok.long in
    let name = c.in-Ok-take_name.name in
    let most : long < 2 ^ 16 = omega arith in
    let wide : length name ≡ long = c.in-Ok-take_name.ensures.wide ∙ c.from.ensures in
    behind_ok L0 L2 c.args.at.now c.take_name.new.at 5 [] (to_be_bytes w16 long ++ name) (Read name)
    (record { fields = (c.in-Ok-take_name.ensures.bytes, subst (λ (k : ℕ). k < 2 ^ 16) (sym wide) most); short = tt })
    (took_trans L0 L1 L2 c.args.at.now c.take_short.new.at c.take_name.new.at (to_be_bytes w16 long) name c.in-Ok.ensures.reads c.in-Ok-take_name.ensures.reads)
    (ap (λ (k : ℕ). 5 ∷ (to_be_bytes w16 k ++ name)) wide)
