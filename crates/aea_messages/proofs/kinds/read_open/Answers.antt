use Rattle.std.proofs.Common.{◌≡◌, ◌^◌, [], ◌∷◌, ◌++◌, ℕ, ◌<◌, length, sym, ◌∙◌, ap, subst, arith}
use Rattle.std.specs.Int.{w16, to_be_bytes}
use Rattle.aea_messages.specs.declared.message.Message.TheVariants.{Open}
use Rattle.aea_messages.specs.Fields.{Lacks}
use Rattle.aea_messages.proofs.Parts.{goes_open, goes_open_length, goes_open_name}
use Rattle.aea_messages.proofs.Taken.{took_none, took_trans, behind_lacks, behind_ok}
use Rattle.aea_messages.proofs.kinds.read_open.Goals as goal

pub returns-in-Err-clause-reads : goal.returns-in-Err-clause-reads
returns-in-Err-clause-reads g c =
    let L0 = (g.S.Source.state c.args.source.now).left in
    let L1 = (g.S.Source.state c.take_byte.new.source).left in
    behind_lacks L0 L0 L1 c.args.at.now c.args.at.now c.take_byte.new.at 1 1 [] [] c.in-Err.fault (took_none L0 c.args.at.now) c.in-Err.ensures.reads goes_open

pub returns-in-Err-take_short-clause-reads : goal.returns-in-Err-take_short-clause-reads
returns-in-Err-take_short-clause-reads g c =
    let L0 = (g.S.Source.state c.args.source.now).left in
    let L1 = (g.S.Source.state c.take_byte.new.source).left in
    let L2 = (g.S.Source.state c.take_short.new.source).left in
    let fits : c.in-Ok.slot < 2 ^ 8 = omega arith in
    behind_lacks L0 L1 L2 c.args.at.now c.take_byte.new.at c.take_short.new.at 2 1 [] (c.in-Ok.slot ∷ []) c.in-Err-take_short.fault c.in-Ok.ensures.reads c.in-Err-take_short.ensures.reads (goes_open_length c.in-Ok.slot fits)

pub returns-in-Err-take_name-clause-reads : goal.returns-in-Err-take_name-clause-reads
returns-in-Err-take_name-clause-reads g c =
    let L0 = (g.S.Source.state c.args.source.now).left in
    let L1 = (g.S.Source.state c.take_byte.new.source).left in
    let L2 = (g.S.Source.state c.take_short.new.source).left in
    let L3 = (g.S.Source.state c.take_name.new.source).left in
    let fits : c.in-Ok.slot < 2 ^ 8 = omega arith in
    let most : c.in-Ok-take_short.long < 2 ^ 16 = omega arith in
    behind_lacks L0 L2 L3 c.args.at.now c.take_short.new.at c.take_name.new.at c.in-Ok-take_short.long 1 [] (c.in-Ok.slot ∷ to_be_bytes w16 c.in-Ok-take_short.long) c.in-Err-take_name.fault
    (took_trans L0 L1 L2 c.args.at.now c.take_byte.new.at c.take_short.new.at (c.in-Ok.slot ∷ []) (to_be_bytes w16 c.in-Ok-take_short.long) c.in-Ok.ensures.reads c.in-Ok-take_short.ensures.reads)
    (subst (λ (k : ℕ). Lacks L2 L3 c.take_short.new.at c.take_name.new.at k c.in-Err-take_name.fault) c.from.ensures c.in-Err-take_name.ensures.reads)
    (goes_open_name c.in-Ok.slot c.in-Ok-take_short.long fits most)

pub returns-clause-reads : goal.returns-clause-reads
returns-clause-reads g c =
    let L0 = (g.S.Source.state c.args.source.now).left in
    let L1 = (g.S.Source.state c.take_byte.new.source).left in
    let L2 = (g.S.Source.state c.take_short.new.source).left in
    let L3 = (g.S.Source.state c.take_name.new.source).left in
    let slot = c.in-Ok.slot in
    let long = c.in-Ok-take_short.long in
    let name = c.in-Ok-take_name.name in
    let fits : slot < 2 ^ 8 = omega arith in
    let most : long < 2 ^ 16 = omega arith in
    let wide : length name ≡ long = c.in-Ok-take_name.ensures.wide ∙ c.from.ensures in
    behind_ok L0 L3 c.args.at.now c.take_name.new.at 1 [] ((slot ∷ to_be_bytes w16 long) ++ name) (Open slot name)
    (record { fields = (fits, c.in-Ok-take_name.ensures.bytes, subst (λ (k : ℕ). k < 2 ^ 16) (sym wide) most); short = tt })
    (took_trans L0 L2 L3 c.args.at.now c.take_short.new.at c.take_name.new.at (slot ∷ to_be_bytes w16 long) name
    (took_trans L0 L1 L2 c.args.at.now c.take_byte.new.at c.take_short.new.at (slot ∷ []) (to_be_bytes w16 long) c.in-Ok.ensures.reads c.in-Ok-take_short.ensures.reads)
    c.in-Ok-take_name.ensures.reads)
    (ap (λ (k : ℕ). 1 ∷ slot ∷ (to_be_bytes w16 k ++ name)) wide)
