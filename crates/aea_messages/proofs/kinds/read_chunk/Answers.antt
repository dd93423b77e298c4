use Rattle.std.proofs.Common.{◌≡◌, ◌≤◌, ◌^◌, [], ◌∷◌, ◌++◌, Err, ℕ, ◌<◌, length, ap, arith}
use Rattle.std.specs.Int.{w32, to_be_bytes}
use Rattle.std.proofs.lemmas.Bool.Decides.{nat_tests}
use Rattle.aea_messages.specs.declared.message.Message.TheVariants.{Chunk}
use Rattle.aea_messages.proofs.Parts.{goes_chunk, goes_chunk_length, goes_chunk_bytes}
use Rattle.aea_messages.proofs.Taken.{took_none, took_trans, behind_lacks, behind_short, behind_ok, behind_long}
use Rattle.aea_messages.proofs.kinds.read_chunk.Goals as goal

pub returns-in-Err-clause-reads : goal.returns-in-Err-clause-reads
returns-in-Err-clause-reads g c =
    let L0 = (g.S.Source.state c.args.source.now).left in
    let L1 = (g.S.Source.state c.take_byte.new.source).left in
    behind_lacks L0 L0 L1 c.args.at.now c.args.at.now c.take_byte.new.at 1 2 [] [] c.in-Err.fault (took_none L0 c.args.at.now) c.in-Err.ensures.reads goes_chunk

pub returns-in-Err-take_long-clause-reads : goal.returns-in-Err-take_long-clause-reads
returns-in-Err-take_long-clause-reads g c =
    let L0 = (g.S.Source.state c.args.source.now).left in
    let L1 = (g.S.Source.state c.take_byte.new.source).left in
    let L2 = (g.S.Source.state c.take_long.new.source).left in
    let fits : c.in-Ok.slot < 2 ^ 8 = omega arith in
    behind_short L0 L1 L2 c.args.at.now c.take_byte.new.at c.take_long.new.at 4 2 [] (c.in-Ok.slot ∷ []) c.in-Err-take_long.fault c.in-Ok.ensures.reads c.in-Err-take_long.ensures.reads
    (λ e. c.in-Err-take_long.ensures.memory (ap Err e))
    (goes_chunk_length c.in-Ok.slot fits)

pub returns-then-long-gt-GREATEST_CHUNK-clause-reads : goal.returns-then-long-gt-GREATEST_CHUNK-clause-reads
returns-then-long-gt-GREATEST_CHUNK-clause-reads g c =
    let L0 = (g.S.Source.state c.args.source.now).left in
    let L1 = (g.S.Source.state c.take_byte.new.source).left in
    let L2 = (g.S.Source.state c.take_long.new.source).left in
    let slot = c.in-Ok.slot in
    let long = c.in-Ok-take_long.long in
    let fits : long < 2 ^ 32 = omega arith in
    let many : 65536 < long = grind (arith, nat_tests, c.if-long-gt-GREATEST_CHUNK.true) in
    behind_long L0 L2 c.args.at.now c.take_long.new.at c.take_byte.new.at slot long
    (took_trans L0 L1 L2 c.args.at.now c.take_byte.new.at c.take_long.new.at (slot ∷ []) (to_be_bytes w32 long) c.in-Ok.ensures.reads c.in-Ok-take_long.ensures.reads)
    (omega (arith, c.in-Ok.ensures.reads.counted)) many fits

pub returns-in-Err-take_chunk-clause-reads : goal.returns-in-Err-take_chunk-clause-reads
returns-in-Err-take_chunk-clause-reads g c =
    let L0 = (g.S.Source.state c.args.source.now).left in
    let L1 = (g.S.Source.state c.take_byte.new.source).left in
    let L2 = (g.S.Source.state c.take_long.new.source).left in
    let L3 = (g.S.Source.state c.take_chunk.new.source).left in
    let slot = c.in-Ok.slot in
    let long = c.in-Ok-take_long.long in
    let fits : slot < 2 ^ 8 = omega arith in
    let most : long ≤ 65536 = grind (arith, nat_tests, c.if-long-gt-GREATEST_CHUNK.false) in
    behind_lacks L0 L2 L3 c.args.at.now c.take_long.new.at c.take_chunk.new.at long 2 [] (slot ∷ to_be_bytes w32 long) c.in-Err-take_chunk.fault
    (took_trans L0 L1 L2 c.args.at.now c.take_byte.new.at c.take_long.new.at (slot ∷ []) (to_be_bytes w32 long) c.in-Ok.ensures.reads c.in-Ok-take_long.ensures.reads)
    c.in-Err-take_chunk.ensures.reads
    (goes_chunk_bytes slot long fits most)

pub returns-clause-reads : goal.returns-clause-reads
returns-clause-reads g c =
    let L0 = (g.S.Source.state c.args.source.now).left in
    let L1 = (g.S.Source.state c.take_byte.new.source).left in
    let L2 = (g.S.Source.state c.take_long.new.source).left in
    let L3 = (g.S.Source.state c.take_chunk.new.source).left in
    let slot = c.in-Ok.slot in
    let long = c.in-Ok-take_long.long in
    let bytes = c.in-Ok-take_chunk.bytes in
    let fits : slot < 2 ^ 8 = omega arith in
    let most : long ≤ 65536 = grind (arith, nat_tests, c.if-long-gt-GREATEST_CHUNK.false) in
    let wide : length bytes ≡ long = c.in-Ok-take_chunk.ensures.wide in
    behind_ok L0 L3 c.args.at.now c.take_chunk.new.at 2 [] ((slot ∷ to_be_bytes w32 long) ++ bytes) (Chunk slot bytes)
    (record { fields = (fits, c.in-Ok-take_chunk.ensures.bytes, (let e : length bytes < 2 ^ 32 = omega (arith, wide, most) in e)); short = (let e : length bytes ≤ 65536 = omega (arith, wide, most) in e) })
    (took_trans L0 L2 L3 c.args.at.now c.take_long.new.at c.take_chunk.new.at (slot ∷ to_be_bytes w32 long) bytes
    (took_trans L0 L1 L2 c.args.at.now c.take_byte.new.at c.take_long.new.at (slot ∷ []) (to_be_bytes w32 long) c.in-Ok.ensures.reads c.in-Ok-take_long.ensures.reads)
    c.in-Ok-take_chunk.ensures.reads)
    (ap (λ (k : ℕ). 2 ∷ slot ∷ (to_be_bytes w32 k ++ bytes)) wide)
