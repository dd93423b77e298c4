use Rattle.std.proofs.Common.{◌≡◌, ℕ, ◌+◌, ◌<◌, ◌≤◌, List, ◌++◌, length, take, drop, sym, ◌∙◌, ap, subst, arith}
use Rattle.std.specs.Int.{w16, w64, from_be_bytes}
use Rattle.std.specs.Io.KnownBytes.{Consumes}
use Rattle.std.proofs.lemmas.Bool.Decides.{nat_tests}
use Rattle.std.proofs.lemmas.List.{length-take}
use Rattle.aea_io.specs.Taken.{TakesFirst}
use Rattle.aea_records.specs.TableLaws.{AreBytes}
use Rattle.aea_append.specs.Frames.{frame_head}
use Rattle.aea_append.proofs.Takings.{counts_more, counts_then}
use Rattle.aea_append.proofs.Frames.{halves, revealed_cut, revealed_whole, taken_whole, byte_below, same_long, same_size}
use Rattle.aea_append.proofs.frame.read_head.Goals as goal

pub returns-in-Err-read_full-clause-counted : goal.returns-in-Err-read_full-clause-counted
returns-in-Err-read_full-clause-counted g c =
    let number : c.from-long.result ≡ from_be_bytes w16 c.read_full.new.buf = c.from-long.ensures ∙ c.from_be_bytes.ensures in
    let most = c.is_no_length.ensures.no c.if-is_no_length.false in
    let two : length c.read_full.new.buf ≡ 2 = c.read_full.auto.buf in
    let more : length c.read_full-2.new.buf ≡ c.from-long.result + 8 = omega (arith, c.read_full-2.auto.buf, length-take (c.from-long.result + 8) c.args.buffer.now, c.requires.buffer, most.1) in
    counts_more (g.S.Source.state c.args.source.now).left (g.S.Source.state c.read_full-2.new.source).left c.args.at.now c.read_full-2.new.at (length c.read_full.new.buf + length c.read_full-2.new.buf) 265
    (counts_then (g.S.Source.state c.args.source.now).left (g.S.Source.state c.read_full.new.source).left (g.S.Source.state c.read_full-2.new.source).left c.args.at.now c.read_full.new.at c.read_full-2.new.at (length c.read_full.new.buf) (length c.read_full-2.new.buf) c.read_full.ensures.counted c.read_full-2.ensures.counted)
    (omega (arith, two, more, most.1))

pub returns-then-taken-end-clause-counted : goal.returns-then-taken-end-clause-counted
returns-then-taken-end-clause-counted g c =
    let number : c.from-long.result ≡ from_be_bytes w16 c.read_full.new.buf = c.from-long.ensures ∙ c.from_be_bytes.ensures in
    let most = c.is_no_length.ensures.no c.if-is_no_length.false in
    let two : length c.read_full.new.buf ≡ 2 = c.read_full.auto.buf in
    let more : length c.read_full-2.new.buf ≡ c.from-long.result + 8 = omega (arith, c.read_full-2.auto.buf, length-take (c.from-long.result + 8) c.args.buffer.now, c.requires.buffer, most.1) in
    counts_more (g.S.Source.state c.args.source.now).left (g.S.Source.state c.read_full-2.new.source).left c.args.at.now c.read_full-2.new.at (length c.read_full.new.buf + length c.read_full-2.new.buf) 265
    (counts_then (g.S.Source.state c.args.source.now).left (g.S.Source.state c.read_full.new.source).left (g.S.Source.state c.read_full-2.new.source).left c.args.at.now c.read_full.new.at c.read_full-2.new.at (length c.read_full.new.buf) (length c.read_full-2.new.buf) c.read_full.ensures.counted c.read_full-2.ensures.counted)
    (omega (arith, two, more, most.1))

pub returns-clause-counted : goal.returns-clause-counted
returns-clause-counted g c =
    let number : c.from-long.result ≡ from_be_bytes w16 c.read_full.new.buf = c.from-long.ensures ∙ c.from_be_bytes.ensures in
    let most = c.is_no_length.ensures.no c.if-is_no_length.false in
    let two : length c.read_full.new.buf ≡ 2 = c.read_full.auto.buf in
    let more : length c.read_full-2.new.buf ≡ c.from-long.result + 8 = omega (arith, c.read_full-2.auto.buf, length-take (c.from-long.result + 8) c.args.buffer.now, c.requires.buffer, most.1) in
    counts_more (g.S.Source.state c.args.source.now).left (g.S.Source.state c.read_full-2.new.source).left c.args.at.now c.read_full-2.new.at (length c.read_full.new.buf + length c.read_full-2.new.buf) 265
    (counts_then (g.S.Source.state c.args.source.now).left (g.S.Source.state c.read_full.new.source).left (g.S.Source.state c.read_full-2.new.source).left c.args.at.now c.read_full.new.at c.read_full-2.new.at (length c.read_full.new.buf) (length c.read_full-2.new.buf) c.read_full.ensures.counted c.read_full-2.ensures.counted)
    (omega (arith, two, more, most.1))

pub returns-then-taken-end-clause-revealed : goal.returns-then-taken-end-clause-revealed
returns-then-taken-end-clause-revealed g c stream is =
    let number : c.from-long.result ≡ from_be_bytes w16 c.read_full.new.buf = c.from-long.ensures ∙ c.from_be_bytes.ensures in
    let most = c.is_no_length.ensures.no c.if-is_no_length.false in
    let two : length c.read_full.new.buf ≡ 2 = c.read_full.auto.buf in
    let more : length c.read_full-2.new.buf ≡ c.from-long.result + 8 = omega (arith, c.read_full-2.auto.buf, length-take (c.from-long.result + 8) c.args.buffer.now, c.requires.buffer, most.1) in
    let full : 2 ≤ c.in-Ok.count = grind (arith, nat_tests, c.if-count-lt2.false) in
    let short : c.in-Ok-read_full.taken < c.from-long.result + 8 = grind (arith, nat_tests, c.if-taken-end.true) in
    revealed_cut (g.S.Source.state c.args.source.now).left (g.S.Source.state c.read_full.new.source).left (g.S.Source.state c.read_full-2.new.source).left stream c.read_full.new.buf c.read_full-2.new.buf c.in-Ok.count c.in-Ok-read_full.taken c.from-long.result is c.in-Ok.ensures.fills two full number most.0 most.1 c.in-Ok-read_full.ensures.fills more short

pub returns-clause-revealed : goal.returns-clause-revealed
returns-clause-revealed g c stream is =
    let number : c.from-long.result ≡ from_be_bytes w16 c.read_full.new.buf = c.from-long.ensures ∙ c.from_be_bytes.ensures in
    let most = c.is_no_length.ensures.no c.if-is_no_length.false in
    let two : length c.read_full.new.buf ≡ 2 = c.read_full.auto.buf in
    let more : length c.read_full-2.new.buf ≡ c.from-long.result + 8 = omega (arith, c.read_full-2.auto.buf, length-take (c.from-long.result + 8) c.args.buffer.now, c.requires.buffer, most.1) in
    let full : 2 ≤ c.in-Ok.count = grind (arith, nat_tests, c.if-count-lt2.false) in
    let whole : c.from-long.result + 8 ≤ c.in-Ok-read_full.taken = grind (arith, nat_tests, c.if-taken-end.false) in
    let rest = drop (c.from-long.result + 8) c.args.buffer.now in
    let parts = halves c.read_full-2.new.buf rest c.from-long.result more in
    let second : TakesFirst (g.S.Source.state c.read_full.new.source).left (g.S.Source.state c.read_full-2.new.source).left c.in-Ok-read_full.taken (take c.from-long.result c.read_full-2.new.buf ++ drop c.from-long.result c.read_full-2.new.buf) =
    subst (TakesFirst (g.S.Source.state c.read_full.new.source).left (g.S.Source.state c.read_full-2.new.source).left c.in-Ok-read_full.taken) (sym parts.0) c.in-Ok-read_full.ensures.fills in
    let value : c.number_at-size.result ≡ from_be_bytes w64 (drop c.from-long.result c.read_full-2.new.buf) = c.number_at-size.ensures.number ∙ ap (from_be_bytes w64) parts.4 in
    let t = revealed_whole (g.S.Source.state c.args.source.now).left (g.S.Source.state c.read_full.new.source).left (g.S.Source.state c.read_full-2.new.source).left stream c.read_full.new.buf (take c.from-long.result c.read_full-2.new.buf) (drop c.from-long.result c.read_full-2.new.buf) c.in-Ok.count c.in-Ok-read_full.taken c.from-long.result c.number_at-size.result is c.in-Ok.ensures.fills two full number most.0 most.1
    second parts.1 parts.2 whole value in
    (t.0, parts.3 ∙ t.1, t.2, t.3)

pub returns-clause-whole : goal.returns-clause-whole
returns-clause-whole g c long size is =
    let number : c.from-long.result ≡ from_be_bytes w16 c.read_full.new.buf = c.from-long.ensures ∙ c.from_be_bytes.ensures in
    let most = c.is_no_length.ensures.no c.if-is_no_length.false in
    let two : length c.read_full.new.buf ≡ 2 = c.read_full.auto.buf in
    let more : length c.read_full-2.new.buf ≡ c.from-long.result + 8 = omega (arith, c.read_full-2.auto.buf, length-take (c.from-long.result + 8) c.args.buffer.now, c.requires.buffer, most.1) in
    let full : 2 ≤ c.in-Ok.count = grind (arith, nat_tests, c.if-count-lt2.false) in
    let whole : c.from-long.result + 8 ≤ c.in-Ok-read_full.taken = grind (arith, nat_tests, c.if-taken-end.false) in
    let rest = drop (c.from-long.result + 8) c.args.buffer.now in
    let parts = halves c.read_full-2.new.buf rest c.from-long.result more in
    let second : TakesFirst (g.S.Source.state c.read_full.new.source).left (g.S.Source.state c.read_full-2.new.source).left c.in-Ok-read_full.taken (take c.from-long.result c.read_full-2.new.buf ++ drop c.from-long.result c.read_full-2.new.buf) =
    subst (TakesFirst (g.S.Source.state c.read_full.new.source).left (g.S.Source.state c.read_full-2.new.source).left c.in-Ok-read_full.taken) (sym parts.0) c.in-Ok-read_full.ensures.fills in
    let value : c.number_at-size.result ≡ from_be_bytes w64 (drop c.from-long.result c.read_full-2.new.buf) = c.number_at-size.ensures.number ∙ ap (from_be_bytes w64) parts.4 in
    let name = take c.from-long.result c.read_full-2.new.buf in
    let l : c.from-long.result ≡ long = same_long c.from-long.result long c.number_at-size.result size is in
    let z : c.number_at-size.result ≡ size = same_size c.from-long.result long c.number_at-size.result size is in
    let taken : Consumes (g.S.Source.state c.args.source.now).left (g.S.Source.state c.read_full-2.new.source).left (frame_head (take c.from-long.result c.read_full-2.new.buf) c.number_at-size.result) = taken_whole (g.S.Source.state c.args.source.now).left (g.S.Source.state c.read_full.new.source).left (g.S.Source.state c.read_full-2.new.source).left c.read_full.new.buf (take c.from-long.result c.read_full-2.new.buf) (drop c.from-long.result c.read_full-2.new.buf) c.in-Ok.count c.in-Ok-read_full.taken c.from-long.result c.number_at-size.result c.in-Ok.ensures.fills two (byte_below c.read_full.new.buf c.are_bytes.ensures) full number
    second parts.1 parts.2 whole (byte_below (drop c.from-long.result c.read_full-2.new.buf) (subst AreBytes parts.4 c.number_at-size.ensures.bytes)) value in
    let named : take long (c.read_full-2.new.buf ++ rest) ≡ name = ap (λ (k : ℕ). take k (c.read_full-2.new.buf ++ rest)) (sym l) ∙ parts.3 in
    let a = c.in-Ok.ensures.exact in
    let b = c.in-Ok-read_full.ensures.exact in
    let d = c.in-Ok.ensures.fills.within in
    let e = c.in-Ok-read_full.ensures.fills.within in (
      omega (arith, l, most.0),
      omega (arith, l, most.1),
      ap length named ∙ parts.1 ∙ l,
      subst (λ (k : ℕ). Consumes (g.S.Source.state c.args.source.now).left (g.S.Source.state c.read_full-2.new.source).left (frame_head (take long (c.read_full-2.new.buf ++ rest)) k)) z
          (subst (λ (n : List ℕ). Consumes (g.S.Source.state c.args.source.now).left (g.S.Source.state c.read_full-2.new.source).left (frame_head n c.number_at-size.result)) (sym named) taken),
      omega (arith, a, b, d, e, two, more, full, whole, l),
    )
