use Rattle.std.proofs.Common.{◌≡◌, ◌≤◌, ◌+◌, ◌*◌, ◌⊎◌, inl, inr, arith}
use Rattle.std.proofs.lemmas.Bool.{cases_lt}
use Rattle.aea_gauss_words.proofs.Adding.{part_next, part_all}
use Rattle.aea_gauss_words.proofs.chunks.add_chunk.Goals as goal

pub loop-strip-preserved : goal.loop-strip-preserved
loop-strip-preserved c =
    let strip = c.loop-strip.strip in
    let at = strip * 64 in
    let len = c.lesser-len.result in
    let wide = c.args.wide in
    let less = c.loop-strip-test.true in
    let is = c.lesser-len.ensures in
    let inside : at + len ≤ wide = omega arith in
    let next : (at + len ≡ (strip + 1) * 64) ⊎ (wide ≤ at + len) × (wide ≤ (strip + 1) * 64) =
    elim (cases_lt wide (at + 64)) [ inl short ↦ inr (omega arith, omega arith) | inr long ↦ inl (omega arith) ] in
    part_next c.args.rows wide c.args.lo c.args.leads.now c.args.from c.args.count at len c.fill_tables.new.table c.pick_rows.new.picks c.args.words.now c.loop-strip.words c.add_sums.new.words
    c.requires.group inside c.loop-strip.invariant c.fill_tables.ensures c.pick_rows.ensures c.add_sums.ensures ((strip + 1) * 64) next

pub returns : goal.returns
returns c =
    let past = c.loop-strip-test.false in
    part_all c.args.rows c.args.wide c.args.lo c.args.leads.now c.args.from (c.args.from + c.args.count) (c.loop-strip.strip * 64) c.args.words.now c.loop-strip.words (omega arith) c.loop-strip.invariant
