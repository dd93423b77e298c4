use Rattle.std.proofs.Common.{◌≡◌, ◌+◌, ◌*◌, subst, arith}
use Rattle.std.specs.Prelude.{min}
use Rattle.aea_gauss_words.specs.Tables.{AddsGroup}
use Rattle.aea_gauss_words.proofs.Adding.{group_more}
use Rattle.aea_gauss_words.proofs.chunks.add_group.Goals as goal

pub loop-chunk-preserved : goal.loop-chunk-preserved
loop-chunk-preserved c =
    let rows = c.args.rows in
    let chunk = c.loop-chunk.chunk in
    let from = chunk * 4096 in
    let count = c.lesser-count.result in
    let less = c.loop-chunk-test.true in
    let is = c.lesser-count.ensures in
    let here : min from rows ≡ from = omega arith in
    let next : from + count ≡ min ((chunk + 1) * 4096) rows = omega arith in
    subst (λ n. AddsGroup rows c.args.wide c.args.lo c.args.leads.now 0 n c.args.words.now c.add_chunk.new.words) next
    (group_more rows c.args.wide c.args.lo c.args.leads.now from (from + count) c.args.words.now c.loop-chunk.words c.add_chunk.new.words c.requires.group (omega arith) c.requires.inside
    (subst (λ n. AddsGroup rows c.args.wide c.args.lo c.args.leads.now 0 n c.args.words.now c.loop-chunk.words) here c.loop-chunk.invariant) c.add_chunk.ensures)

pub returns : goal.returns
returns c =
    let past = c.loop-chunk-test.false in
    let all : min (c.loop-chunk.chunk * 4096) c.args.rows ≡ c.args.rows = omega arith in
    subst (λ n. AddsGroup c.args.rows c.args.wide c.args.lo c.args.leads.now 0 n c.args.words.now c.loop-chunk.words) all c.loop-chunk.invariant
