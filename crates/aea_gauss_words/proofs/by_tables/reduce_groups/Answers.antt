use Rattle.std.proofs.Common.{◌≡◌, ◌+◌, ◌*◌, subst, arith}
use Rattle.aea_gauss_words.specs.Words.{bit_matrix}
use Rattle.aea_gauss_words.specs.Tables.{LeavesReduced}
use Rattle.aea_gauss_words.proofs.Grouping.{leaves_more}
use Rattle.aea_gauss_words.proofs.by_tables.reduce_groups.Goals as goal

pub loop-group-preserved : goal.loop-group-preserved
loop-group-preserved c =
    let rows = c.args.rows in
    let wide = c.args.wide in
    let n = c.loop-group.group * 32 in
    let next : n + 32 ≡ (c.loop-group.group + 1) * 32 = omega arith in
    subst (λ k. LeavesReduced rows (64 * wide) k (bit_matrix wide c.args.words.now) (bit_matrix wide c.reduce_group.new.words)) next
    (leaves_more rows (64 * wide) n (n + 32) (bit_matrix wide c.args.words.now) (bit_matrix wide c.loop-group.words) (bit_matrix wide c.reduce_group.new.words) c.loop-group.invariant
    c.reduce_group.ensures.sums c.reduce_group.ensures.reduced)
