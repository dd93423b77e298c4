use Rattle.std.proofs.Common.{◌≡◌, ◌≤◌, ◌+◌, ◌*◌, ◌^◌, ◌%◌, suc, ap, subst, arith, get_or}
use Rattle.std.proofs.lemmas.Nat.{one_shl}
use Rattle.aea_gauss_words.specs.Tables.{word_of, IsTable}
use Rattle.aea_gauss_words.proofs.Tabling.{Filling, filling_more, pow_small}
use Rattle.aea_gauss_words.proofs.tables.fill_table.Goals as goal

pub loop-s-preserved : goal.loop-s-preserved
loop-s-preserved c =
    let s = c.loop-s.s in
    let words = c.args.words.now in
    let less = c.loop-s-test.true in
    let size = (1 * 2 ^ s) % 2 ^ 64 in
    let is : size ≡ 2 ^ s = one_shl s 64 (omega arith) in
    let most : 2 ^ s ≤ 128 = pow_small s less in
    let begin = (c.args.first + s) * c.args.wide + c.args.at in
    let next : suc s ≡ s + 1 = omega arith in
    subst (λ n. Filling c.args.base n c.args.len (λ s k. word_of c.args.wide words (c.args.first + s) (c.args.at + k)) c.args.table.now c.double_entries.new.table) next
    (filling_more c.args.base s c.args.len size begin (λ s k. word_of c.args.wide words (c.args.first + s) (c.args.at + k)) words c.args.table.now c.loop-s.table c.double_entries.new.table
    less c.requires.len is (omega arith) c.loop-s.invariant c.double_entries.auto.table c.double_entries.ensures.kept c.double_entries.ensures.added
    (λ k k_less. (let at : begin + k ≡ (c.args.first + s) * c.args.wide + (c.args.at + k) = omega arith in ap (λ i. get_or words i 0) at)))

pub returns-clause-table : goal.returns-clause-table
returns-clause-table c =
    let past = c.loop-s-test.false in
    let all : c.loop-s.s ≡ 8 = omega arith in
    subst (λ n. IsTable c.args.base n c.args.len (λ s k. word_of c.args.wide c.args.words.now (c.args.first + s) (c.args.at + k)) c.loop-s.table) all c.loop-s.invariant.sums
