use Rattle.std.proofs.Common.{◌≡◌, ◌+◌, ◌*◌, ◌^◌, ◌%◌, get_or, None, ap, arith}
use Rattle.std.proofs.lemmas.Nat.{one_shl}
use Rattle.aea_gauss_words.specs.Tables.{has_lead}
use Rattle.aea_gauss_words.proofs.Tabling.{place_below, pow_small}
use Rattle.aea_gauss_words.proofs.picks.pick.Goals as goal

pub overflow_add-place : goal.overflow_add-place
overflow_add-place c =
    let s = c.loop-s.s in
    let less = c.loop-s-test.true in
    let one : (1 * 2 ^ s) % 2 ^ 64 ≡ 2 ^ s = one_shl s 64 (omega arith) in
    let most = pow_small s less in
    let below = place_below (λ s. has_lead c.args.wide c.args.words.now c.args.row (get_or c.args.leads.now (8 * c.args.t + s) None)) s in
    let is = c.loop-s.invariant in
    omega arith

pub returns-clause-below : goal.returns-clause-below
returns-clause-below c =
    let past = c.loop-s-test.false in
    let all : c.loop-s.s ≡ 8 = omega arith in
    let below = place_below (λ s. has_lead c.args.wide c.args.words.now c.args.row (get_or c.args.leads.now (8 * c.args.t + s) None)) c.loop-s.s in
    let is = c.loop-s.invariant in
    let two : 2 ^ c.loop-s.s ≡ 256 = ap (λ n. 2 ^ n) all in
    omega arith
