use Rattle.std.proofs.Common.{◌<◌, ◌++◌, ℕ, ◌&&◌, length, sym, subst, arith}
use Rattle.std.specs.Prelude.{nat_lt}
use Rattle.aea_sweep.specs.Heads.{head_in}
use Rattle.aea_sweep.specs.Tables.{AddsRow, Exchanges, Clears}
use Rattle.aea_sweep.proofs.Behind.{adds-behind, exchanges-behind, clears-behind, low_hits}
use Rattle.aea_sweep.proofs.Meeting.{meet_none, meet_some}
use Rattle.aea_sweep.proofs.sweep.meet_parity.Goals as goal

pub returns-in-None-clause-met : goal.returns-in-None-clause-met
returns-in-None-clause-met c l known closed i q b same at is_known s =
    meet_none l known i q c.args.place b at is_known (c.args.words.now.items ++ closed) c.args.heads.now s
    (λ r less. c.in-None.ensures r (subst (λ (n : ℕ). r < n) (sym same) less))

pub returns-in_ok-spread-in-Some-clause-met : goal.returns-in_ok-spread-in-Some-clause-met
returns-in_ok-spread-in-Some-clause-met c l known closed i q b same at is_known s =
    let r = c.in-Some.r in
    let spare = c.args.spare in
    let words = c.args.words.now.items in
    let mid = c.exchange.new.words.items in
    let last = c.spread.new.words.items in
    let rows = c.requires.sized.words_long in
    let heads = c.requires.sized.heads_long in
    let less = c.in-Some.ensures.0 in
    let long = c.exchange.ensures.size.words_long in
    let longer = c.in_ok-spread-in-Some.ensures.size.words_long in
    let in_words : spare < length words = omega arith in
    let in_mid : spare < length mid = omega arith in
    let in_last : spare < length last = omega arith in
    meet_some l known i q c.args.place b at is_known r (subst (λ (n : ℕ). r < n) same c.in-Some.ensures.0)
    (words ++ closed) (mid ++ closed) (last ++ closed) (c.clear.new.words.items ++ closed)
    c.args.heads.now c.exchange.new.heads c.spread.new.heads c.clear.new.heads c.in-Some.ensures.1
    (subst (λ (n : ℕ). Exchanges n r (words ++ closed) (mid ++ closed) c.args.heads.now c.exchange.new.heads) same
    (exchanges-behind spare r words mid closed c.args.heads.now c.exchange.new.heads in_words (omega arith) c.exchange.ensures))
    (subst (λ (n : ℕ). AddsRow n (λ k. nat_lt k n && head_in c.exchange.new.heads k c.args.place) (mid ++ closed) (last ++ closed) c.exchange.new.heads c.spread.new.heads) same
    (adds-behind spare (λ k. nat_lt k spare && head_in c.exchange.new.heads k c.args.place) mid last closed c.exchange.new.heads c.spread.new.heads in_mid
    (low_hits (λ k. head_in c.exchange.new.heads k c.args.place) spare (length mid) (omega arith))
    c.in_ok-spread-in-Some.ensures))
    (subst (λ (n : ℕ). Clears n (last ++ closed) (c.clear.new.words.items ++ closed) c.spread.new.heads c.clear.new.heads) same
    (clears-behind spare last c.clear.new.words.items closed c.spread.new.heads c.clear.new.heads in_last c.clear.ensures))
    s
