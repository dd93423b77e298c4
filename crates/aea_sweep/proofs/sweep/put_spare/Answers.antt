use Rattle.std.proofs.Common.{◌<◌, ◌++◌, ℕ, ◌&&◌, length, subst, arith}
use Rattle.std.specs.Prelude.{nat_lt}
use Rattle.aea_sweep.specs.Heads.{head_in}
use Rattle.aea_sweep.specs.Tables.{AddsRow, Exchanges}
use Rattle.aea_sweep.proofs.Behind.{adds-behind, exchanges-behind, low_hits}
use Rattle.aea_sweep.proofs.Settling.{put_ready, sized_same}
use Rattle.aea_sweep.proofs.sweep.put_spare.Goals as goal

pub returns-clause-sized : goal.returns-clause-sized
returns-clause-sized c =
    sized_same c.args.spare c.spread.new.words.items c.exchange.new.words.items c.spread.new.heads c.exchange.new.heads c.exchange.ensures.size
    (sized_same c.args.spare c.args.words.now.items c.spread.new.words.items c.args.heads.now c.spread.new.heads c.in_ok-spread.ensures.size c.requires.sized)

pub returns-clause-put : goal.returns-clause-put
returns-clause-put c l known closed i q same s =
    let spare = c.args.spare in
    let words = c.args.words.now.items in
    let mid = c.spread.new.words.items in
    let rows = c.requires.sized.words_long in
    let heads = c.requires.sized.heads_long in
    let place = c.requires.place in
    let long = c.in_ok-spread.ensures.size.words_long in
    let in_words : spare < length words = omega arith in
    let in_mid : spare < length mid = omega arith in
    put_ready l known i q c.args.place (words ++ closed) (mid ++ closed) (c.exchange.new.words.items ++ closed) c.args.heads.now c.spread.new.heads c.exchange.new.heads
    (subst (λ (n : ℕ). c.args.place < n) same c.requires.place)
    (subst (λ (n : ℕ). AddsRow n (λ r. nat_lt r n && head_in c.args.heads.now r c.args.place) (words ++ closed) (mid ++ closed) c.args.heads.now c.spread.new.heads) same
    (adds-behind spare (λ r. nat_lt r spare && head_in c.args.heads.now r c.args.place) words mid closed c.args.heads.now c.spread.new.heads in_words
    (low_hits (λ r. head_in c.args.heads.now r c.args.place) spare (length words) (omega arith))
    c.in_ok-spread.ensures))
    (subst (λ (n : ℕ). Exchanges c.args.place n (mid ++ closed) (c.exchange.new.words.items ++ closed) c.spread.new.heads c.exchange.new.heads) same
    (exchanges-behind c.args.place spare mid c.exchange.new.words.items closed c.spread.new.heads c.exchange.new.heads (omega arith) in_mid c.exchange.ensures))
    s
