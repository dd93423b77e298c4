use Rattle.std.proofs.Common.{◌<◌, ◌++◌, ℕ, suc, sym, ◌∙◌, subst, arith}
use Rattle.aea_sweep.specs.Tables.{Exchanges}
use Rattle.aea_sweep.proofs.Behind.{exchanges-behind}
use Rattle.aea_sweep.proofs.Meeting.{end_none, end_some}
use Rattle.aea_sweep.proofs.sweep.end_strand.Goals as goal

pub returns-then-has-clause-ended : goal.returns-then-has-clause-ended
returns-then-has-clause-ended c l known i q b same at unknown ended s =
    let closed = c.args.closed.now in
    let rows = c.requires.sized.words_long in
    let heads = c.requires.sized.heads_long in
    let place = c.requires.place in
    c.in_ok-settle.ensures.settled l known i (suc q) b same at.node at.class
    (end_some l known i q c.args.place b at unknown ended (c.args.words.now.items ++ closed) (c.exchange.new.words.items ++ closed) c.args.heads.now c.exchange.new.heads c.forget.new.heads
    (subst (λ (n : ℕ). c.args.place < n) same c.requires.place)
    (sym c.has.ensures ∙ c.if-has.true)
    (subst (λ (n : ℕ). Exchanges n c.args.place (c.args.words.now.items ++ closed) (c.exchange.new.words.items ++ closed) c.args.heads.now c.exchange.new.heads) same
    (exchanges-behind c.args.spare c.args.place c.args.words.now.items c.exchange.new.words.items closed c.args.heads.now c.exchange.new.heads (omega arith) (omega arith) c.exchange.ensures))
    c.forget.ensures s)

pub returns-clause-ended : goal.returns-clause-ended
returns-clause-ended c l known i q b same at unknown ended s =
    end_none l known i q c.args.place b at unknown ended (c.args.words.now.items ++ c.args.closed.now) c.args.heads.now c.forget-2.new.heads
    (subst (λ (n : ℕ). c.args.place < n) same c.requires.place)
    (sym c.has.ensures ∙ c.if-has.false)
    c.forget-2.ensures s
