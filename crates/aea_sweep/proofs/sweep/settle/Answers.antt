use Rattle.std.proofs.Common.{◌++◌, ℕ, sym, ◌∙◌, ap, subst}
use Rattle.aea_sweep.specs.Heads.{head_in}
use Rattle.aea_sweep.specs.Tables.{Closes}
use Rattle.aea_sweep.specs.States.{IsCleanTo}
use Rattle.aea_sweep.proofs.Settling.{ready_clean, close_clean}
use Rattle.aea_sweep.proofs.sweep.settle.Goals as goal

pub returns-in_ok-close-in-None-clause-settled : goal.returns-in_ok-close-in-None-clause-settled
returns-in_ok-close-in-None-clause-settled c l known i q e same node class s =
    close_clean l known i q e (c.clean.new.words.items ++ c.args.closed.now) (c.close.new.words.items ++ c.close.new.closed) c.clean.new.heads node class
    (λ t fits. ap (λ (r : ℕ). head_in c.clean.new.heads r t) (sym same) ∙ c.in-None.ensures t fits)
    (subst (λ (n : ℕ). Closes n (c.clean.new.words.items ++ c.args.closed.now) (c.close.new.words.items ++ c.close.new.closed)) same c.in_ok-close-in-None.ensures.closes)
    (subst (λ (n : ℕ). IsCleanTo l known i q e n (c.clean.new.words.items ++ c.args.closed.now) c.clean.new.heads) same
    (c.in_ok-clean.ensures.clean l known c.args.closed.now i q e same s))

pub returns-in_ok-put_spare-in-Some-clause-settled : goal.returns-in_ok-put_spare-in-Some-clause-settled
returns-in_ok-put_spare-in-Some-clause-settled c l known i q e same node class s =
    c.in_ok-put_spare-in-Some.ensures.put l known c.args.closed.now i q same
    (ready_clean l known i q c.in-Some.place e (c.clean.new.words.items ++ c.args.closed.now) c.clean.new.heads
    (ap (λ (r : ℕ). head_in c.clean.new.heads r c.in-Some.place) (sym same) ∙ c.in-Some.ensures.1)
    (subst (λ (n : ℕ). IsCleanTo l known i q e n (c.clean.new.words.items ++ c.args.closed.now) c.clean.new.heads) same
    (c.in_ok-clean.ensures.clean l known c.args.closed.now i q e same s)))
