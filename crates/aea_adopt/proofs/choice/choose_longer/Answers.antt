use Rattle.std.proofs.Common.{refl, arith}
use Rattle.aea_adopt.proofs.Chosen.{chosen_differ, chosen_first, chosen_second}
use Rattle.aea_adopt.proofs.choice.choose_longer.Goals as goal

pub returns-in-Some-clause-chosen : goal.returns-in-Some-clause-chosen
returns-in-Some-clause-chosen c = λ files one two compared.
    let known = rw c.in-Some.is at compared in
    chosen_differ files c.args.first.now c.args.second.now c.in-Some.at one two known

pub returns-then-first-second-clause-chosen : goal.returns-then-first-second-clause-chosen
returns-then-first-second-clause-chosen c = λ files one two compared.
    let known = rw c.in_default.is at compared in
    chosen_first files _ c.args.second.now refl c.if-first-second.true one two known

pub returns-clause-chosen : goal.returns-clause-chosen
returns-clause-chosen c = λ files one two compared.
    let known = rw c.in_default.is at compared in
    chosen_second files _ c.args.first.now refl (omega (arith, c.if-first-second.false)) one two known
