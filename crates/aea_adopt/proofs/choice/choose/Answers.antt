use Rattle.std.proofs.Common.{refl}
use Rattle.aea_adopt.proofs.Chosen.{chosen_alone_first, chosen_alone_second}
use Rattle.aea_adopt.proofs.choice.choose.Goals as goal

pub returns-in-Good-Bad-clause-chosen : goal.returns-in-Good-Bad-clause-chosen
returns-in-Good-Bad-clause-chosen c = λ files one two compared.
    let good = rw c.in-Good-Bad.is-0 at one in
    let bad = rw c.in-Good-Bad.is-1 at two in
    chosen_alone_first files _ c.in-Good-Bad.at-1 refl good bad

pub returns-in-Bad-Good-clause-chosen : goal.returns-in-Bad-Good-clause-chosen
returns-in-Bad-Good-clause-chosen c = λ files one two compared.
    let bad = rw c.in-Bad-Good.is-0 at one in
    let good = rw c.in-Bad-Good.is-1 at two in
    chosen_alone_second files _ c.in-Bad-Good.at-0 refl bad good
