-- What the answer of adopting copies says.
use Rattle.std.proofs.Common.{◌≡◌, Result, Ok, Err, subst}
use Rattle.aea_disk.specs.State.{State}
use Rattle.aea_adopt.specs.Adopts.{Adopts}
use Rattle.aea_adopt.specs.declared.answers.Adopted.{Adopted}
use Rattle.aea_adopt.specs.declared.answers.AdoptFault.{AdoptFault}
use Rattle.aea_command.specs.declared.refusal.Failure.{Failure}
use Rattle.aea_cli.specs.Beneath.{adopting_failure, adopting_answer}

-- a failure has its fault
pub unadopted_from : (reveals : Type 0) (old new : State) (f : Failure) (adoption : Result Adopted AdoptFault) → Adopts reveals old new adoption → (let r : Result Adopted Failure = Err f in r ≡ adopting_answer adoption)
    → (fault : AdoptFault) × Adopts reveals old new (Err fault) × (f ≡ adopting_failure fault)
unadopted_from reveals old new f (Ok adopted) adopts is = let h : (let r : Result Adopted Failure = Err f in r ≡ Ok adopted) = is in absurd (cc)
unadopted_from reveals old new f (Err fault) adopts is = let h : (let r : Result Adopted Failure = Err f in r ≡ Err (adopting_failure fault)) = is in (fault, adopts, cc)

-- and what was adopted is what is said
pub adopted_from : (reveals : Type 0) (old new : State) (a : Adopted) (adoption : Result Adopted AdoptFault) → Adopts reveals old new adoption → (let r : Result Adopted Failure = Ok a in r ≡ adopting_answer adoption) → Adopts reveals old new (Ok a)
adopted_from reveals old new a (Ok adopted) adopts is =
    let h : (let r : Result Adopted Failure = Ok a in r ≡ Ok adopted) = is in
    let same : adopted ≡ a = cc in
    subst (λ (b : Adopted). Adopts reveals old new (Ok b)) same adopts
adopted_from reveals old new a (Err fault) adopts is = let h : (let r : Result Adopted Failure = Ok a in r ≡ Err (adopting_failure fault)) = is in absurd (cc)
