use Rattle.std.proofs.Common.{◌≡◌, ◌<◌, ◌^◌, ℕ, List, Result, Ok, Err, OkIff, IfNone, decimal, sym, ◌∙◌, subst, arith}
use Rattle.std.specs.Result.{result_ok}
use Rattle.std.proofs.lemmas.Fmt.{decimal_injective}
use Rattle.aea_dispatch.proofs.numbers.number.Goals as goal

-- where a number does not fit, none that fits has its text
none_fits : {E : Type 0} (text : List ℕ) (m : ℕ) (r : Result ℕ E) → OkIff r (m < 2 ^ 32) m → text ≡ decimal m → m < 2 ^ 64 → IfNone (result_ok r) ((n : ℕ) → n < 2 ^ 32 → text ≡ decimal n → ⊥)
none_fits text m (Ok x) is same small = tt
none_fits text m (Err e) is same small = λ n fits other. is (subst (λ (k : ℕ). k < 2 ^ 32) (decimal_injective n m (omega (arith, fits)) small (sym other ∙ same)) fits)

pub returns-clause-none : goal.returns-clause-none
returns-clause-none c =
    rw c.ok.ensures.value (none_fits c.args.text.now c.in_ok-n.n c.try_from.result c.try_from.ensures c.in_ok-n.ensures.found c.in_ok-n.ensures.fits)
