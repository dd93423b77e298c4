-- Where the output failed, no reason for a refusal held.
use Rattle.std.proofs.Common.{◌≡◌, inl, inr, ℕ, zero, suc, ◌<◌, sym, ◌∙◌, arith, Err}
use Rattle.aea_command.specs.Causes.{IsFirst, RefusesBy, place_of}
use Rattle.aea_command.specs.Failures.{Answer}
use Rattle.aea_command.specs.declared.refusal.Failure.TheVariants as failure
use Rattle.aea_command.specs.declared.refusal.Refusal.{Refusal}

module _ (revealed causes : Refusal → Type 0) (answer : Answer) (refuses : RefusesBy revealed causes answer) (knows : (why : Refusal) → revealed why) (failed : answer ≡ Err failure.Output) where
  -- the first of them would have been the answer
  none_below : (place : ℕ) (why : Refusal) → place_of why < place → causes why → ⊥
  none_below zero why early cause = omega (arith, early)
  none_below (suc place) why early cause =
      let first : IsFirst causes why = record { stands = cause; none = λ other before. none_below place other (omega (arith, early, before)) } in
      elim (refuses.always why (knows why) first) [
        | inl e ↦ let h : (let one : Answer = Err failure.Output in one ≡ Err (failure.Refused why)) = sym failed ∙ e in cc
        | inr (inl e) ↦ let h : (let one : Answer = Err failure.Output in one ≡ Err failure.Disk) = sym failed ∙ e in cc
        | inr (inr (inl e)) ↦ let h : (let one : Answer = Err failure.Output in one ≡ Err failure.Input) = sym failed ∙ e in cc
        | inr (inr (inr e)) ↦ let h : (let one : Answer = Err failure.Output in one ≡ Err failure.Memory) = sym failed ∙ e in cc
      ]

  pub none_held : (why : Refusal) → causes why → ⊥
  none_held why cause = none_below (suc (place_of why)) why (omega arith) cause
