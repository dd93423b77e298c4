-- What no fence parts from a node is after the greatest fence below it.
use Rattle.std.proofs.Common.{◌≡◌, ℕ, suc, ◌<◌, ◌↔◌, Bool, true, false, nat_le, List, [], ◌∷◌, inl, inr, sym, ◌∙◌, arith, refl}
use Rattle.std.proofs.lemmas.Bool.{and_cases, and_left, and_right, false≢true, leb-false, lt-leb}
use Rattle.aea_lattice.specs.Fences.{is_parted}
use Rattle.aea_lattice.specs.Facts.{fence_below, JoinedStandAfterTheFence}
use Rattle.aea_lattice.proofs.Parted.{or_none, parts}

joined-step : (f k i : ℕ) (fs : List ℕ) → (is_parted fs k i ≡ false) ↔ (fence_below fs i < k) → (b : Bool) → nat_le (suc f) i ≡ b
    → (is_parted (f ∷ fs) k i ≡ false) ↔ (fence_below (f ∷ fs) i < k)
joined-step f k i fs before false e = (
  λ h. rw e (before.0 (or_none (parts f k i) (is_parted fs k i) h).1),
  λ h. rw (and_right (nat_le k f) (nat_le (suc f) i) e) (before.1 (rw e at h)),
)
joined-step f k i fs before true e = (
  λ h.
      let both = or_none (parts f k i) (is_parted fs k i) h in
      let after : f < k = elim (and_cases (nat_le k f) (nat_le (suc f) i) both.0) [
        | inl less ↦ leb-false k f less
        | inr no' ↦ absurd (false≢true (sym no' ∙ e))
      ] in
      rw e (let rest = before.0 both.1 in omega arith),
  λ h.
      let most = rw e at h in
      rw (and_left (nat_le k f) (nat_le (suc f) i) (lt-leb k f (omega arith))) (before.1 (omega arith)),
)

-- a node, at least 1, is not parted from i exactly where it is greater than the greatest fence below i
pub joined-after : JoinedStandAfterTheFence
joined-after [] k i first = (λ h. first, λ h. refl)
joined-after (f ∷ fs) k i first = joined-step f k i fs (joined-after fs k i first) (nat_le (suc f) i) refl
