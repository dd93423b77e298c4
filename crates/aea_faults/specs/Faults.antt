-- Counts of faults. A count never falls, and stops at the greatest u64.
use Rattle.std.specs.Prelude.{◌≡◌, ℕ, ◌+◌, ◌-◌, ◌^◌, ◌≤◌, min, Result, OnOk, OnErr}

-- the count rose, or is at the greatest u64
abbrev pub Rose : ℕ → ℕ → Type 0
Rose before now = min (before + 1) (2 ^ 64 - 1) ≤ now

-- the count has not fallen, it rose where the answer is a fault, and where the answer is Ok it is what it was
pub record HasCause {T E : Type 0} (before now : ℕ) (result : Result T E) : Type 0 where
  pub kept : before ≤ now
  pub rose : OnErr result (Rose before now)
  pub still : OnOk result (now ≡ before)
