-- A disk that may fail by a list.
use Rattle.std.specs.Prelude.{◌≡◌, ℕ, List, Result, IsErr, Contains}
use Rattle.aea_faults.specs.Faults.{HasCause}
use Rattle.aea_disk.specs.Count.{one_more, faults_after}
use Rattle.aea_disk.specs.State.{State, IsSure}

-- the inner disk, the numbers of the calls that fail, how many calls there were, and how many of them failed
pub record Failing (D : Type 0) : Type 0 where
  pub inner : D
  pub fails : List ℕ
  pub calls : ℕ
  pub faults : ℕ

-- the inner disk's meanings with a count of its own, and no capacity that is guaranteed
abbrev pub with_faults : State → ℕ → State
with_faults s n = record { files = s.files; moment = s.moment; image = s.image; faults = n; room = λ f m. ⊥; beneath = n; takes = λ f b at. Unit {0}; keeps = λ b. Unit {0}; free = Unit {0}; lent = s.lent }

-- the number of the next call, counted from 1, and the greatest u64 from there on
abbrev pub next_call : ℕ → ℕ
next_call calls = one_more calls

-- the next call is a listed one
abbrev pub IsListed : {D : Type 0} → Failing D → Type 0
IsListed d = Contains d.fails (next_call d.calls)

-- The call has its number, a fault is counted once, and the list stays.
pub record Counts {D T E : Type 0} (old new : Failing D) (result : Result T E) : Type 0 where
  pub calls : new.calls ≡ next_call old.calls
  pub faults : new.faults ≡ faults_after old.faults result
  pub fails : new.fails ≡ old.fails

-- the call fails, and the inner disk stays
pub record FailsAlone {D T E : Type 0} (old new : Failing D) (result : Result T E) : Type 0 where
  pub failed : IsErr result
  pub inner : new.inner ≡ old.inner

-- the call fails only where the inner disk fails: its count rose then, and a call within the disk's capacity doesn't fail
pub record PassesOn {T E : Type 0} (taken fits : Type 0) (old new : State) (result : Result T E) : Type 0 where
  pub cause : HasCause old.faults new.faults result
  pub sure : IsSure taken fits old new result
