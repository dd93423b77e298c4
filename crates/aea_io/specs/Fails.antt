-- Calls that are to fail, by their numbers from 1.
use Rattle.std.specs.Prelude.{◌≡◌, ◌+◌, ◌-◌, ◌^◌, min, Contains}
use Rattle.aea_io.specs.declared.fails.Fails.{Fails}

-- the next call is on the list
abbrev pub IsNextListed : Fails → Type 0
IsNextListed fails = Contains fails.listed.items (fails.calls + 1)

-- one more call was counted, and the list is the same
pub record CountsCall (old new : Fails) : Type 0 where
  pub calls : new.calls ≡ min (old.calls + 1) (2 ^ 64 - 1)
  pub listed : new.listed.items ≡ old.listed.items
