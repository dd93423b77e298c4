use Rattle.std.proofs.Common.{◌≡◌, false, take}
use Rattle.std.specs.List.{list_any}
use Rattle.aea_session.specs.Opening.{keeps_name}
use Rattle.aea_session.proofs.open.is_open.Given as goal

-- no slot so far keeps an upload of this name
abbrev pub invariant-loop-slot : goal.invariant-loop-slot
invariant-loop-slot l = list_any (keeps_name l.name) (take l.slot-index l.slots) ≡ false
