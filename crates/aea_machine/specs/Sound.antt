-- What holds of each state that a session reaches: its names, its numbers of nodes and objects; and what is stored stays.
use Rattle.std.specs.Prelude.{◌≡◌, ◌≤◌, ℕ, List, ◌++◌, length, None, Some}
use Rattle.std.specs.FinMap.{get, len}
use Rattle.aea_lattice.specs.declared.shape.Shape.{Shape}
use Rattle.aea_catalog.specs.Catalogs.{Placed, Objects}
use Rattle.aea_catalog.specs.Names.{IsName}
use Rattle.aea_records.specs.Format.{greatest_objects, raised_limit}
use Rattle.aea_messages.specs.declared.message.Message.{Message}
use Rattle.aea_machine.specs.Machine.{Upload, Machine, step, begun, in_slot, nodes_now, slots_count}

-- The uploads have names of their own: each is a name, no object stands under it, and no other slot has it.
pub record HaveOwnNames (m : Machine) : Type 0 where
  pub named : (slot : ℕ) (u : Upload) → in_slot m slot ≡ Some u → IsName u.name
  pub new : (slot : ℕ) (u : Upload) → in_slot m slot ≡ Some u → get m.objects u.name ≡ None
  pub alone : (slot other : ℕ) (u w : Upload) → in_slot m slot ≡ Some u → in_slot m other ≡ Some w → u.name ≡ w.name → slot ≡ other

-- X and W are within the limit, and there are no more objects than an archive may have.
pub record IsWithinLimits (m : Machine) : Type 0 where
  pub nodes : nodes_now m ≤ raised_limit
  pub objects : len m.objects ≤ greatest_objects

-- What was stored is so still: X is followed by other blocks, if by any, and what was under a name is there.
pub record KeepsStored (old new : Machine) : Type 0 where
  pub more : List (List ℕ)
  pub datas : new.datas ≡ old.datas ++ more
  pub objects : (name : List ℕ) (placed : Placed) → get old.objects name ≡ Some placed → get new.objects name ≡ Some placed

-- Names stay those of single slots after each message.
abbrev pub NamesStayOwn : Type 0
NamesStayOwn = (shape : Shape) (m : Machine) (message : Message) → length m.slots ≡ slots_count → HaveOwnNames m → HaveOwnNames (step shape m message).state

-- The limits are kept by each message.
abbrev pub LimitsStay : Type 0
LimitsStay = (shape : Shape) (m : Machine) (message : Message) → IsWithinLimits m → IsWithinLimits (step shape m message).state

-- No message takes away what is stored.
abbrev pub StoredStay : Type 0
StoredStay = (shape : Shape) (m : Machine) (message : Message) → HaveOwnNames m → KeepsStored m (step shape m message).state

-- At the beginning of a session no slot has a name.
abbrev pub NoneHaveNames : Type 0
NoneHaveNames = (datas : List (List ℕ)) (objects : Objects) → HaveOwnNames (begun datas objects)
