-- The blocks of uploads, and where they stand among those of X and W.
use Rattle.std.specs.Prelude.{◌≡◌, ◌≤◌, ℕ, ◌-◌, List, [], ◌∷◌, ◌++◌, length, map, slice_index_or, Some}
use Rattle.std.specs.FinMap.{get}
use Rattle.sha2.specs.Sha256.{sha256}
use Rattle.aea_lattice.specs.declared.shape.Shape.{Shape}
use Rattle.aea_catalog.specs.Catalogs.{Objects}
use Rattle.aea_records.specs.Format.{Stored}
use Rattle.aea_records.specs.Recorded.{HoldsObject}
use Rattle.aea_archive.specs.Objects.{object_in}
use Rattle.aea_messages.specs.declared.message.Message.{Message}
use Rattle.aea_machine.specs.Machine.{Upload, Machine, step, begun, in_slot, nodes_now, full_blocks, slots_count, commit, closed_nodes, runs_of, placed_by}

-- the blocks of a data list at these nodes
abbrev pub blocks_at : List ℕ → List (List ℕ) → List (List ℕ)
blocks_at nodes datas = map (λ i. slice_index_or datas (i - 1) []) nodes

-- these are nodes from 1 to n
abbrev pub AreNodes : ℕ → List ℕ → Type 0
AreNodes n [] = Unit {0}
AreNodes n (i ∷ nodes) = (1 ≤ i) × (i ≤ n) × AreNodes n nodes

-- At the nodes of an upload X and W have the blocks that its bytes fill.
pub record HoldsUpload (shape : Shape) (m : Machine) (u : Upload) : Type 0 where
  pub within : AreNodes (nodes_now m) u.nodes
  pub blocks : blocks_at u.nodes (m.datas ++ m.woven) ≡ full_blocks shape u.bytes

-- and so of each upload
abbrev pub AllHold : Shape → Machine → Type 0
AllHold shape m = (slot : ℕ) (u : Upload) → in_slot m slot ≡ Some u → HoldsUpload shape m u

-- It stays so after each message.
abbrev pub UploadsHold : Type 0
UploadsHold = (shape : Shape) (m : Machine) (message : Message) → length m.slots ≡ slots_count → AllHold shape m → AllHold shape (step shape m message).state

-- At the beginning of a session no slot has an upload.
abbrev pub NoneHold : Type 0
NoneHold = (shape : Shape) (datas : List (List ℕ)) (objects : Objects) → AllHold shape (begun datas objects)

-- When an upload is closed its object stands in its parts of the new X, and zeros behind it.
abbrev pub ClosedAreHeld : Type 0
ClosedAreHeld =
    (shape : Shape) (m : Machine) (slot : ℕ) (u : Upload) (o : Stored) → HoldsUpload shape m u → o.size ≡ length u.bytes → o.digest ≡ sha256 u.bytes
    → HoldsObject (commit shape m slot u).datas o (runs_of (closed_nodes shape m u))

-- And what is then under its name is the object, whose bytes in the new X are those of the upload.
abbrev pub ClosedAreRead : Type 0
ClosedAreRead =
    (shape : Shape) (m : Machine) (slot : ℕ) (u : Upload) → HoldsUpload shape m u
    → (get (commit shape m slot u).objects u.name ≡ Some (placed_by u.bytes (closed_nodes shape m u)))
    × (object_in (placed_by u.bytes (closed_nodes shape m u)) (commit shape m slot u).datas ≡ u.bytes)
