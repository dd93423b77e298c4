-- What is kept of one upload under way.
use Rattle.std.specs.Prelude.{◌≡◌, ℕ, ◌<◌, ◌≤◌, List, [], ◌∷◌, ◌++◌, length, take, All}
use Rattle.std.specs.List.{flat_map}
use Rattle.sha2.specs.Hashers.{Holds256}
use Rattle.aea_lattice.specs.declared.shape.Shape.{Shape}
use Rattle.aea_machine.specs.Holding.{blocks_at}
use Rattle.aea_machine.specs.Machine.{Upload, runs_of}
use Rattle.aea_uploads.specs.declared.slot.Slot.{Slot}

-- the nodes rise, the first of them comes after this node, and the last of them is not past that one
abbrev pub Rise : ℕ → ℕ → List ℕ → Type 0
Rise after last [] = Unit {0}
Rise after last (i ∷ nodes) = (after < i) × (i ≤ last) × Rise i last nodes

-- an upload that was opened under a name, and has no byte yet
abbrev pub opened : List ℕ → Upload
opened name = record { name = name; bytes = []; nodes = [] }

-- The slot keeps the upload, where X followed by W is this data list: its name; its nodes as their longest runs; the number
-- of its bytes, and their running SHA-256; and the rest after the blocks that they fill, at the front of a block.
pub record Keeps (shape : Shape) (datas : List (List ℕ)) (s : Slot) (u : Upload) : Type 0 where
  pub name : s.name ≡ u.name
  pub rise : Rise 0 (length datas) u.nodes
  pub parts : s.parts.items ≡ runs_of u.nodes
  pub long : s.length ≡ length u.bytes
  pub hash : Holds256 s.hasher u.bytes
  pub less : s.have < shape.block
  pub room : length s.block.items ≡ shape.block
  pub are : u.bytes ≡ flat_map (λ d. d) (blocks_at u.nodes datas) ++ take s.have s.block.items

-- It keeps some upload, where there are so many nodes.
pub record KeepsSome (shape : Shape) (nodes : ℕ) (s : Slot) : Type 0 where
  pub datas : List (List ℕ)
  pub many : length datas ≡ nodes
  pub wide : All (λ d. length d ≡ shape.block) datas
  pub upload : Upload
  pub keeps : Keeps shape datas s upload
