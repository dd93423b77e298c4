-- What follows of the definitions.
use Rattle.std.specs.Prelude.{◌≡◌, ℕ, suc, ◌+◌, ◌/◌, ◌<◌, List, ◌++◌, length, All, IsTrue}
use Rattle.std.specs.List.{range_with_len}
use Rattle.sha2.specs.Sha256.{sha256}
use Rattle.aea_lattice.specs.declared.grid.Lattice.{Lattice}
use Rattle.aea_lattice.specs.declared.shape.Shape.{Shape}
use Rattle.aea_records.specs.Fields.{are_parts}
use Rattle.aea_records.specs.Format.{Stored, nodes_for}
use Rattle.aea_records.specs.Recorded.{blocks_in}
use Rattle.aea_weave.specs.Woven.{Woven}
use Rattle.aea_archive.specs.Next.{IsNextInParts}
use Rattle.aea_machine.specs.Holding.{blocks_at, HoldsUpload}
use Rattle.aea_machine.specs.Machine.{Upload, Machine, filled_by, last_block, runs_of}
use Rattle.aea_append.specs.Weaving.{IsWovenOf}
use Rattle.aea_uploads.specs.declared.slot.Slot.{Slot}
use Rattle.aea_uploads.specs.Gathering.{with_bytes, Closes}
use Rattle.aea_uploads.specs.Slots.{Rise, Keeps}

-- each of these blocks has the bytes of one
abbrev pub AreWide : Shape → List (List ℕ) → Type 0
AreWide shape datas = All (λ d. length d ≡ shape.block) datas

-- The longest runs of nodes that rise are parts of an object of so many nodes, and the blocks in them are those at the nodes.
abbrev pub RunsAreParts : Type 0
RunsAreParts =
    (shape : Shape) (size : ℕ) (datas : List (List ℕ)) (nodes : List ℕ) → Rise 0 (length datas) nodes → length nodes ≡ nodes_for shape size
    → IsTrue (are_parts shape size (length datas) (runs_of nodes)) × (blocks_in (runs_of nodes) datas ≡ blocks_at nodes datas)

-- With more blocks after the list each slot keeps what it kept.
abbrev pub KeepsMore : Type 0
KeepsMore = (shape : Shape) (datas more : List (List ℕ)) (s : Slot) (u : Upload) → Keeps shape datas s u → Keeps shape (datas ++ more) s u

-- An upload that a slot keeps has its blocks where the machine has them.
abbrev pub KeptAreHeld : Type 0
KeptAreHeld =
    (shape : Shape) (m : Machine) (s : Slot) (u : Upload) → AreWide shape (m.datas ++ m.woven) → Keeps shape (m.datas ++ m.woven) s u
    → HoldsUpload shape m u

-- What a chunk fills is what the machine fills by it: blocks that are put after the list where the slot then keeps the upload
-- with the bytes.
abbrev pub FilledAreTheMachines : Type 0
FilledAreTheMachines =
    (shape : Shape) (datas filled : List (List ℕ)) (s t : Slot) (u : Upload) (bytes : List ℕ)
    → AreWide shape datas → AreWide shape filled → Keeps shape datas s u
    → Keeps shape (datas ++ filled) t (with_bytes u bytes (length datas) (length filled))
    → filled ≡ filled_by shape u bytes

-- And the block of the rest is the machine's last block.
abbrev pub LastIsTheMachines : Type 0
LastIsTheMachines =
    (shape : Shape) (datas filled : List (List ℕ)) (s t : Slot) (u : Upload) (zeros : ℕ)
    → AreWide shape datas → AreWide shape filled → Keeps shape datas s u → zeros < shape.block
    → Closes (datas ++ filled) u (u.nodes ++ range_with_len (suc (length datas)) (length filled)) zeros t
    → filled ≡ last_block shape u

-- How many they are is known before: as many as the rest and the bytes fill; and a last one where there is a rest.
abbrev pub FilledAreCounted : Type 0
FilledAreCounted =
    (shape : Shape) (datas : List (List ℕ)) (s : Slot) (u : Upload) (bytes : List ℕ) → AreWide shape datas → Keeps shape datas s u
    → (length (filled_by shape u bytes) ≡ (s.have + length bytes) / shape.block) × (length (last_block shape u) ≡ nodes_for shape s.have)

-- The parts of a slot that has all of its upload in blocks are those of an object of its length.
abbrev pub ClosedAreParts : Type 0
ClosedAreParts =
    (shape : Shape) (datas : List (List ℕ)) (u : Upload) (nodes : List ℕ) (zeros : ℕ) (t : Slot)
    → AreWide shape datas → zeros < shape.block → Closes datas u nodes zeros t
    → IsTrue (are_parts shape t.length (length datas) t.parts.items)

-- And the record of an object with its name, its length and its hash is the next one in these parts, where X is followed by
-- W, whose blocks were woven after those of X and have these digests.
abbrev pub ClosedAreNext : Type 0
ClosedAreNext =
    (shape : Shape) (l : Lattice) (v : Woven) (datas woven : List (List ℕ)) (u : Upload) (nodes : List ℕ) (zeros : ℕ) (t : Slot) (o : Stored)
    → IsWovenOf shape l v datas woven o.digests → Closes (datas ++ woven) u nodes zeros t
    → o.name ≡ t.name → o.size ≡ t.length → o.digest ≡ sha256 u.bytes → o.first ≡ l.n + 1 → o.count ≡ length woven
    → IsNextInParts shape l v.lattice datas woven u.name u.bytes t.parts.items o
