-- The replies of a session: the kind of the message, a code, and a body.
use Rattle.std.specs.Prelude.{◌≡◌, ◌⊎◌, ◌↔◌, ◌<◌, ◌≤◌, ℕ, ◌+◌, Bool, not, IsTrue, List, [], ◌∷◌, ◌++◌, length, take, filter, All}
use Rattle.std.specs.List.{flat_map, range_with_len}
use Rattle.std.specs.Int.{w32, w64, to_be_bytes}
use Rattle.aea_lattice.specs.declared.blocks.BlockId.{BlockId}
use Rattle.aea_lattice.specs.declared.shape.Shape.{Shape}
use Rattle.aea_lattice.specs.Shapes.{number_in}
use Rattle.aea_catalog.specs.Catalogs.{Placed}
use Rattle.aea_disk.specs.Files.{Files}
use Rattle.aea_archive.specs.Blocks.{IsBlockIn, IsIntactBy}
use Rattle.aea_archive.specs.Objects.{data_of, ArePayloads, joined, IsOneOf, IsFirstWithout}
use Rattle.aea_messages.specs.declared.message.Message.{Message}
use Rattle.aea_messages.specs.Messages.{kind_of}
use Rattle.aea_machine.specs.Machine.{Answer, Made, Closed, Reads, Patrols, BadSlot, SlotTaken, SlotFree, BadName, NameTaken, NameOpen, Full, CatalogFull, UnknownName, BadRange}

-- the code of an answer: 0 where what was asked is done, or is looked up
abbrev pub code_of : Answer → ℕ
code_of Made = 0
code_of (Closed nodes size digest) = 0
code_of (Reads placed) = 0
code_of (Patrols first count) = 0
code_of BadSlot = 1
code_of SlotTaken = 2
code_of SlotFree = 3
code_of BadName = 4
code_of NameTaken = 5
code_of NameOpen = 6
code_of (Full nodes) = 7
code_of CatalogFull = 8
code_of UnknownName = 9
code_of BadRange = 11

-- the code of an object that has a damaged block
abbrev pub damaged_code : ℕ
damaged_code = 10

-- the body of an answer: of a close the number of the object's nodes, in 4 bytes, its length, in 8, and its digest; of a full
-- lattice the number of nodes, in 4
abbrev pub body_of : Answer → List ℕ
body_of (Closed nodes size digest) = to_be_bytes w32 nodes ++ to_be_bytes w64 size ++ digest
body_of (Full nodes) = to_be_bytes w32 nodes
body_of answer = []

-- a reply: the kind of its message, its code, and its body
abbrev pub reply : Message → ℕ → List ℕ → List ℕ
reply message code body = kind_of message ∷ code ∷ body

-- the bytes of an object behind their number, in 8
abbrev pub object_body : ℕ → List ℕ → List ℕ
object_body size bytes = to_be_bytes w64 size ++ bytes

-- numbers of blocks, in 4 bytes each, behind their number, in 4
abbrev pub numbers_body : List ℕ → List ℕ
numbers_body numbers = to_be_bytes w32 (length numbers) ++ flat_map (to_be_bytes w32) numbers

-- the test tells which blocks of a range are intact
abbrev pub RevealsRange : Shape → ℕ → List (List ℕ) → Files → ℕ → ℕ → (ℕ → Bool) → Type 0
RevealsRange shape nodes digests c first count intact =
    (b : BlockId) → IsBlockIn shape nodes b → first ≤ number_in shape b → number_in shape b < first + count
    → IsTrue (intact (number_in shape b)) ↔ IsIntactBy shape digests c b

-- The reply is that of an object: its bytes, of payloads of its data blocks, where `has b p` says that p is a payload of b and
-- each of these blocks is intact; or the first of them that is not.
abbrev pub IsObjectReply : Type 0 → (BlockId → List ℕ → Type 0) → Shape → List (List ℕ) → Files → Message → Placed → ℕ → List ℕ → Type 0
IsObjectReply reveals has shape digests c message placed code bytes =
    ((payloads : List (List ℕ)) × ArePayloads has (data_of placed.parts) payloads
    × (reveals → All (IsIntactBy shape digests c) (data_of placed.parts))
    × (length (take placed.object.length (joined payloads)) ≡ placed.object.length)
    × (code ≡ 0) × (bytes ≡ reply message 0 (object_body placed.object.length (take placed.object.length (joined payloads)))))
    ⊎ ((b : BlockId) × IsOneOf (data_of placed.parts) b × (reveals → IsFirstWithout (IsIntactBy shape digests c) (data_of placed.parts) b)
    × (code ≡ damaged_code) × (bytes ≡ reply message damaged_code (to_be_bytes w32 (number_in shape b))))

-- The reply is that of a range: the numbers of its blocks that are not intact, in order.
abbrev pub IsRangeReply : Type 0 → Shape → ℕ → List (List ℕ) → Files → Message → ℕ → ℕ → ℕ → List ℕ → Type 0
IsRangeReply reveals shape nodes digests c message first count code bytes =
    (intact : ℕ → Bool) × (reveals → RevealsRange shape nodes digests c first count intact)
    × (code ≡ 0) × (bytes ≡ reply message 0 (numbers_body (filter (λ k. not (intact k)) (range_with_len first count))))

-- the reply to a message that was answered so, in an archive with so many nodes and these digests, over these files
abbrev pub IsReply : Type 0 → (BlockId → List ℕ → Type 0) → Shape → ℕ → List (List ℕ) → Files → Message → Answer → ℕ → List ℕ → Type 0
IsReply reveals has shape nodes digests c message (Reads placed) code bytes = IsObjectReply reveals has shape digests c message placed code bytes
IsReply reveals has shape nodes digests c message (Patrols first count) code bytes = IsRangeReply reveals shape nodes digests c message first count code bytes
IsReply reveals has shape nodes digests c message answer code bytes = (code ≡ code_of answer) × (bytes ≡ reply message (code_of answer) (body_of answer))
