-- The closes of a run, and what each leaves in the ledger.
use Rattle.std.specs.Prelude.{◌≡◌, ℕ, ◌+◌, List, [], ◌∷◌, ◌++◌, length, Option, Some}
use Rattle.std.specs.FinMap.{insert}
use Rattle.sha2.specs.Sha256.{sha256}
use Rattle.aea_lattice.specs.declared.blocks.BlockId.{BlockId}
use Rattle.aea_lattice.specs.declared.grid.Lattice.{Lattice}
use Rattle.aea_lattice.specs.declared.shape.Shape.{Shape}
use Rattle.aea_lattice.specs.Growth.{IsGrown}
use Rattle.aea_catalog.specs.Catalogs.{Objects}
use Rattle.aea_records.specs.Format.{Record, Stored, Joined}
use Rattle.aea_records.specs.Catalogued.{with_record}
use Rattle.aea_archive.specs.Next.{AreDigestsOn}
use Rattle.aea_messages.specs.declared.message.Message.{Message}
use Rattle.aea_messages.specs.declared.message.Message.TheVariants.{Close}
use Rattle.aea_machine.specs.Machine.{Upload, Machine, Answer, Closed, step, after, in_slot, last_block, closed_nodes, runs_of, placed_by}

-- An upload that is closed: the name, the bytes, the nodes of its blocks, and the blocks that its close adds to X.
pub record Closing : Type 0 where
  pub name : List ℕ
  pub bytes : List ℕ
  pub nodes : List ℕ
  pub blocks : List (List ℕ)

-- the one that a close of what stands in a slot is, if it is answered with code 0
abbrev pub closing_by : Shape → Machine → Option Upload → Answer → List Closing
closing_by shape m (Some u) (Closed nodes size digest) =
    record { name = u.name; bytes = u.bytes; nodes = closed_nodes shape m u; blocks = m.woven ++ last_block shape u } ∷ []
closing_by shape m u answer = []

-- the one that a message is
abbrev pub closing_in : Shape → Machine → Message → List Closing
closing_in shape m (Close slot) = closing_by shape m (in_slot m slot) (step shape m (Close slot)).answer
closing_in shape m message = []

-- those of messages, in order
abbrev pub closings_of : Shape → Machine → List Message → List Closing
closings_of shape m [] = []
closings_of shape m (message ∷ messages) = closing_in shape m message ++ closings_of shape (step shape m message).state messages

-- The next record of a close, where the lattice l of the archive grows to m and these are the payloads of the new blocks, as they
-- are at their homes. The new blocks are those that the close adds, which are not those of its object alone. A session knows its
-- blocks by their digests, so the record says of the payloads that they have the digests, and no more; that a data list that was
-- recorded goes on with the blocks of the close is said beside it.
pub record IsNextClosed (shape : Shape) (l m : Lattice) (payload : BlockId → List ℕ) (c : Closing) (o : Stored) : Type 0 where
  pub name_is : o.name ≡ c.name
  pub size : o.size ≡ length c.bytes
  pub digest : o.digest ≡ sha256 c.bytes
  pub first : o.first ≡ l.n + 1
  pub count : o.count ≡ length c.blocks
  pub grown : IsGrown l (l.n + o.count) m
  pub digests : AreDigestsOn shape l.n m.n payload o.digests

-- The records are those of these closes, one after the other, each in its parts, and the lattice grows from l to m.
abbrev pub AreClosedRecords : Shape → Lattice → Lattice → (BlockId → List ℕ) → List Closing → List Record → Type 0
AreClosedRecords shape l m payload [] [] = l ≡ m
AreClosedRecords shape l m payload [] (r ∷ records) = ⊥
AreClosedRecords shape l m payload (c ∷ closings) [] = ⊥
AreClosedRecords shape l m payload (c ∷ closings) (r ∷ records) =
    (next : Lattice) × (stored : Stored) × (r ≡ Joined stored (runs_of c.nodes)) × IsNextClosed shape l next payload c stored
    × AreClosedRecords shape next m payload closings records

-- What the catalogue keeps of such a record is what the machine keeps of the upload.
abbrev pub ClosedArePlaced : Type 0
ClosedArePlaced =
    (objects : Objects) (name bytes nodes : List ℕ) (o : Stored) → o.name ≡ name → o.size ≡ length bytes → o.digest ≡ sha256 bytes
    → with_record objects (Joined o (runs_of nodes)) ≡ insert objects name (placed_by bytes nodes)

-- The closes of messages and of one more are those of the messages, and that of the last.
abbrev pub ClosingsGoOn : Type 0
ClosingsGoOn =
    (shape : Shape) (m : Machine) (messages : List Message) (message : Message)
    → closings_of shape m (messages ++ message ∷ []) ≡ closings_of shape m messages ++ closing_in shape (after shape m messages) message

-- Records of closes, and of closes behind them, are those of all.
abbrev pub ClosedRecordsJoin : Type 0
ClosedRecordsJoin =
    (shape : Shape) (l m k : Lattice) (payload : BlockId → List ℕ) (xs ys : List Closing) (rs ss : List Record)
    → AreClosedRecords shape l m payload xs rs → AreClosedRecords shape m k payload ys ss → AreClosedRecords shape l k payload (xs ++ ys) (rs ++ ss)
