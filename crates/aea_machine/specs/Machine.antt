-- A session of many uploads as a small machine over messages. Its state is the data list of the archive with its objects, the
-- blocks woven since, and sixteen slots. It is a function of the state and the message; only the two answers that ask for
-- blocks, of an object and of a range, are completed by what stands at their homes (`Replies.antt`).
use Rattle.std.specs.Prelude.{ℕ, suc, ◌+◌, ◌*◌, ◌/◌, Bool, false, not, ◌&&◌, ◌==◌, nat_le, if◌then◌else◌, is_some, List, [], ◌∷◌, ◌++◌, length, drop, replicate, slice_index_or, slice_set, sum_by, bytes_eq, Option, None, Some}
use Rattle.std.specs.List.{range_with_len, list_any}
use Rattle.std.specs.FinMap.{get, len, insert}
use Rattle.sha2.specs.Sha256.{sha256}
use Rattle.aea_lattice.specs.declared.shape.Shape.{Shape}
use Rattle.aea_catalog.specs.declared.objects.Extent.{Extent}
use Rattle.aea_catalog.specs.Catalogs.{Placed, Objects}
use Rattle.aea_catalog.specs.Names.{is_name}
use Rattle.aea_records.specs.Format.{greatest_objects, raised_limit}
use Rattle.aea_records.specs.Catalogued.{first_of}
use Rattle.aea_archive.specs.Next.{cut_blocks, object_blocks}
use Rattle.aea_messages.specs.declared.message.Message.{Message}
use Rattle.aea_messages.specs.declared.message.Message.TheVariants.{Open, Chunk, Close, Abort, Read, Patrol}

-- ---- the state

-- An upload: the name, the bytes so far, and the nodes of the blocks that these have filled.
pub record Upload : Type 0 where
  pub name : List ℕ
  pub bytes : List ℕ
  pub nodes : List ℕ

-- The data list X of the archive; its objects under their names; the blocks W woven since; and the slots, each free or with
-- an upload.
pub record Machine : Type 0 where
  pub datas : List (List ℕ)
  pub objects : Objects
  pub woven : List (List ℕ)
  pub slots : List (Option Upload)

-- how many slots there are
abbrev pub slots_count : ℕ
slots_count = 16

-- the machine over an archive: nothing woven since, and every slot free
abbrev pub begun : List (List ℕ) → Objects → Machine
begun datas objects = record { datas = datas; objects = objects; woven = []; slots = replicate slots_count None }

-- ---- what it answers

-- What it answers. `Reads` and `Patrols` ask: for the bytes of an object, and for the damaged blocks of a range, its first
-- number and how many they are.
pub data Answer : Type 0 where
  Made : Answer
  Closed : ℕ → ℕ → List ℕ → Answer
  Reads : Placed → Answer
  Patrols : ℕ → ℕ → Answer
  BadSlot : Answer
  SlotTaken : Answer
  SlotFree : Answer
  BadName : Answer
  NameTaken : Answer
  NameOpen : Answer
  Full : ℕ → Answer
  CatalogFull : Answer
  UnknownName : Answer
  BadRange : Answer

-- the state and the answer after a message
pub record Step : Type 0 where
  pub state : Machine
  pub answer : Answer

-- a step that leaves the state
abbrev pub stays : Machine → Answer → Step
stays m answer = record { state = m; answer = answer }

-- ---- its parts

-- the number is that of no slot
abbrev pub is_no_slot : ℕ → Bool
is_no_slot slot = nat_le slots_count slot

-- what stands in a slot
abbrev pub in_slot : Machine → ℕ → Option Upload
in_slot m slot = slice_index_or m.slots slot None

-- the machine with this in a slot
abbrev pub with_slot : Machine → ℕ → Option Upload → Machine
with_slot m slot u = record m { slots = slice_set m.slots slot u }

-- whether an upload of this name stands in the slot
abbrev pub has_name : List ℕ → Option Upload → Bool
has_name name None = false
has_name name (Some u) = bytes_eq name u.name

-- how many nodes there are, of X and W together
abbrev pub nodes_now : Machine → ℕ
nodes_now m = length m.datas + length m.woven

-- whether so many more fit
abbrev pub has_room : Machine → ℕ → Bool
has_room m more = nat_le (nodes_now m + more) raised_limit

-- the blocks that bytes fill
abbrev pub full_blocks : Shape → List ℕ → List (List ℕ)
full_blocks shape bytes = cut_blocks shape.block (length bytes / shape.block) bytes

-- the blocks that an upload fills with these bytes, beyond those that it has filled
abbrev pub filled_by : Shape → Upload → List ℕ → List (List ℕ)
filled_by shape u bytes = drop (length u.bytes / shape.block) (full_blocks shape (u.bytes ++ bytes))

-- the block that is left at the end, filled with zeros, if there is one
abbrev pub last_block : Shape → Upload → List (List ℕ)
last_block shape u = drop (length u.bytes / shape.block) (object_blocks shape u.bytes)

-- the nodes that these blocks get
abbrev pub nodes_of_blocks : Machine → List (List ℕ) → List ℕ
nodes_of_blocks m blocks = range_with_len (suc (nodes_now m)) (length blocks)

-- the machine with these blocks woven
abbrev pub weave : Machine → List (List ℕ) → Machine
weave m blocks = record m { woven = m.woven ++ blocks }

-- a node before the longest runs of those behind it
abbrev pub onto_run : ℕ → List Extent → List Extent
onto_run node [] = record { first = node; count = 1 } ∷ []
onto_run node (e ∷ runs) =
    if suc node == e.first then record { first = node; count = suc e.count } ∷ runs
    else record { first = node; count = 1 } ∷ e ∷ runs

-- the longest runs of nodes that follow each other
abbrev pub runs_of : List ℕ → List Extent
runs_of [] = []
runs_of (node ∷ nodes) = onto_run node (runs_of nodes)

-- what is kept of an object of these bytes and nodes
abbrev pub placed_by : List ℕ → List ℕ → Placed
placed_by bytes nodes = record { object = record { first = first_of (runs_of nodes); count = sum_by (λ e. e.count) (runs_of nodes); length = length bytes; digest = sha256 bytes }; parts = runs_of nodes }

-- ---- the steps: each is the first refusal that applies, or what was asked

-- an open of a free slot
abbrev pub open_free : Machine → ℕ → List ℕ → Step
open_free m slot name =
    if not (is_name name) then stays m BadName
    else if is_some (get m.objects name) then stays m NameTaken
    else if list_any (has_name name) m.slots then stays m NameOpen
    else record { state = with_slot m slot (Some (record { name = name; bytes = []; nodes = [] })); answer = Made }

-- a chunk of an upload
abbrev pub add_chunk : Shape → Machine → ℕ → List ℕ → Upload → Step
add_chunk shape m slot bytes u =
    if has_room m (length (filled_by shape u bytes)) then record {
      state = with_slot (weave m (filled_by shape u bytes)) slot (Some (record {
        name = u.name;
        bytes = u.bytes ++ bytes;
        nodes = u.nodes ++ nodes_of_blocks m (filled_by shape u bytes);
      }));
      answer = Made;
    }
    else stays m (Full (nodes_now m))

-- the nodes of an upload when it is closed
abbrev pub closed_nodes : Shape → Machine → Upload → List ℕ
closed_nodes shape m u = u.nodes ++ nodes_of_blocks m (last_block shape u)

-- all is woven and W is added to X, the object is one of the archive, and the slot is free
abbrev pub commit : Shape → Machine → ℕ → Upload → Machine
commit shape m slot u = record {
  datas = m.datas ++ m.woven ++ last_block shape u;
  objects = insert m.objects u.name (placed_by u.bytes (closed_nodes shape m u));
  woven = [];
  slots = slice_set m.slots slot None;
}

-- the close of an upload
abbrev pub close_upload : Shape → Machine → ℕ → Upload → Step
close_upload shape m slot u =
    if len m.objects == greatest_objects then stays m CatalogFull
    else if has_room m (length (last_block shape u)) then record {
      state = commit shape m slot u;
      answer = Closed (length (closed_nodes shape m u)) (length u.bytes) (sha256 u.bytes);
    }
    else stays m (Full (nodes_now m))

-- a message to a slot, where it is free or has an upload
abbrev pub open_in : Machine → ℕ → List ℕ → Option Upload → Step
open_in m slot name None = open_free m slot name
open_in m slot name (Some u) = stays m SlotTaken

abbrev pub chunk_in : Shape → Machine → ℕ → List ℕ → Option Upload → Step
chunk_in shape m slot bytes None = stays m SlotFree
chunk_in shape m slot bytes (Some u) = add_chunk shape m slot bytes u

abbrev pub close_in : Shape → Machine → ℕ → Option Upload → Step
close_in shape m slot None = stays m SlotFree
close_in shape m slot (Some u) = close_upload shape m slot u

abbrev pub abort_in : Machine → ℕ → Option Upload → Step
abort_in m slot None = stays m SlotFree
abort_in m slot (Some u) = record { state = with_slot m slot None; answer = Made }

-- what is read under a name
abbrev pub read_in : Machine → Option Placed → Step
read_in m None = stays m UnknownName
read_in m (Some placed) = stays m (Reads placed)

-- the most blocks of a patrol
abbrev pub greatest_patrol : ℕ
greatest_patrol = 4096

-- whether the blocks of X have the range, and it is neither empty nor too long
abbrev pub is_range : Shape → Machine → ℕ → ℕ → Bool
is_range shape m first count = nat_le 1 count && nat_le count greatest_patrol && nat_le (first + count) (length m.datas * (1 + shape.alpha))

-- the step of the machine in an archive of this shape
abbrev pub step : Shape → Machine → Message → Step
step shape m (Open slot name) = if is_no_slot slot then stays m BadSlot else open_in m slot name (in_slot m slot)
step shape m (Chunk slot bytes) = if is_no_slot slot then stays m BadSlot else chunk_in shape m slot bytes (in_slot m slot)
step shape m (Close slot) = if is_no_slot slot then stays m BadSlot else close_in shape m slot (in_slot m slot)
step shape m (Abort slot) = if is_no_slot slot then stays m BadSlot else abort_in m slot (in_slot m slot)
step shape m (Read name) = read_in m (get m.objects name)
step shape m (Patrol first count) = if is_range shape m first count then stays m (Patrols first count) else stays m BadRange

-- the machine behind these messages
abbrev pub after : Shape → Machine → List Message → Machine
after shape m [] = m
after shape m (message ∷ messages) = after shape (step shape m message).state messages
