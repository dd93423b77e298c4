-- Worked examples, in which the definitions compute.
use Rattle.std.proofs.Common.{◌≡◌, ℕ, List, [], ◌∷◌, ◌++◌, replicate, None, Some, refl}
use Rattle.aea_lattice.specs.declared.shape.Shape.{Shape}
use Rattle.aea_catalog.specs.Catalogs.{Objects}
use Rattle.aea_messages.specs.declared.message.Message.TheVariants.{Open, Chunk, Close, Read, Patrol}
use Rattle.aea_messages.specs.Messages.{spelled}
use Rattle.aea_machine.specs.Replies.{reply, code_of, body_of, object_body, numbers_body}
use Rattle.aea_machine.specs.Machine.{Upload, Machine, Closed, SlotTaken, SlotFree, BadSlot, BadRange, Patrols, step, runs_of, closed_nodes, commit, last_block}

-- blocks of 16 bytes, on one strand
abbrev narrow : Shape
narrow = record { alpha = 1; s = 1; p = 0; block = 16; sites = 1; in_profile = refl }

-- sixteen bytes
abbrev qs : List ℕ
qs = replicate 16 113

-- an upload of 3 bytes, and one that is to get a block
abbrev three : Upload
three = record { name = 97 ∷ []; bytes = 97 ∷ 98 ∷ 99 ∷ []; nodes = [] }

abbrev none_yet : Upload
none_yet = record { name = 98 ∷ []; bytes = []; nodes = [] }

abbrev one_block : Upload
one_block = record { name = 98 ∷ []; bytes = qs; nodes = 1 ∷ [] }

-- they stand in the first two slots of an archive with these objects and no node
abbrev two_open : Objects → Machine
two_open objects = record { datas = []; objects = objects; woven = []; slots = Some three ∷ Some none_yet ∷ replicate 14 None }

-- the second gets its block, which is woven at once
abbrev one_woven : Objects → Machine
one_woven objects = record { datas = []; objects = objects; woven = qs ∷ []; slots = Some three ∷ Some one_block ∷ replicate 14 None }

pub chunk_is_woven : (objects : Objects) → (step narrow (two_open objects) (Chunk 1 qs)).state ≡ one_woven objects
chunk_is_woven objects = refl

-- the close of the first comes behind it: its one node is the second, and both blocks are added
pub second_node : (objects : Objects) → closed_nodes narrow (one_woven objects) three ≡ 2 ∷ []
second_node objects = refl

pub one_part : (objects : Objects) → runs_of (closed_nodes narrow (one_woven objects) three) ≡ record { first = 2; count = 1 } ∷ []
one_part objects = refl

pub both_blocks : (objects : Objects) → (commit narrow (one_woven objects) 0 three).datas ≡ qs ∷ ((97 ∷ 98 ∷ 99 ∷ []) ++ replicate 13 0) ∷ []
both_blocks objects = refl

-- a block that was filled leaves none for the close
pub none_left : last_block narrow one_block ≡ []
none_left = refl

-- refusals, and a range
pub slot_taken : (objects : Objects) → (step narrow (two_open objects) (Open 1 [])).answer ≡ SlotTaken
slot_taken objects = refl

pub slot_free : (objects : Objects) → (step narrow (two_open objects) (Chunk 3 [])).answer ≡ SlotFree
slot_free objects = refl

pub bad_slot : (objects : Objects) → (step narrow (two_open objects) (Open 16 [])).answer ≡ BadSlot
bad_slot objects = refl

pub no_range : (objects : Objects) → (step narrow (commit narrow (one_woven objects) 0 three) (Patrol 0 5)).answer ≡ BadRange
no_range objects = refl

pub whole_range : (objects : Objects) → (step narrow (commit narrow (one_woven objects) 0 three) (Patrol 0 4)).answer ≡ Patrols 0 4
whole_range objects = refl

-- the longest runs of nodes
pub three_runs : runs_of (2 ∷ 3 ∷ 4 ∷ 7 ∷ 9 ∷ 10 ∷ []) ≡ record { first = 2; count = 3 } ∷ record { first = 7; count = 1 } ∷ record { first = 9; count = 2 } ∷ []
three_runs = refl

-- messages and replies as bytes
pub an_open : spelled (Open 0 (97 ∷ [])) ≡ 1 ∷ 0 ∷ 0 ∷ 1 ∷ 97 ∷ []
an_open = refl

pub a_chunk : spelled (Chunk 0 (97 ∷ 98 ∷ 99 ∷ [])) ≡ 2 ∷ 0 ∷ 0 ∷ 0 ∷ 0 ∷ 3 ∷ 97 ∷ 98 ∷ 99 ∷ []
a_chunk = refl

pub a_patrol : spelled (Patrol 0 4) ≡ 6 ∷ 0 ∷ 0 ∷ 0 ∷ 0 ∷ 0 ∷ 0 ∷ 0 ∷ 4 ∷ []
a_patrol = refl

pub a_close : (digest : List ℕ) → reply (Close 0) (code_of (Closed 1 3 digest)) (body_of (Closed 1 3 digest)) ≡ 3 ∷ 0 ∷ 0 ∷ 0 ∷ 0 ∷ 1 ∷ 0 ∷ 0 ∷ 0 ∷ 0 ∷ 0 ∷ 0 ∷ 0 ∷ 3 ∷ digest
a_close digest = refl

pub a_read : reply (Read (97 ∷ [])) 0 (object_body 3 (97 ∷ 98 ∷ 99 ∷ [])) ≡ 5 ∷ 0 ∷ 0 ∷ 0 ∷ 0 ∷ 0 ∷ 0 ∷ 0 ∷ 0 ∷ 3 ∷ 97 ∷ 98 ∷ 99 ∷ []
a_read = refl

pub nothing_damaged : reply (Patrol 0 4) 0 (numbers_body []) ≡ 6 ∷ 0 ∷ 0 ∷ 0 ∷ 0 ∷ 0 ∷ []
nothing_damaged = refl
