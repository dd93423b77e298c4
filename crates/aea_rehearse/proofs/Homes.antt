-- Homes of the blocks of a rehearsal, and the space for them.
use Rattle.std.proofs.Common.{◌≡◌, ℕ, ◌+◌, ◌-◌, ◌*◌, ◌/◌, ◌≤◌, List, length, sym, ◌∙◌, ap, subst, arith}
use Rattle.aea_lattice.specs.declared.blocks.BlockId.{BlockId}
use Rattle.aea_lattice.specs.declared.grid.Lattice.{Lattice}
use Rattle.aea_lattice.specs.declared.shape.Shape.{Shape}
use Rattle.aea_lattice.specs.Blocks.{HasBlock, class_number, number_of}
use Rattle.aea_lattice.specs.Shapes.{IsBlockOf, number_in}
use Rattle.aea_place.specs.declared.homes.Spot.{Spot}
use Rattle.aea_place.specs.Homes.{home_of}
use Rattle.aea_disk.specs.Files.{Files, ChangesFile, Holds, Torn}
use Rattle.aea_disk.specs.State.{State, Passes, HasRoomTo, IsReady, IsRoomy}
use Rattle.aea_disk.specs.Steps.{changes_wider, holds_torn}
use Rattle.aea_shelf.specs.Places.{cell_size, home_file, home_place, site_bytes}
use Rattle.aea_shelf.specs.Writes.{ChangesHome}
use Rattle.aea_shelf.specs.Facts.{HomesAreInRows, HomesAreOnItsSites}
use Rattle.aea_rehearse.specs.Rehearsed.{IsRehearsalShape}
use Rattle.aea_rehearse.specs.Rooms.{IsWilling, HasCellsRoom, HasRehearsalRoom}

-- a cell has 560 bytes
pub cell-long : (shape : Shape) → IsRehearsalShape shape → cell_size shape ≡ 560
cell-long shape is = let block = is.block in omega arith

-- a block of the lattice is one of its shape
pub block_in_shape : (shape : Shape) (l : Lattice) (b : BlockId) → l.alpha ≡ shape.alpha → HasBlock l b → IsBlockOf shape b
block_in_shape shape l b alpha has = record {
  first = has.first;
  last = (let most = has.last in let range = l.in_range in omega (arith, most, range));
  used = (let u = has.used in omega (arith, u, alpha));
}

-- the home of a block by its number in the lattice
pub home_by_number : (shape : Shape) (l : Lattice) (b : BlockId) → IsRehearsalShape shape → l.alpha ≡ shape.alpha → home_of 10 (number_of l b) ≡ home_of shape.sites (number_in shape b)
home_by_number shape l b is alpha =
    ap (λ (a : ℕ). home_of 10 ((b.node - 1) * (1 + a) + class_number b.class)) alpha
    ∙ ap (λ (m : ℕ). home_of m (number_in shape b)) (sym is.sites)

pub file_by_number : (shape : Shape) (l : Lattice) (b : BlockId) (spot : Spot) → IsRehearsalShape shape → l.alpha ≡ shape.alpha → spot ≡ home_of 10 (number_of l b) → spot.site ≡ home_file shape b
file_by_number shape l b spot is alpha same = ap (λ (s : Spot). s.site) (same ∙ home_by_number shape l b is alpha)

pub place_by_number : (shape : Shape) (l : Lattice) (b : BlockId) (spot : Spot) → IsRehearsalShape shape → l.alpha ≡ shape.alpha → spot ≡ home_of 10 (number_of l b) → spot.cell * 560 ≡ home_place shape b
place_by_number shape l b spot is alpha same =
    ap (λ (n : ℕ). spot.cell * n) (sym (cell-long shape is)) ∙ ap (λ (s : Spot). s.cell * cell_size shape) (same ∙ home_by_number shape l b is alpha)

-- what was written by its number was written at its home
pub written_by_number : (shape : Shape) (b : BlockId) (file place : ℕ) (bytes : List ℕ) (old new : Files) → file ≡ home_file shape b → place ≡ home_place shape b
    → ChangesFile file (Holds place bytes) old new → ChangesFile (home_file shape b) (Holds (home_place shape b) bytes) old new
written_by_number shape b file place bytes old new here there changes =
    subst (λ (f : ℕ). ChangesFile f (Holds (home_place shape b) bytes) old new) here (subst (λ (p : ℕ). ChangesFile file (Holds p bytes) old new) there changes)

pub room_by_number : (shape : Shape) (b : BlockId) (file place n : ℕ) (s : State) → file ≡ home_file shape b → place ≡ home_place shape b → n ≡ cell_size shape
    → HasRoomTo s (home_file shape b) (home_place shape b + cell_size shape) → s.room file (place + n)
room_by_number shape b file place n s here there long room =
    let end : home_place shape b + cell_size shape ≡ place + n = omega (arith, there, long) in
    subst (λ (f : ℕ). s.room f (place + n)) (sym here) (subst (λ (e : ℕ). s.room (home_file shape b) e) end room)

-- the disk of a rehearsal is willing
pub cells_willing : (s : State) → HasCellsRoom s → IsWilling s
cells_willing s room = record {
  free = room.free;
  syncs = room.syncs;
  some = (1, 0, room.sites 1 0 (omega arith) (omega arith) (omega arith));
}

-- a disk that is willing has space for calls that only read
pub willing_roomy : (s : State) → IsWilling s → IsRoomy s
willing_roomy s willing = record { some = willing.some; sync = willing.syncs (s.files 0) }

-- and is ready, by the law of a disk without a rule
pub willing_ready : (s : State) → ((f : ℕ) (b : List ℕ) (m : ℕ) → s.free → s.takes f b m) → IsWilling s → IsReady s
willing_ready s law willing = (0, law 0 (s.files 0) 0 willing.free)

-- the rows of so few nodes end within the space of a site
pub rows-short : (shape : Shape) (n : ℕ) → IsRehearsalShape shape → n ≤ 65536 → site_bytes shape n ≤ 14680400
rows-short shape n is few =
    let rows : ((1 + 3) * n + 10 - 1) / 10 ≤ 26215 = omega (arith, few) in
    let same : site_bytes shape n ≡ (((1 + 3) * n + 10 - 1) / 10) * 560 =
    ap (λ (k : ℕ). (((1 + shape.alpha) * n + shape.sites - 1) / shape.sites) * k) (cell-long shape is)
    ∙ ap (λ (k : ℕ). (((1 + shape.alpha) * n + k - 1) / k) * 560) is.sites
    ∙ ap (λ (k : ℕ). (((1 + k) * n + 10 - 1) / 10) * 560) is.alpha in
    omega (arith, same, rows)

-- and so there is space for each home
pub home_room : HomesAreInRows → HomesAreOnItsSites → (shape : Shape) (n : ℕ) (b : BlockId) (s : State) → IsRehearsalShape shape → IsBlockOf shape b → b.node ≤ n → n ≤ 65536 → HasCellsRoom s
    → HasRoomTo s (home_file shape b) (home_place shape b + cell_size shape)
home_room rows sites shape n b s is has within few room =
    let on = (sites shape).1 b in
    let count = is.sites in
    room.sites (home_file shape b) (home_place shape b + cell_size shape) on.0 (omega (arith, on.1, count))
    (omega (arith, rows shape n b has within, rows-short shape n is few))

-- space stays while the count of faults does
pub cells_room_stays : (old new : State) → Passes old new → new.faults ≡ old.faults → HasCellsRoom old → HasCellsRoom new
cells_room_stays old new time steady room = record {
  sites = λ f n first last small. time.room f n (room.sites f n first last small);
  free = time.free room.free;
  syncs = λ bytes. time.syncs bytes (room.syncs bytes);
  count = (let below = room.count in omega (arith, below, steady));
}

-- a write of a whole cell is a change of its home
pub writes_home : (shape : Shape) (b : BlockId) (cell : List ℕ) (old new : Files) → length cell ≡ cell_size shape → ChangesFile (home_file shape b) (Holds (home_place shape b) cell) old new → ChangesHome shape b old new
writes_home shape b cell old new long changes =
    changes_wider (home_file shape b) (Holds (home_place shape b) cell) (Torn (home_place shape b) (cell_size shape)) old new
    (λ xs ys holds. subst (λ (n : ℕ). Torn (home_place shape b) n xs ys) long (holds_torn (home_place shape b) cell xs ys holds)) changes

pub rehearsal_room_stays : (nodes : ℕ) (old new : State) → Passes old new → new.faults ≡ old.faults → HasRehearsalRoom nodes old → HasRehearsalRoom nodes new
rehearsal_room_stays nodes old new time steady room = record {
  cells = cells_room_stays old new time steady room.cells;
  ledger = λ n small. time.room 0 n (room.ledger n small);
}

-- a disk that is willing is so later on too
pub willing_after : (old new : State) → Passes old new → IsWilling old → IsWilling new
willing_after old new time willing = record {
  free = time.free willing.free;
  syncs = λ bytes. time.syncs bytes (willing.syncs bytes);
  some = (willing.some.0, willing.some.1, time.room willing.some.0 willing.some.1 willing.some.2);
}
