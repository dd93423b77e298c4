-- The space of a rehearsal.
use Rattle.std.specs.Prelude.{ℕ, ◌+◌, ◌-◌, ◌*◌, ◌^◌, ◌<◌, ◌≤◌, List}
use Rattle.aea_disk.specs.State.{State, HasRoom, HasRoomTo}

-- The disk has no rule against a call, space to sync whatever is in the ledger file, and some space: so no call that only
-- reads fails, and no sync.
pub record IsWilling (s : State) : Type 0 where
  pub free : s.free
  pub syncs : (bytes : List ℕ) → s.keeps bytes
  pub some : HasRoom s

-- The sites of the disk have space for the rows of the most nodes that an archive may have, it has no rule, and space for any
-- sync, and its count of faults is not at its end. Within the space no call fails.
pub record HasCellsRoom (s : State) : Type 0 where
  pub sites : (f n : ℕ) → 1 ≤ f → f ≤ 10 → n ≤ 14680400 → HasRoomTo s f n
  pub free : s.free
  pub syncs : (bytes : List ℕ) → s.keeps bytes
  pub count : s.faults < 2 ^ 64 - 1

-- And the ledger's file has space for the record of the one object, where that has so many nodes.
pub record HasRehearsalRoom (nodes : ℕ) (s : State) : Type 0 where
  pub cells : HasCellsRoom s
  pub ledger : (n : ℕ) → n ≤ 83 + 128 * nodes → HasRoomTo s 0 n

-- how many bytes a report has at most where the lattice has so many nodes: those of its head; and for each of four blocks a
-- node those of a line with all nodes
abbrev pub report_room : ℕ → ℕ
report_room nodes = 512 + (25 + 5 * nodes) * (4 * nodes)
