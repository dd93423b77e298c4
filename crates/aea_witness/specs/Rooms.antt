-- The space of the witness.
use Rattle.std.specs.Prelude.{◌≡◌, ℕ, ◌≤◌, []}
use Rattle.aea_io.specs.declared.sure.SureSink.{SureSink}
use Rattle.aea_disk.specs.State.{State, HasRoomTo}
use Rattle.aea_rehearse.specs.Rooms.{HasCellsRoom}

-- The sites have space for the rows of the most nodes that an archive may have, and the ledger for the records of the objects.
pub record HasWitnessRoom (s : State) : Type 0 where
  pub cells : HasCellsRoom s
  pub ledger : (n : ℕ) → n ≤ 1000 → HasRoomTo s 0 n

-- The sink has no bytes yet, and space for so many.
pub record IsEmptySink (room : ℕ) (sink : SureSink) : Type 0 where
  pub empty : sink.bytes.items ≡ []
  pub space : sink.room ≡ room
