-- The space for a frame, and that of a call that is refused.
use Rattle.std.proofs.Common.{ℕ, List, length, Option, Some, subst}
use Rattle.std.specs.Io.KnownBytes.{Consumes}
use Rattle.aea_lattice.specs.declared.blocks.BlockId.{BlockId}
use Rattle.aea_disk.specs.State.{State}
use Rattle.aea_ledger.specs.Values.{Opened}
use Rattle.aea_archive.specs.Lasts.{IsDamagedLast, AreLastsIntact}
use Rattle.aea_append.specs.Causes.{HasRecordRoom, HasWantedRoom}
use Rattle.aea_append.specs.Frames.{frame_head, HasFrameRoom}
use Rattle.aea_append.proofs.Ingesting.{framed_of}

-- the space for the frame that a source begins with is that for its object
pub frame_room : (v : Opened) (left mid rest : Option (List ℕ)) (name : List ℕ) (size : ℕ) (s : State) → Consumes left mid (frame_head name size) → HasFrameRoom v left s → HasWantedRoom v name (Some size) mid rest s
frame_room v left mid rest name size s head room = record {
  sites = room.sites;
  ledger = λ o cut. subst (λ (n : List ℕ). HasRecordRoom v n (length o.bytes) s) cut.name_is (room.ledger o rest (framed_of left mid rest name size o head cut));
}

-- no last parity is damaged where all are intact
pub none_damaged : (v : Opened) (s : State) → AreLastsIntact v.shape v.lattice v.digests s.files → (a : BlockId) → IsDamagedLast v.shape v.lattice v.digests s.files a → ⊥
none_damaged v s intact a damaged = damaged.damaged (intact a damaged.last)
