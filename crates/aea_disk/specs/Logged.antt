-- What the calls of a disk in memory mean.
use Rattle.std.specs.Prelude.{◌≡◌, ℕ, ◌+◌, ◌≤◌, ◌<◌, ◌⊎◌, ◌∷◌, ◌++◌, List, [], length, take, drop, slice_index_or}
use Rattle.aea_disk.specs.Files.{Files}
use Rattle.aea_disk.specs.Space.{Extent}
use Rattle.aea_disk.specs.Spaces.{files_of, room_of, room_for}
use Rattle.aea_disk.specs.Replays.{reads_image}
use Rattle.std.proofs.Common.{le_refl}
use Rattle.aea_disk.specs.State.{State, no_lent}
use Rattle.aea_disk.specs.Events.{Event, Looked, Wrote, Shortened, Synced, reads_at, image_at}
use Rattle.aea_disk.specs.Log.{Log}
use Rattle.aea_disk.specs.declared.mem.Call.{Call}
use Rattle.aea_disk.specs.declared.mem.Call.TheVariants.{Len, Read, Write, Cut, Sync}

-- the bytes of a write are in the list of bytes
abbrev pub event_of : List ℕ → Call → Event
event_of bytes Len = Looked
event_of bytes Read = Looked
event_of bytes (Write file at from n) = Wrote file at (take n (drop from bytes))
event_of bytes (Cut file len) = Shortened file len
event_of bytes Sync = Synced

-- where a write's bytes end in the list of bytes
abbrev pub end_of : Call → ℕ
end_of (Write file at from n) = from + n
end_of other = 0

-- the file of a call, and where a write ends in it
abbrev pub file_of : Call → ℕ
file_of (Write file at from n) = file
file_of (Cut file len) = file
file_of other = 0

abbrev pub end_in_file : Call → ℕ
end_in_file (Write file at from n) = at + n
end_in_file other = 0

-- the call with this number, counted from 0
abbrev pub events_of : List Call → List ℕ → ℕ → Event
events_of calls bytes k = event_of bytes (slice_index_or calls k Len)

-- the files are those after all calls, each write's bytes are there, and it fits its file's capacity
pub record IsLogged (spaces : List Extent) (calls : List Call) (bytes : List ℕ) : Type 0 where
  pub reads : (f : ℕ) → files_of spaces f ≡ reads_at (events_of calls bytes) (length calls) f
  pub within : (k : ℕ) → end_of (slice_index_or calls k Len) ≤ length bytes
  pub numbers : (k : ℕ) → file_of (slice_index_or calls k Len) < 67
  pub rooms : (k : ℕ) → end_in_file (slice_index_or calls k Len) ≤ room_of spaces (file_of (slice_index_or calls k Len))

-- the disk that these calls leave; each call is a moment
abbrev pub log_state : Log → State
log_state d = record {
  files = reads_at (events_of d.calls d.bytes) (length d.calls);
  moment = length d.calls;
  image = λ t c. (t ≤ length d.calls) × image_at (events_of d.calls d.bytes) t c;
  faults = d.faults;
  room = λ f n. ⊥;
  beneath = d.faults;
  takes = λ f b at. Unit {0};
  keeps = λ b. Unit {0};
  free = Unit {0};
  lent = no_lent;
}

-- a law of the disk: it may be left as it reads
pub log_as_it_reads : (d : Log) (t : ℕ) (c : Files) → (log_state d).image t c → (log_state d).image (log_state d).moment (log_state d).files
log_as_it_reads d t c here = (le_refl (length d.calls), reads_image (events_of d.calls d.bytes) (length d.calls))

-- no call yet, so files without bytes
pub record IsFreshLog (sites ledger site calls bytes : ℕ) (d : Log) : Type 0 where
  pub none : d.calls ≡ []
  pub no_bytes : d.bytes ≡ []
  pub rooms : (f : ℕ) → f < 67 → room_of d.spaces f ≡ room_for sites ledger site f
  pub calls_room : d.calls_room ≡ calls
  pub bytes_room : d.bytes_room ≡ bytes
  pub count : d.faults ≡ 0

-- The call is at the end of the list, its bytes at the end of theirs, and the capacities and the count are as before.
pub record Lists (old new : Log) (call : Call) (more : List ℕ) : Type 0 where
  pub calls : new.calls ≡ old.calls ++ call ∷ []
  pub bytes : new.bytes ≡ old.bytes ++ more
  pub calls_room : new.calls_room ≡ old.calls_room
  pub bytes_room : new.bytes_room ≡ old.bytes_room
  pub rooms : (f : ℕ) → room_of new.spaces f ≡ room_of old.spaces f
  pub faults : new.faults ≡ old.faults

-- a call that leaves the files as they read
abbrev pub IsQuiet : Call → Type 0
IsQuiet Len = Unit {0}
IsQuiet Read = Unit {0}
IsQuiet (Write file at from n) = ⊥
IsQuiet (Cut file len) = ⊥
IsQuiet Sync = Unit {0}

-- the list has no space for one more call
abbrev pub IsListFull : Log → Type 0
IsListFull d = d.calls_room ≤ length d.calls

-- the list has no space for the call, or for the bytes, or they end past the file's capacity
abbrev pub IsWriteRefused : Log → ℕ → ℕ → ℕ → Type 0
IsWriteRefused d file at n = IsListFull d ⊎ (d.bytes_room < length d.bytes + n) ⊎ (room_of d.spaces file < at + n)
