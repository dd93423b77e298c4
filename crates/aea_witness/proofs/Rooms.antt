-- The space for one object more.
use Rattle.std.proofs.Common.{◌≡◌, ℕ, ◌+◌, ◌-◌, ◌*◌, ◌≤◌, List, length, length-append, Option, Some, None, ◌∷◌, ap, arith}
use Rattle.std.specs.Io.KnownBytes.{Consumes}
use Rattle.aea_disk.specs.Files.{Files}
use Rattle.aea_disk.specs.State.{State, Passes}
use Rattle.aea_shelf.specs.Places.{site_bytes}
use Rattle.aea_records.specs.Format.{nodes_for, limit_when, spelled}
use Rattle.aea_ledger.specs.Values.{Opened}
use Rattle.aea_archive.specs.Cells.{FitsRows}
use Rattle.aea_archive.specs.Next.{NewObject}
use Rattle.aea_append.specs.Causes.{HasPutRoom, next_end}
use Rattle.aea_append.specs.Taking.{HasPassedRoom, room_left}
use Rattle.aea_rehearse.proofs.Built.{nodes-512, fewer_nodes}
use Rattle.aea_rehearse.proofs.Homes.{rows-short, cells_room_stays}
use Rattle.aea_rehearse.specs.Rehearsed.{IsRehearsalShape}
use Rattle.aea_witness.specs.Objects.{HasPuts, IsSmall}
use Rattle.aea_witness.specs.Rooms.{HasWitnessRoom}

-- a small object takes one node
pub one_node : (v : Opened) (o : NewObject) → IsRehearsalShape v.shape → IsSmall o → nodes_for v.shape (length o.bytes) ≡ 1
one_node v o is small = let same = nodes-512 v.shape (length o.bytes) is in let some = small.some in let most = small.block in omega (arith, same, some, most)

-- the ledger ends before its file does
pub ends_within : (v : Opened) (puts : List NewObject) (s : State) → HasPuts v puts s.files → v.end + 1 ≤ length (s.files 0)
ends_within v puts s p =
    let l = p.its.ledger in
    let long = ap length l.spelling in
    let place = l.place in
    omega (arith, long, place, length-append (spelled v.shape p.records) (l.gate ∷ l.after))

-- no more is taken than there is
taken_short : (bytes taken : List ℕ) (rest : Option (List ℕ)) → Consumes (Some bytes) rest taken → length taken ≤ length bytes
taken_short bytes taken None gone = absurd gone
taken_short bytes taken (Some more) gone = omega (arith, ap length gone, length-append taken more)

-- there is space for the rows
pub rows_fit : (v : Opened) (puts : List NewObject) (s : State) → HasPuts v puts s.files → HasWitnessRoom s → FitsRows v.shape (limit_when v.raised) s
rows_fit v puts s p room = record {
  sites = λ f first last.
      let count = p.shape.sites in
      let limit : limit_when v.raised ≡ 65536 = ap limit_when p.raised in
      room.cells.sites f (site_bytes v.shape (limit_when v.raised)) first (omega (arith, last, count)) (rows-short v.shape (limit_when v.raised) p.shape (omega (arith, limit)));
  sync = room.cells.syncs (s.files 0);
}

-- there is space for the put
pub put_room : (v : Opened) (puts : List NewObject) (o : NewObject) (rest : Option (List ℕ)) (s : State) → HasPuts v puts s.files → length puts ≤ 3 → IsSmall o → HasWitnessRoom s → HasPutRoom v o.name (Some o.bytes) rest s
put_room v puts o rest s p few small room = record {
  sites = rows_fit v puts s p room;
  ledger = λ q whole enters intact fits.
      let taken = q.bytes in
      let end = ends_within v puts s p in
      let long = p.long in
      let short = small.short in
      let fewer = fewer_nodes v.shape (length taken) (length o.bytes) p.shape (taken_short o.bytes taken rest whole.taken) in
      let one = one_node v o p.shape small in
      let four : nodes_for v.shape (length taken) * (1 + v.shape.alpha) ≡ nodes_for v.shape (length taken) * 4 = ap (λ (a : ℕ). nodes_for v.shape (length taken) * (1 + a)) p.shape.alpha in
      record {
        room = room.ledger (next_end v.end (length o.name) (nodes_for v.shape (length taken) * (1 + v.shape.alpha)) + 1) (omega (arith, end, long, few, short, fewer, one, four));
        now = room.cells.syncs (s.files 0);
        then = λ xs last one two more. room.cells.syncs xs;
      };
}

-- space stays while the count of faults does
pub room_stays : (old new : State) → Passes old new → new.faults ≡ old.faults → HasWitnessRoom old → HasWitnessRoom new
room_stays old new time steady room = record {
  cells = cells_room_stays old new time steady room.cells;
  ledger = λ n small. time.room 0 n (room.ledger n small);
}

-- and there is no more than fits
pub none_past : (v : Opened) (puts : List NewObject) (o : NewObject) (rest : Option (List ℕ)) (c : Files) → HasPuts v puts c → length puts ≤ 3 → IsSmall o → HasPassedRoom v (Some o.bytes) rest → ⊥
none_past v puts o rest c p few small passed =
    let short = taken_short o.bytes passed.0 rest passed.1 in
    let most = small.block in
    let n = p.nodes in
    let limit : limit_when v.raised ≡ 65536 = ap limit_when p.raised in
    let left : room_left v ≡ (limit_when v.raised - v.lattice.n) * 512 = ap (λ (b : ℕ). (limit_when v.raised - v.lattice.n) * b) p.shape.block in
    let long = passed.2 in
    absurd (omega (arith, short, most, n, few, limit, left, long))
