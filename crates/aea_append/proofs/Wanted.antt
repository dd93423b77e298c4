-- What is wanted of a source: a number of its bytes, or all.
use Rattle.std.proofs.Common.{◌≡◌, ℕ, ◌+◌, ◌<◌, ◌≤◌, List, length, Option, None, Some, refl, arith}
use Rattle.std.specs.Io.KnownBytes.{Consumes, IsAtEnd}
use Rattle.aea_disk.specs.State.{State}
use Rattle.aea_records.specs.Format.{nodes_for, limit_when}
use Rattle.aea_ledger.specs.Values.{Opened}
use Rattle.aea_append.specs.Taking.{limit_of, most_of, long_of, room_left, HasPassedRoom, IsOver, IsThere}
use Rattle.aea_append.specs.Puts.{IsWanted}
use Rattle.aea_append.specs.Causes.{HasRecordRoom, HasWantedRoom}
use Rattle.aea_append.proofs.Rooms.{fits_room, taken_long}

-- an object with what was wanted
pub wanted_of : (want : Option ℕ) (name bytes : List ℕ) (left rest : Option (List ℕ)) → Consumes left rest bytes → (want ≡ None → IsAtEnd rest) → ((n : ℕ) → want ≡ Some n → length bytes ≡ n)
    → IsWanted want name left rest (record { name = name; bytes = bytes })
wanted_of None name bytes left rest taken end long = record { name_is = refl; taken = taken; end = end refl }
wanted_of (Some n) name bytes left rest taken end long = record { name_is = refl; taken = taken; long = long n refl }

-- the space of the ledger for the record of what was taken
pub wanted_ledger : (v : Opened) (name : List ℕ) (want : Option ℕ) (left rest : Option (List ℕ)) (s : State) → HasWantedRoom v name want left rest s → (bytes : List ℕ) → Consumes left rest bytes → (want ≡ None → IsAtEnd rest)
    → ((n : ℕ) → want ≡ Some n → length bytes ≡ n) → HasRecordRoom v name (length bytes) s
wanted_ledger v name want left rest s room bytes taken end long = room.ledger (record { name = name; bytes = bytes }) (wanted_of want name bytes left rest taken end long)

-- what exceeds the space does not fit
pub over_none : (v : Opened) (want : Option ℕ) (left rest : Option (List ℕ)) (bytes : List ℕ) → left ≡ Some bytes → IsOver v want left rest → v.lattice.n + nodes_for v.shape (long_of want bytes) ≤ limit_when v.raised → ⊥
over_none v None left rest bytes is passed fits =
    let long = taken_long left bytes passed.0 rest is passed.1 in
    let room = fits_room v (length bytes) fits in
    omega (arith, long, passed.2, room)
over_none v (Some n) left rest bytes is over fits =
    let room = fits_room v n fits in
    omega (arith, over, room)

-- what is wanted within the space is at most what is taken
pub limit_most : (want : Option ℕ) (room : ℕ) → limit_of want room ≤ room → limit_of want room ≤ most_of want room
limit_most None room within = omega arith
limit_most (Some n) room within = omega (arith, within)

-- where all is wanted, one byte more may be taken
pub limit_more : (want : Option ℕ) (room : ℕ) → want ≡ None → limit_of want room + 1 ≤ most_of want room
limit_more None room is = omega arith
limit_more (Some n) room is = absurd (let e = is in cc)

-- where all is wanted, the limit is the space
pub limit_all : (want : Option ℕ) (room : ℕ) → want ≡ None → limit_of want room ≡ room
limit_all None room is = refl
limit_all (Some n) room is = absurd (let e = is in cc)

-- where a number is, it is the limit
pub limit_cut : (want : Option ℕ) (room n : ℕ) → want ≡ Some n → limit_of want room ≡ n
limit_cut None room n is = absurd (let e = is in cc)
limit_cut (Some m) room n is = (let e = is in cc)

-- more than the space is wanted where the limit exceeds it
pub over_limit : (v : Opened) (want : Option ℕ) (left rest : Option (List ℕ)) → room_left v < limit_of want (room_left v) → IsOver v want left rest
over_limit v None left rest over = absurd (omega (arith, over))
over_limit v (Some n) left rest over = over

-- where all is wanted, that is a byte past the space
pub over_all : (v : Opened) (want : Option ℕ) (left rest : Option (List ℕ)) → want ≡ None → HasPassedRoom v left rest → IsOver v want left rest
over_all v None left rest all passed = passed
over_all v (Some n) left rest all passed = absurd (let e = all in cc)

-- all and a number are not wanted at once
pub not_both : (want : Option ℕ) (n : ℕ) → want ≡ None → want ≡ Some n → ⊥
not_both want n none some = (let e = none in let f = some in cc)

-- a number that is there is no longer than the bytes
pub there_long : (want : Option ℕ) (n : ℕ) (bytes : List ℕ) → want ≡ Some n → IsThere want bytes → n ≤ length bytes
there_long None n bytes is there = absurd (let e = is in cc)
there_long (Some m) n bytes is there = (let e : m ≡ n = (let f = is in cc) in omega (arith, e, there))
