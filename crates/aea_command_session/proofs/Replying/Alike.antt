-- A message that is spelled as one of a stream asks for no more space than that.
use Rattle.std.proofs.Common.{◌≡◌, ⊎_elim, ℕ, ◌+◌, ◌*◌, ◌^◌, ◌<◌, ◌≤◌, Bool, true, false, ◌==◌, List, length, take, drop, get_or, refl, sym, ◌∙◌, ap, subst, arith}
use Rattle.std.specs.Prelude.{◌&&◌, nat_le, if◌then◌else◌}
use Rattle.std.specs.Int.{w32, to_be_bytes, from_be_bytes}
use Rattle.std.specs.Cmp.Derive.{both_true}
use Rattle.std.proofs.lemmas.Bool.{cases_lt, and_parts}
use Rattle.std.proofs.lemmas.Bool.Decides.{nat_tests}
use Rattle.std.proofs.lemmas.Nat.{from_be_bytes-to_be_bytes_4}
use Rattle.aea_lattice.specs.declared.shape.Shape.{Shape}
use Rattle.aea_messages.specs.declared.message.Message.{Message}
use Rattle.aea_messages.specs.declared.message.Message.TheVariants.{Open, Chunk, Close, Abort, Read, Patrol}
use Rattle.aea_messages.specs.Messages.{spelled, IsMessage}
use Rattle.aea_machine.specs.Machine.{Machine, Patrols, BadRange, stays, greatest_patrol, is_range, step}
use Rattle.aea_session.specs.Looks.{greatest_reply}

-- how many bytes the reply to a message has at most
abbrev pub greatest_for : Shape → Machine → Message → ℕ
greatest_for shape m message = greatest_reply (step shape m message).answer

-- one message has the reply that it has
same_most : (shape : Shape) (m : Machine) (one other : Message) → one ≡ other → greatest_for shape m one ≤ greatest_for shape m other
same_most shape m one other is = (let same = ap (greatest_for shape m) is in omega (arith, same))

-- ---- ranges

-- the range of these numbers, of 4 bytes each
abbrev range_of : ℕ → ℕ → Message
range_of first count = Patrol (from_be_bytes w32 (to_be_bytes w32 first)) (from_be_bytes w32 (to_be_bytes w32 count))

-- what a range that can be patrolled is
range_is : (blocks first count : ℕ) → (nat_le 1 count && nat_le count greatest_patrol && nat_le (first + count) blocks) ≡ true → (1 ≤ count) × (count ≤ greatest_patrol) × (first + count ≤ blocks)
range_is blocks first count is =
    let outer = and_parts (nat_le 1 count && nat_le count greatest_patrol) (nat_le (first + count) blocks) is in
    let inner = and_parts (nat_le 1 count) (nat_le count greatest_patrol) outer.0 in
    let some = inner.0 in
    let few = inner.1 in
    let within = outer.1 in
    (grind (arith, nat_tests, some), grind (arith, nat_tests, few), grind (arith, nat_tests, within))

-- a test of numbers that are in order
le_true : (a b : ℕ) → a ≤ b → nat_le a b ≡ true
le_true a b le = grind (arith, nat_tests, le)

-- and what is so is one
is_one : (blocks first count : ℕ) → (1 ≤ count) × (count ≤ greatest_patrol) × (first + count ≤ blocks) → (nat_le 1 count && nat_le count greatest_patrol && nat_le (first + count) blocks) ≡ true
is_one blocks first count is =
    both_true (both_true (le_true 1 count is.0) (le_true count greatest_patrol is.1)) (le_true (first + count) blocks is.2)

-- by whether the ranges are ones
range_by : (m : Machine) (first one count many : ℕ) (r q : Bool) → (r ≡ true → (q ≡ true) × (count ≡ many))
    → greatest_reply (if r then stays m (Patrols first count) else stays m BadRange).answer ≤ greatest_reply (if q then stays m (Patrols one many) else stays m BadRange).answer
range_by m first one count many true true goes = (let same = (goes refl).1 in omega (arith, same))
range_by m first one count many true false goes = absurd (let no = (goes refl).0 in cc)
range_by m first one count many false true goes = omega arith
range_by m first one count many false false goes = omega arith

-- what 4 bytes of a number are is no more than the number
no_more : (n : ℕ) → from_be_bytes w32 (to_be_bytes w32 n) < 2 ^ 32 → from_be_bytes w32 (to_be_bytes w32 n) ≤ n
no_more n short = ⊎_elim
    (λ (less : n < 2 ^ 32). (let same = from_be_bytes-to_be_bytes_4 n less in omega (arith, same)))
    (λ (more : 2 ^ 32 ≤ n). omega (arith, more, short))
    (cases_lt n (2 ^ 32))

-- a range, and that which its 8 bytes are
range_most : (shape : Shape) (m : Machine) (first count : ℕ) → IsMessage (range_of first count) → greatest_for shape m (Patrol first count) ≤ greatest_for shape m (range_of first count)
range_most shape m first count is =
    let blocks : ℕ = length m.datas * (1 + shape.alpha) in
    let one : ℕ = from_be_bytes w32 (to_be_bytes w32 first) in
    let many : ℕ = from_be_bytes w32 (to_be_bytes w32 count) in
    range_by m first one count many (is_range shape m first count) (is_range shape m one many)
    (λ has.
    let range = range_is blocks first count has in
    let some = range.0 in
    let few = range.1 in
    let within = range.2 in
    let same : many ≡ count = from_be_bytes-to_be_bytes_4 count (omega (arith, few)) in
    let least : one ≤ first = no_more first is.fields.0 in
    (is_one blocks one many (omega (arith, some, same), omega (arith, few, same), omega (arith, within, same, least)), sym same))

-- ---- by the bytes of a message

-- what a message is, by its bytes
message_by : ℕ → ℕ → List ℕ → Message
message_by kind slot bytes =
    if kind == 1 then Open slot (drop 4 bytes)
    else if kind == 2 then Chunk slot (drop 6 bytes)
    else if kind == 3 then Close slot
    else if kind == 4 then Abort slot
    else if kind == 5 then Read (drop 3 bytes)
    else Patrol (from_be_bytes w32 (take 4 (drop 1 bytes))) (from_be_bytes w32 (drop 5 bytes))

message_of : List ℕ → Message
message_of bytes = message_by (get_or bytes 0 0) (get_or bytes 1 0) bytes

-- one of a stream is so
read_back : (message : Message) → IsMessage message → message_of (spelled message) ≡ message
unfolding message_by message_of
read_back (Open slot name) is = refl
read_back (Chunk slot bytes) is = refl
read_back (Close slot) is = refl
read_back (Abort slot) is = refl
read_back (Read name) is = refl
read_back (Patrol first count) is =
    ap (λ (k : ℕ). Patrol k (from_be_bytes w32 (to_be_bytes w32 count))) (from_be_bytes-to_be_bytes_4 first is.fields.0)
    ∙ ap (Patrol first) (from_be_bytes-to_be_bytes_4 count is.fields.1)

-- A message that is spelled as one of a stream has a reply of no more bytes.
pub most_alike : (shape : Shape) (m : Machine) (one other : Message) → IsMessage other → spelled one ≡ spelled other → greatest_for shape m one ≤ greatest_for shape m other
unfolding message_by message_of
most_alike shape m (Open slot name) other is same = same_most shape m (Open slot name) other (ap message_of same ∙ read_back other is)
most_alike shape m (Chunk slot bytes) other is same = same_most shape m (Chunk slot bytes) other (ap message_of same ∙ read_back other is)
most_alike shape m (Close slot) other is same = same_most shape m (Close slot) other (ap message_of same ∙ read_back other is)
most_alike shape m (Abort slot) other is same = same_most shape m (Abort slot) other (ap message_of same ∙ read_back other is)
most_alike shape m (Read name) other is same = same_most shape m (Read name) other (ap message_of same ∙ read_back other is)
most_alike shape m (Patrol first count) other is same =
    let range : range_of first count ≡ other = ap message_of same ∙ read_back other is in
    subst (λ (x : Message). greatest_for shape m (Patrol first count) ≤ greatest_for shape m x) range (range_most shape m first count (subst IsMessage (sym range) is))
