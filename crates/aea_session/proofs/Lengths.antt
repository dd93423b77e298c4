-- How long a reply is.
use Rattle.std.proofs.Common.{◌≡◌, inl, inr, ℕ, suc, ◌+◌, ◌*◌, ◌≤◌, List, [], length, take, refl, sym, subst, arith, length-append, length-take}
use Rattle.std.specs.Prelude.{not, filter}
use Rattle.std.specs.List.{range_with_len}
use Rattle.std.specs.Int.{w64, to_be_bytes}
use Rattle.aea_lattice.specs.declared.blocks.BlockId.{BlockId}
use Rattle.aea_lattice.specs.declared.shape.Shape.{Shape}
use Rattle.aea_catalog.specs.Catalogs.{Placed}
use Rattle.aea_disk.specs.Files.{Files}
use Rattle.aea_ledger.specs.Values.{Opened}
use Rattle.aea_archive.specs.Objects.{joined}
use Rattle.aea_fetch.specs.Payloads.{IsPayload}
use Rattle.aea_messages.specs.declared.message.Message.{Message}
use Rattle.aea_machine.specs.Machine.{Machine, Answer, Made, Closed, Reads, Patrols, BadSlot, SlotTaken, SlotFree, BadName, NameTaken, NameOpen, Full, CatalogFull, UnknownName, BadRange, step}
use Rattle.aea_machine.specs.Replies.{reply, body_of, object_body, numbers_body, IsObjectReply, IsRangeReply, IsReply}
use Rattle.aea_session.specs.Looks.{IsReplyTo, greatest_reply}
use Rattle.aea_session.proofs.LookingOver.{length-range, filter-most, length-range_reply}

-- bytes that are these have at most so many as these
most_of : (bytes text : List ℕ) (most : ℕ) → bytes ≡ text → length text ≤ most → length bytes ≤ most
most_of bytes text most is few = subst (λ (l : List ℕ). length l ≤ most) (sym is) few

-- the kind, the code, and the body
plain_most : (bytes : List ℕ) (message : Message) (code : ℕ) (body : List ℕ) → bytes ≡ reply message code body → length bytes ≤ 2 + length body
plain_most bytes message code body is = most_of bytes (reply message code body) (2 + length body) is (omega arith)

-- an object's length, and its bytes; or the number of a damaged block
object_most : (reveals : Type 0) (has : BlockId → List ℕ → Type 0) (shape : Shape) (digests : List (List ℕ)) (c : Files) (message : Message) (placed : Placed) (code : ℕ) (bytes : List ℕ)
    → IsObjectReply reveals has shape digests c message placed code bytes → length bytes ≤ 10 + placed.object.length
object_most reveals has shape digests c message placed code bytes is =
    elim is [
      | inl all ↦
          let text : List ℕ = take placed.object.length (joined all.0) in
          let body = length-append (to_be_bytes w64 placed.object.length) text in
          let eight : length (to_be_bytes w64 placed.object.length) ≡ 8 = refl in
          let two : length (reply message 0 (object_body placed.object.length text)) ≡ suc (suc (length (object_body placed.object.length text))) = refl in
          let few = length-take placed.object.length (joined all.0) in
          most_of bytes (reply message 0 (object_body placed.object.length text)) (10 + placed.object.length) all.5 (omega (arith, body, eight, two, few))
      | inr one ↦ most_of bytes _ (10 + placed.object.length) one.4 (omega arith)
    ]

-- the numbers of a range, at most one for each of its blocks
range_most : (reveals : Type 0) (shape : Shape) (nodes : ℕ) (digests : List (List ℕ)) (c : Files) (message : Message) (first count code : ℕ) (bytes : List ℕ)
    → IsRangeReply reveals shape nodes digests c message first count code bytes → length bytes ≤ 6 + 4 * count
range_most reveals shape nodes digests c message first count code bytes is =
    let numbers : List ℕ = filter (λ k. not (is.0 k)) (range_with_len first count) in
    let few = filter-most (λ k. not (is.0 k)) (range_with_len first count) in
    let all = length-range first count in
    let long = length-range_reply message numbers in
    most_of bytes (reply message 0 (numbers_body numbers)) (6 + 4 * count) is.3 (omega (arith, few, all, long))

-- the reply to an answer of the machine
answer_most : (reveals : Type 0) (has : BlockId → List ℕ → Type 0) (shape : Shape) (nodes : ℕ) (digests : List (List ℕ)) (c : Files) (message : Message) (answer : Answer) (code : ℕ) (bytes : List ℕ)
    → IsReply reveals has shape nodes digests c message answer code bytes → length bytes ≤ greatest_reply answer
answer_most reveals has shape nodes digests c message Made code bytes is = plain_most bytes message 0 [] is.1
answer_most reveals has shape nodes digests c message (Closed count size digest) code bytes is = plain_most bytes message 0 (body_of (Closed count size digest)) is.1
answer_most reveals has shape nodes digests c message (Reads placed) code bytes is = object_most reveals has shape digests c message placed code bytes is
answer_most reveals has shape nodes digests c message (Patrols first count) code bytes is = range_most reveals shape nodes digests c message first count code bytes is
answer_most reveals has shape nodes digests c message BadSlot code bytes is = plain_most bytes message 1 [] is.1
answer_most reveals has shape nodes digests c message SlotTaken code bytes is = plain_most bytes message 2 [] is.1
answer_most reveals has shape nodes digests c message SlotFree code bytes is = plain_most bytes message 3 [] is.1
answer_most reveals has shape nodes digests c message BadName code bytes is = plain_most bytes message 4 [] is.1
answer_most reveals has shape nodes digests c message NameTaken code bytes is = plain_most bytes message 5 [] is.1
answer_most reveals has shape nodes digests c message NameOpen code bytes is = plain_most bytes message 6 [] is.1
answer_most reveals has shape nodes digests c message (Full count) code bytes is = plain_most bytes message 7 (body_of (Full count)) is.1
answer_most reveals has shape nodes digests c message CatalogFull code bytes is = plain_most bytes message 8 [] is.1
answer_most reveals has shape nodes digests c message UnknownName code bytes is = plain_most bytes message 9 [] is.1
answer_most reveals has shape nodes digests c message BadRange code bytes is = plain_most bytes message 11 [] is.1

-- A reply is no longer than the greatest one to the machine's answer. For a crate above that asks for the space of its output
pub reply_long : (reveals : Type 0) (v : Opened) (m : Machine) (c : Files) (message : Message) (code : ℕ) (bytes : List ℕ) → IsReplyTo reveals v m c message code bytes
    → length bytes ≤ greatest_reply (step v.shape m message).answer
reply_long reveals v m c message code bytes is =
    answer_most reveals (IsPayload reveals v.shape v.digests c) v.shape (length m.datas) v.digests c message (step v.shape m message).answer code bytes is
