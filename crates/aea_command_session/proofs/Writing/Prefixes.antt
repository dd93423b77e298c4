-- The first messages of a source.
use Rattle.std.proofs.Common.{◌≡◌, ℕ, List, [], ◌∷◌, ◌++◌, Option, None, Some, sym, ◌∙◌, ap, subst, arith, append_assoc, length-append}
use Rattle.std.specs.Io.KnownBytes.{Consumes}
use Rattle.std.proofs.lemmas.List.Concat.{flat_map-append}
use Rattle.std.proofs.lemmas.List.{append-nil}
use Rattle.aea_messages.specs.declared.message.Message.{Message}
use Rattle.aea_messages.specs.declared.message.Message.TheVariants.{Open, Chunk, Close, Abort, Read, Patrol}
use Rattle.aea_messages.specs.Messages.{spelled, spelled_all, IsMessage, AreMessages}
use Rattle.aea_command_session.specs.Space.{BeginsWith}

-- where bytes were taken, the first of them were
pub taken_first : (left rest : Option (List ℕ)) (xs ys : List ℕ) → Consumes left rest (xs ++ ys) → (mid : Option (List ℕ)) × Consumes left mid xs
taken_first None rest xs ys taken = (None, tt)
taken_first (Some bytes) None xs ys none = absurd none
taken_first (Some bytes) (Some more) xs ys taken = (Some (ys ++ more), taken ∙ append_assoc xs ys more)

-- the first of messages are messages
are_first : (early late : List Message) → AreMessages (early ++ late) → AreMessages early
are_first [] late are = tt
are_first (message ∷ early) late are = (are.0, are_first early late are.1)

-- where a source begins with messages, it begins with the first of them
pub begins_first : (left : Option (List ℕ)) (early late : List Message) → BeginsWith left (early ++ late) → BeginsWith left early
begins_first left early late begins =
    let part = taken_first left begins.rest (spelled_all early) (spelled_all late) (subst (Consumes left begins.rest) (flat_map-append spelled early late) begins.taken) in
    record {
      are = are_first early late begins.are;
      few = (let few = begins.few in omega (arith, few, length-append early late));
      rest = part.0;
      taken = part.1;
    }

-- the spelling of messages and of one more
pub spelled_more : (messages : List Message) (message : Message) → spelled_all messages ++ spelled message ≡ spelled_all (messages ++ message ∷ [])
spelled_more messages message = ap (λ (l : List ℕ). spelled_all messages ++ l) (sym (append-nil (spelled message))) ∙ sym (flat_map-append spelled messages (message ∷ []))

-- messages and one more are messages
pub are_more : (messages : List Message) (message : Message) → AreMessages messages → IsMessage message → AreMessages (messages ++ message ∷ [])
are_more [] message are is = (is, tt)
are_more (first ∷ messages) message are is = (are.0, are_more messages message are.1 is)

-- the first byte of what is spelled, and the second
first_byte : List ℕ → ℕ
first_byte [] = 0
first_byte (b ∷ bytes) = b

second_byte : List ℕ → ℕ
second_byte [] = 0
second_byte (b ∷ bytes) = first_byte bytes

-- What is spelled as a close, and is a message, is that close.
pub close_is : (slot : ℕ) (message : Message) → IsMessage message → spelled message ≡ spelled (Close slot) → IsMessage (Close slot)
unfolding first_byte second_byte
close_is slot (Open other name) is same = absurd (let e : 1 ≡ 3 = ap first_byte same in omega (arith, e))
close_is slot (Chunk other bytes) is same = absurd (let e : 2 ≡ 3 = ap first_byte same in omega (arith, e))
close_is slot (Close other) is same = subst (λ (s : ℕ). IsMessage (Close s)) (ap second_byte same) is
close_is slot (Abort other) is same = absurd (let e : 4 ≡ 3 = ap first_byte same in omega (arith, e))
close_is slot (Read name) is same = absurd (let e : 5 ≡ 3 = ap first_byte same in omega (arith, e))
close_is slot (Patrol first count) is same = absurd (let e : 6 ≡ 3 = ap first_byte same in omega (arith, e))
