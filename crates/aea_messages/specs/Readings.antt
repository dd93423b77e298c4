-- Each stream begins with one thing alone.
use Rattle.std.specs.Prelude.{◌≡◌, ◌⊎◌, ℕ, List, [], ◌++◌}
use Rattle.aea_records.specs.TableLaws.{AreBytes}
use Rattle.aea_messages.specs.declared.message.Message.{Message}
use Rattle.aea_messages.specs.Messages.{spelled, spelled_all, IsMessage, AreMessages, IsBad, IsCut}

-- A stream begins with one message at most.
abbrev pub MessagesHaveOneReading : Type 0
MessagesHaveOneReading =
    (m n : Message) (xs ys : List ℕ) → IsMessage m → IsMessage n → spelled m ++ xs ≡ spelled n ++ ys → (m ≡ n) × (xs ≡ ys)

-- One that begins with a message is not bad,
abbrev pub MessagesAreNotBad : Type 0
MessagesAreNotBad = (m : Message) (xs bytes rest : List ℕ) (place : ℕ) → IsMessage m → IsBad bytes place → spelled m ++ xs ≡ bytes ++ rest → ⊥

-- nor cut;
abbrev pub MessagesAreNotCut : Type 0
MessagesAreNotCut = (m : Message) (xs bytes : List ℕ) → IsMessage m → IsCut bytes → spelled m ++ xs ≡ bytes → ⊥

-- one that is bad is not cut,
abbrev pub BadAreNotCut : Type 0
BadAreNotCut = (bytes rest : List ℕ) (place : ℕ) (cut : List ℕ) → IsBad bytes place → IsCut cut → bytes ++ rest ≡ cut → ⊥

-- and is bad at one place.
abbrev pub BadAtOnePlace : Type 0
BadAtOnePlace = (a b xs ys : List ℕ) (p q : ℕ) → IsBad a p → IsBad b q → a ++ xs ≡ b ++ ys → p ≡ q

-- The bytes begin no message: they are none, or are cut, or begin with what is bad.
abbrev pub BeginsNone : List ℕ → Type 0
BeginsNone tail = (tail ≡ []) ⊎ (IsCut tail ⊎ ((bytes : List ℕ) × (rest : List ℕ) × (place : ℕ) × (tail ≡ bytes ++ rest) × IsBad bytes place))

-- A stream has one list of messages, and one tail.
abbrev pub StreamsHaveOneReading : Type 0
StreamsHaveOneReading =
    (ms ns : List Message) (xs ys : List ℕ) → AreMessages ms → AreMessages ns → BeginsNone xs → BeginsNone ys
    → spelled_all ms ++ xs ≡ spelled_all ns ++ ys → (ms ≡ ns) × (xs ≡ ys)

-- The bytes begin with a message.
abbrev pub BeginsOne : List ℕ → Type 0
BeginsOne stream = (message : Message) × (rest : List ℕ) × IsMessage message × (stream ≡ spelled message ++ rest)

-- Each stream begins with a message, or begins none.
abbrev pub EachStreamBegins : Type 0
EachStreamBegins = (stream : List ℕ) → AreBytes stream → BeginsOne stream ⊎ BeginsNone stream

-- Each stream is messages, and behind them a tail that begins none.
abbrev pub EachStreamIsRead : Type 0
EachStreamIsRead =
    (stream : List ℕ) → AreBytes stream
    → (messages : List Message) × (tail : List ℕ) × AreMessages messages × BeginsNone tail × (stream ≡ spelled_all messages ++ tail)
