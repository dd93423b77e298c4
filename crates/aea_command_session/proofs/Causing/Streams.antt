-- How a stream of messages goes on in one way alone: what is a reason that its end is not reached excludes the others.
use Rattle.std.proofs.Common.{◌≡◌, inl, inr, ℕ, ◌+◌, ◌<◌, List, [], ◌∷◌, ◌++◌, length, refl, sym, ◌∙◌, ap, subst, arith, append_assoc}
use Rattle.aea_messages.specs.declared.message.Message.{Message}
use Rattle.aea_messages.specs.Messages.{kind_of, fields_of, spelled, spelled_all, IsMessage, AreMessages, IsBad, IsCut}
use Rattle.aea_messages.specs.Readings.{MessagesHaveOneReading, MessagesAreNotBad, MessagesAreNotCut, BadAreNotCut, BadAtOnePlace, StreamsHaveOneReading, BeginsNone}
use Rattle.aea_command.specs.declared.refusal.Refusal.TheVariants.{BadStream, BadMessage, TooManyMessages}
use Rattle.aea_session.specs.Serving.{greatest_messages}
use Rattle.aea_command_session.specs.Causes.{HasMessages, StreamCauses}

-- the laws of streams of messages
pub record AreRead : Type 0 where
  pub one : MessagesHaveOneReading
  pub good : MessagesAreNotBad
  pub whole : MessagesAreNotCut
  pub apart : BadAreNotCut
  pub place : BadAtOnePlace
  pub reading : StreamsHaveOneReading

-- what is bad is something
pub bad_some : (bytes rest : List ℕ) (place : ℕ) → IsBad bytes place → bytes ++ rest ≡ [] → ⊥
bad_some bytes rest place bad none = elim bad [
  | inl kind ↦ (let e : kind.0 ∷ rest ≡ [] = sym (ap (λ (l : List ℕ). l ++ rest) kind.1) ∙ none in cc)
  | inr long ↦ (let e = ap length (sym (ap (λ (l : List ℕ). l ++ rest) long.2) ∙ none) in absurd (omega (arith, e)))
]

-- bytes that are bad, and others behind them, begin no message
pub bad_begins : (bytes rest : List ℕ) (place : ℕ) → IsBad bytes place → BeginsNone (bytes ++ rest)
bad_begins bytes rest place bad = inr (inr (bytes, rest, place, refl, bad))

module _ (laws : AreRead) where
  -- a stream that begins with a message does not begin none
  one_or_none : (m : Message) (xs tail : List ℕ) → IsMessage m → BeginsNone tail → spelled m ++ xs ≡ tail → ⊥
  one_or_none m xs tail is none same = elim none [
    | inl empty ↦ (let e : kind_of m ∷ (fields_of m ++ xs) ≡ [] = same ∙ empty in cc)
    | inr (inl cut) ↦ laws.whole m xs tail is cut same
    | inr (inr bad) ↦ laws.good m xs bad.0 bad.1 bad.2 is bad.4 (same ∙ bad.3)
  ]

  -- One that goes on with a message behind some has fewer there than in all.
  pub fewer : (ms : List Message) (m : Message) (xs : List ℕ) (ns : List Message) (tail : List ℕ) → AreMessages ms → IsMessage m → AreMessages ns → BeginsNone tail
      → spelled_all ms ++ (spelled m ++ xs) ≡ spelled_all ns ++ tail → length ms < length ns
  fewer [] m xs [] tail are is all none same = absurd (one_or_none m xs tail is none same)
  fewer [] m xs (n ∷ ns) tail are is all none same = omega arith
  fewer (x ∷ ms) m xs [] tail are is all none same =
      absurd (one_or_none x (spelled_all ms ++ (spelled m ++ xs)) tail are.0 none (sym (append_assoc (spelled x) (spelled_all ms) (spelled m ++ xs)) ∙ same))
  fewer (x ∷ ms) m xs (n ∷ ns) tail are is all none same =
      let both = laws.one x n (spelled_all ms ++ (spelled m ++ xs)) (spelled_all ns ++ tail) are.0 all.0
      (sym (append_assoc (spelled x) (spelled_all ms) (spelled m ++ xs)) ∙ same ∙ append_assoc (spelled n) (spelled_all ns) tail) in
      let less = fewer ms m xs ns tail are.1 is all.1 none both.1 in
      omega (arith, less)

  module _ (input : List ℕ) (messages : List Message) (behind : List ℕ) (has : HasMessages input messages behind) where
    -- ---- where no message is behind these

    -- they are not as many as are taken, with one more
    pub no_more : BeginsNone behind → StreamCauses input TooManyMessages → ⊥
    no_more none cause =
        let less = fewer cause.0 cause.1 cause.2 messages behind cause.3.are cause.4 has.are none (sym cause.3.input_is ∙ has.input_is) in
        let few = has.few in
        omega (arith, less, few, cause.5)

    -- the bytes that are bad are those behind them
    pub bad_there : BeginsNone behind → (at : ℕ) → StreamCauses input (BadMessage at)
        → (bytes : List ℕ) × (rest : List ℕ) × (place : ℕ) × (behind ≡ bytes ++ rest) × IsBad bytes place × (at ≡ length (spelled_all messages) + place)
    bad_there none at cause =
        let both = laws.reading cause.0 messages (cause.1 ++ cause.2) behind cause.4.are has.are (bad_begins cause.1 cause.2 cause.3 cause.5) none (sym cause.4.input_is ∙ has.input_is) in
        (cause.1, cause.2, cause.3, sym both.1, cause.5, cause.6 ∙ ap (λ (ms : List Message). length (spelled_all ms) + cause.3) both.0)

    -- and the bytes that are cut are they all
    pub cut_there : BeginsNone behind → (at : ℕ) → StreamCauses input (BadStream at) → IsCut behind × (at ≡ length input)
    cut_there none at cause =
        let both = laws.reading cause.0 messages cause.1 behind cause.2.are has.are (inr (inl cause.3)) none (sym cause.2.input_is ∙ has.input_is) in
        (subst IsCut both.1 cause.3, cause.4)

    -- ---- where one more is behind as many as are taken

    -- what is behind them is not bad
    pub many_not_bad : (m : Message) (xs : List ℕ) → behind ≡ spelled m ++ xs → IsMessage m → length messages ≡ greatest_messages → (at : ℕ) → StreamCauses input (BadMessage at) → ⊥
    many_not_bad m xs goes is all at cause =
        let less = fewer messages m xs cause.0 (cause.1 ++ cause.2) has.are is cause.4.are (bad_begins cause.1 cause.2 cause.3 cause.5)
        (ap (λ (l : List ℕ). spelled_all messages ++ l) (sym goes) ∙ sym has.input_is ∙ cause.4.input_is) in
        let few = cause.4.few in
        omega (arith, less, few, all)

    -- and not cut
    pub many_not_cut : (m : Message) (xs : List ℕ) → behind ≡ spelled m ++ xs → IsMessage m → length messages ≡ greatest_messages → (at : ℕ) → StreamCauses input (BadStream at) → ⊥
    many_not_cut m xs goes is all at cause =
        let less = fewer messages m xs cause.0 cause.1 has.are is cause.2.are (inr (inl cause.3))
        (ap (λ (l : List ℕ). spelled_all messages ++ l) (sym goes) ∙ sym has.input_is ∙ cause.2.input_is) in
        let few = cause.2.few in
        omega (arith, less, few, all)
