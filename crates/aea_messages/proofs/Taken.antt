-- What was taken piece by piece is taken as a whole, and what it tells.
use Rattle.std.proofs.Common.{◌≡◌, ◌≢◌, ◌⊎◌, ℕ, ◌+◌, ◌<◌, ◌^◌, List, [], ◌∷◌, ◌++◌, length, Option, None, Some, Ok, Err, inl, inr, refl, sym, subst, arith, length-append, append_assoc}
use Rattle.std.specs.Int.{w32, to_be_bytes}
use Rattle.std.proofs.KnownBytes.{Consumes-trans, Consumes-nil}
use Rattle.aea_messages.specs.declared.message.Message.{Message}
use Rattle.aea_messages.specs.declared.message.Message.TheVariants.{Close}
use Rattle.aea_messages.specs.declared.fault.MessageFault.{MessageFault}
use Rattle.aea_messages.specs.declared.fault.MessageFault.TheVariants.{BadMessage, BadStream, ReadFault, NoMemory}
use Rattle.aea_records.specs.TableLaws.{AreBytes}
use Rattle.aea_io.specs.Taken.{Took}
use Rattle.aea_messages.specs.Messages.{greatest_chunk, Begins, IsMessage, spelled}
use Rattle.aea_messages.specs.Fields.{Lacks, IsLacking, ReadsBehind}
use Rattle.aea_messages.specs.Reading.{RevealsFault, ReadsMessage}
use Rattle.aea_messages.proofs.Parts.{Goes, some_list}

pub took_none : (left : Option (List ℕ)) (at : ℕ) → Took left left at at []
took_none left at = record { taken = Consumes-nil left; counted = omega arith }

pub took_trans : (left mid rest : Option (List ℕ)) (before now after : ℕ) (bs cs : List ℕ) → Took left mid before now bs → Took mid rest now after cs → Took left rest before after (bs ++ cs)
took_trans left mid rest before now after bs cs p q = record { taken = Consumes-trans left mid rest bs cs p.taken q.taken; counted = omega (arith, p.counted, q.counted, length-append bs cs) }

-- ---- a field that is not taken

reveals : (rest : Option (List ℕ)) (start after k x : ℕ) (front t : List ℕ) (fault : MessageFault) → Goes (x ∷ front) k → AreBytes t → IsLacking rest after k (length t) fault
    → RevealsFault rest start after ((x ∷ front) ++ t) fault
reveals rest start after k x front t (BadMessage at) goes are lack = absurd lack
reveals rest start after k x front t (BadStream at) goes are lack =
    let g = goes t are (omega (arith, lack.0)) in
    ((some_list ((x ∷ front) ++ t) (omega (arith, length-append (x ∷ front) t)), (g.0, g.1 lack.0, g.2)), lack.1, lack.2)
reveals rest start after k x front t ReadFault goes are lack =
    let g = goes t are (omega (arith, lack)) in
    (g.0, g.1 lack, g.2)
reveals rest start after k x front t NoMemory goes are lack =
    let g = goes t are lack in
    (some_list ((x ∷ front) ++ t) (omega (arith, length-append (x ∷ front) t)), (g.0, g.2))

pub behind_lacks : (left mid rest : Option (List ℕ)) (before now after k x : ℕ) (front done : List ℕ) (fault : MessageFault)
    → Took left mid before now done → Lacks mid rest now after k fault → Goes ((x ∷ front) ++ done) k → ReadsBehind (x ∷ front) left rest before after (Err fault)
behind_lacks left mid rest before now after k x front done fault took lacks goes = (
  done ++ lacks.bytes,
  took_trans left mid rest before now after done lacks.bytes took lacks.took,
  λ start is. subst (λ (l : List ℕ). RevealsFault rest start after l fault) (append_assoc (x ∷ front) done lacks.bytes)
      (reveals rest start after k x (front ++ done) lacks.bytes fault goes lacks.are lacks.lacking),
)

-- the same where the field must lack a byte
reveals_short : (rest : Option (List ℕ)) (start after k x : ℕ) (front t : List ℕ) (fault : MessageFault) → fault ≢ NoMemory
    → (length t < k → (more : List ℕ) × (more ≢ []) × Begins ((x ∷ front) ++ t) more) → IsLacking rest after k (length t) fault
    → RevealsFault rest start after ((x ∷ front) ++ t) fault
reveals_short rest start after k x front t (BadMessage at) memory goes lack = absurd lack
reveals_short rest start after k x front t (BadStream at) memory goes lack =
    ((some_list ((x ∷ front) ++ t) (omega (arith, length-append (x ∷ front) t)), goes lack.0), lack.1, lack.2)
reveals_short rest start after k x front t ReadFault memory goes lack = goes lack
reveals_short rest start after k x front t NoMemory memory goes lack = absurd (memory refl)

pub behind_short : (left mid rest : Option (List ℕ)) (before now after k x : ℕ) (front done : List ℕ) (fault : MessageFault)
    → Took left mid before now done → Lacks mid rest now after k fault → fault ≢ NoMemory
    → ((t : List ℕ) → AreBytes t → length t < k → (more : List ℕ) × (more ≢ []) × Begins (((x ∷ front) ++ done) ++ t) more) → ReadsBehind (x ∷ front) left rest before after (Err fault)
behind_short left mid rest before now after k x front done fault took lacks memory goes = (
  done ++ lacks.bytes,
  took_trans left mid rest before now after done lacks.bytes took lacks.took,
  λ start is. subst (λ (l : List ℕ). RevealsFault rest start after l fault) (append_assoc (x ∷ front) done lacks.bytes)
      (reveals_short rest start after k x (front ++ done) lacks.bytes fault memory (goes lacks.bytes lacks.are) lacks.lacking),
)

-- ---- a whole message, or bytes that are none

pub behind_ok : (left rest : Option (List ℕ)) (before after x : ℕ) (front bytes : List ℕ) (message : Message)
    → IsMessage message → Took left rest before after bytes → spelled message ≡ (x ∷ front) ++ bytes → ReadsBehind (x ∷ front) left rest before after (Ok message)
behind_ok left rest before after x front bytes message is took spells = (is, (bytes, took, spells))

pub behind_kind : (left : Option (List ℕ)) (before at kind : ℕ) → at + 1 ≡ before → (kind ≡ 0) ⊎ (6 < kind) → ReadsBehind (kind ∷ []) left left before before (Err (BadMessage at))
behind_kind left before at kind is none = (
  [],
  took_none left before,
  λ start e. (0, inl (kind, refl, none, refl), (let f : at ≡ start + 0 = omega (arith, e, is) in f)),
)

pub behind_long : (left rest : Option (List ℕ)) (before after place slot long : ℕ) → Took left rest before after (slot ∷ to_be_bytes w32 long) → place ≡ before + 1 → greatest_chunk < long → long < 2 ^ 32
    → ReadsBehind (2 ∷ []) left rest before after (Err (BadMessage place))
behind_long left rest before after place slot long took is many fits = (
  slot ∷ to_be_bytes w32 long,
  took,
  λ start e. (2, inr (slot, long, refl, many, fits, refl), (let f : place ≡ start + 2 = omega (arith, e, is) in f)),
)

-- ---- from the first byte on

pub message_ok : (left mid rest : Option (List ℕ)) (before now after kind : ℕ) (message : Message)
    → Took left mid before now (kind ∷ []) → ReadsBehind (kind ∷ []) mid rest now after (Ok message) → ReadsMessage left rest before after (Ok (Some message))
message_ok left mid rest before now after kind message took r =
    (r.0, subst (Took left rest before after) (sym r.1.2) (took_trans left mid rest before now after (kind ∷ []) r.1.0 took r.1.1))

pub message_err : (left mid rest : Option (List ℕ)) (before now after kind : ℕ) (fault : MessageFault)
    → Took left mid before now (kind ∷ []) → ReadsBehind (kind ∷ []) mid rest now after (Err fault) → ReadsMessage left rest before after (Err fault)
message_err left mid rest before now after kind fault took r =
    (kind ∷ r.0, took_trans left mid rest before now after (kind ∷ []) r.0 took r.1, r.2 before (omega (arith, took.counted)))

-- a list without an element
no_list : (xs : List ℕ) → length xs < 1 → xs ≡ []
no_list [] few = refl
no_list (x ∷ xs) few = absurd (omega (arith, few))

pub message_end : (left rest : Option (List ℕ)) (before after at : ℕ) → Lacks left rest before after 1 (BadStream at) → ReadsMessage left rest before after (Ok None)
message_end left rest before after at lacks = (subst (Took left rest before after) (no_list lacks.bytes lacks.lacking.0) lacks.took, lacks.lacking.1)

begins_none : Begins [] (3 ∷ 0 ∷ [])
begins_none = record { message = Close 0; fields = omega arith; spells = refl; well = inl tt }

pub message_unread : (left rest : Option (List ℕ)) (before after : ℕ) → Lacks left rest before after 1 ReadFault → ReadsMessage left rest before after (Err ReadFault)
message_unread left rest before after lacks =
    (lacks.bytes, lacks.took, (3 ∷ 0 ∷ [], some_list (3 ∷ 0 ∷ []) (omega arith), subst (λ (l : List ℕ). Begins l (3 ∷ 0 ∷ [])) (sym (no_list lacks.bytes lacks.lacking)) begins_none))
