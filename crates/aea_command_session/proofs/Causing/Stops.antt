-- Why a run is refused that took messages of its input, by how it ended.
use Rattle.std.proofs.Common.{◌≡◌, ◌≢◌, inl, inr, ℕ, ◌+◌, ◌<◌, ◌≤◌, List, [], ◌++◌, length, refl, sym, ◌∙◌, ap, subst, arith, Option, Some, Ok, Err, length-append, append_assoc, append-nil}
use Rattle.std.specs.Prelude.{IsSome, unwrap_or}
use Rattle.std.specs.Io.KnownBytes.{Consumes, IsAtEnd}
use Rattle.aea_lattice.specs.declared.blocks.BlockId.{BlockId}
use Rattle.aea_lattice.specs.declared.shape.Shape.{Shape}
use Rattle.aea_disk.specs.Files.{Files}
use Rattle.aea_records.specs.Format.{first_limit}
use Rattle.aea_messages.specs.declared.message.Message.{Message}
use Rattle.aea_messages.specs.Messages.{spelled, spelled_all, IsMessage, AreMessages, IsBad, IsCut}
use Rattle.aea_messages.specs.Readings.{BeginsNone}
use Rattle.aea_session.specs.declared.fault.TakeFault.TheVariants as take
use Rattle.aea_session.specs.declared.serving.Stop.{Stop}
use Rattle.aea_session.specs.declared.serving.Stop.TheVariants as stop
use Rattle.aea_session.specs.Serving.{greatest_messages, TailOf}
use Rattle.aea_command.specs.declared.refusal.Refusal.{Refusal}
use Rattle.aea_command.specs.declared.refusal.Refusal.TheVariants.{NotUpgraded, HeadDamaged, BadStream, BadMessage, TooManyMessages}
use Rattle.aea_command.specs.declared.refusal.Failure.TheVariants as failure
use Rattle.aea_command.specs.declared.status.Status.TheVariants.{Done}
use Rattle.aea_command.specs.Causes.{place_of, IsFirst, IsStopped, IsDecided, RefusesBy}
use Rattle.aea_command.specs.Failures.{Answer}
use Rattle.aea_command.proofs.Refusing.{refuses_by_stopped, refuses_by_none}
use Rattle.aea_command_store.specs.Put.{HasDamagedHead, HasLimit}
use Rattle.aea_command_store.proofs.IngestLemmas.Revealing.{are_revealed}
use Rattle.aea_command_session.specs.Causes.{HasMessages, StreamCauses, OpenedCauses, IsByInput}
use Rattle.aea_command_session.specs.Failures.{stop_failure}
use Rattle.aea_command_session.proofs.Causing.Streams.{AreRead, bad_some, bad_begins, no_more, bad_there, cut_there, many_not_bad, many_not_cut}

-- what is left of a source that is known and at its end
none_left : (rest : Option (List ℕ)) (stream : List ℕ) → rest ≡ Some stream → IsAtEnd rest → stream ≡ []
none_left rest stream is end = subst IsAtEnd is end

-- an answer that is a refusal is one for that reason
pub same_refusal : (one why : Refusal) → (let a : Answer = Err (failure.Refused one) in a ≡ Err (failure.Refused why)) → one ≡ why
same_refusal one why e = (let a : Answer = Err (failure.Refused one) in let h : a ≡ Err (failure.Refused why) = e in cc)

-- an answer that is refused for the one first cause
pub refuses_by_one : (revealed : Refusal → Type 0) (causes : Refusal → Type 0) (one : Refusal) → (revealed one → IsFirst causes one) → ((why : Refusal) → revealed why → IsFirst causes why → why ≡ one)
    → RefusesBy revealed causes (let a : Answer = Err (failure.Refused one) in a)
refuses_by_one revealed causes one first same = record {
  only = λ why e t. let is = same_refusal one why e in subst (λ (w : Refusal). IsFirst causes w) is (first (subst (λ (w : Refusal). revealed w) (sym is) t));
  always = λ why t f. inl (ap (λ (w : Refusal). (let a : Answer = Err (failure.Refused w) in a)) (sym (same why t f)));
}

-- Of a run over an archive whose limit was raised and whose last parities are intact, the messages that were taken, and what was
-- taken after them.
module _ (laws : AreRead) (reveals : Type 0) (files : Files) (left rest : Option (List ℕ)) (messages : List Message) (tail : List ℕ)
    (are : AreMessages messages) (few : length messages ≤ greatest_messages) (taken : Consumes left rest (spelled_all messages ++ tail))
    (raised : reveals → (shape : Shape) → HasLimit shape first_limit (files 0) → ⊥) (intact : reveals → (b : BlockId) → HasDamagedHead files b → ⊥) where
  abbrev revealed : Refusal → Type 0
  revealed = IsDecided reveals (IsSome left) IsByInput

  abbrev causes : Refusal → Type 0
  causes = OpenedCauses files (unwrap_or left [])

  -- ---- whatever the end

  -- nothing comes before what the input decides
  none_before : reveals → (other : Refusal) → place_of other < place_of TooManyMessages → causes other → ⊥
  none_before reveal NotUpgraded before cause = raised reveal cause.0 cause.1
  none_before reveal (HeadDamaged b) before cause = intact reveal b cause
  none_before reveal (BadMessage at) before cause = omega arith
  none_before reveal (BadStream at) before cause = omega arith
  none_before reveal TooManyMessages before cause = omega arith
  none_before reveal other before cause = cause

  -- there is no other cause
  by_kind : (P : Refusal → Type 0) → ((at : ℕ) → IsSome left → StreamCauses (unwrap_or left []) (BadMessage at) → P (BadMessage at)) → ((at : ℕ) → IsSome left → StreamCauses (unwrap_or left []) (BadStream at) → P (BadStream at))
      → (IsSome left → StreamCauses (unwrap_or left []) TooManyMessages → P TooManyMessages) → (why : Refusal) → revealed why → IsFirst causes why → P why
  by_kind P bad cut many NotUpgraded t first = absurd (raised t.0 first.stands.0 first.stands.1)
  by_kind P bad cut many (HeadDamaged b) t first = absurd (intact t.0 b first.stands)
  by_kind P bad cut many (BadMessage at) t first = bad at (t.1 tt) first.stands
  by_kind P bad cut many (BadStream at) t first = cut at (t.1 tt) first.stands
  by_kind P bad cut many TooManyMessages t first = many (t.1 tt) first.stands
  by_kind P bad cut many other t first = absurd first.stands

  -- what the source had behind the messages
  abbrev behind : IsSome left → List ℕ
  behind some = tail ++ (are_revealed left rest (spelled_all messages ++ tail) some taken).stream

  has : (some : IsSome left) → HasMessages (unwrap_or left []) messages (behind some)
  has some =
      let t = are_revealed left rest (spelled_all messages ++ tail) some taken in
      record { are = are; few = few; input_is = t.given ∙ t.parts ∙ append_assoc (spelled_all messages) tail t.stream }

  -- at its end nothing is behind the tail
  at_end : IsAtEnd rest → (some : IsSome left) → behind some ≡ tail
  at_end end some =
      let t = are_revealed left rest (spelled_all messages ++ tail) some taken in
      ap (λ (l : List ℕ). tail ++ l) (none_left rest t.stream t.stream_is end) ∙ append-nil tail

  has_all : IsAtEnd rest → (some : IsSome left) → HasMessages (unwrap_or left []) messages tail
  has_all end some = subst (HasMessages (unwrap_or left []) messages) (at_end end some) (has some)

  -- ---- at the end of the input

  -- it was not refused, and there is no cause
  pub well_refuses : TailOf rest (length (spelled_all messages)) (length messages) tail (Ok tt) → RefusesBy revealed causes (let a : Answer = Ok Done in a)
  well_refuses ends =
      let none : BeginsNone tail = inl ends.0 in
      refuses_by_none revealed causes (let a : Answer = Ok Done in a) (λ why e. let h : (let a : Answer = Ok Done in a ≡ Err (failure.Refused why)) = e in cc)
      (by_kind (λ why. ⊥)
      (λ at some cause. let b = bad_there laws (unwrap_or left []) messages tail (has_all ends.1 some) none at cause in bad_some b.0 b.1 b.2 b.4 (sym b.3 ∙ ends.0))
      (λ at some cause. (cut_there laws (unwrap_or left []) messages tail (has_all ends.1 some) none at cause).0.0 ends.0)
      (λ some cause. no_more laws (unwrap_or left []) messages tail (has_all ends.1 some) none cause))

  -- ---- where what is behind the messages is none

  bad_refuses : (at place : ℕ) → IsBad tail place → at ≡ length (spelled_all messages) + place → RefusesBy revealed causes (let a : Answer = Err (failure.Refused (BadMessage at)) in a)
  bad_refuses at place bad is =
      let stream : IsSome left → List ℕ = λ some. (are_revealed left rest (spelled_all messages ++ tail) some taken).stream in
      let none : (some : IsSome left) → BeginsNone (behind some) = λ some. bad_begins tail (stream some) place bad in
      refuses_by_one revealed causes (BadMessage at)
      (λ t. record { stands = (messages, tail, stream (t.1 tt), place, has (t.1 tt), bad, is); none = none_before t.0 })
      (by_kind (λ why. why ≡ BadMessage at)
      (λ at' some cause.
      let b = bad_there laws (unwrap_or left []) messages (behind some) (has some) (none some) at' cause in
      let same = laws.place tail b.0 (stream some) b.1 place b.2 bad b.4 b.3 in
      ap BadMessage (b.5 ∙ ap (λ (n : ℕ). length (spelled_all messages) + n) (sym same) ∙ sym is))
      (λ at' some cause. absurd (laws.apart tail (stream some) place (behind some) bad (cut_there laws (unwrap_or left []) messages (behind some) (has some) (none some) at' cause).0 refl))
      (λ some cause. absurd (no_more laws (unwrap_or left []) messages (behind some) (has some) (none some) cause)))

  -- ---- where it is cut

  cut_refuses : (at : ℕ) → IsCut tail → IsAtEnd rest → at ≡ length (spelled_all messages) + length tail → RefusesBy revealed causes (let a : Answer = Err (failure.Refused (BadStream at)) in a)
  cut_refuses at cut end is =
      let none : BeginsNone tail = inr (inl cut) in
      let whole : (some : IsSome left) → at ≡ length (unwrap_or left []) = λ some. is ∙ sym (length-append (spelled_all messages) tail) ∙ ap length (sym (has_all end some).input_is) in
      refuses_by_one revealed causes (BadStream at)
      (λ t. record { stands = (messages, tail, has_all end (t.1 tt), cut, whole (t.1 tt)); none = none_before t.0 })
      (by_kind (λ why. why ≡ BadStream at)
      (λ at' some cause. let b = bad_there laws (unwrap_or left []) messages tail (has_all end some) none at' cause in absurd (laws.apart b.0 b.1 b.2 tail b.4 cut (sym b.3)))
      (λ at' some cause. ap BadStream ((cut_there laws (unwrap_or left []) messages tail (has_all end some) none at' cause).1 ∙ sym (whole some)))
      (λ some cause. absurd (no_more laws (unwrap_or left []) messages tail (has_all end some) none cause)))

  -- ---- where one message is too many

  many_refuses : (message : Message) → IsMessage message → tail ≡ spelled message → length messages ≡ greatest_messages → RefusesBy revealed causes (let a : Answer = Err (failure.Refused TooManyMessages) in a)
  many_refuses message is goes all =
      let stream : IsSome left → List ℕ = λ some. (are_revealed left rest (spelled_all messages ++ tail) some taken).stream in
      let same : (some : IsSome left) → behind some ≡ spelled message ++ stream some = λ some. ap (λ (l : List ℕ). l ++ stream some) goes in
      refuses_by_one revealed causes TooManyMessages
      (λ t. record { stands = (messages, message, stream (t.1 tt), subst (HasMessages (unwrap_or left []) messages) (same (t.1 tt)) (has (t.1 tt)), is, all); none = none_before t.0 })
      (by_kind (λ why. why ≡ TooManyMessages)
      (λ at some cause. absurd (many_not_bad laws (unwrap_or left []) messages (behind some) (has some) message (stream some) (same some) is all at cause))
      (λ at some cause. absurd (many_not_cut laws (unwrap_or left []) messages (behind some) (has some) message (stream some) (same some) is all at cause))
      (λ some cause. refl))

  -- ---- by the stop

  stopped_refuses : (a : Answer) → IsStopped a → RefusesBy revealed causes a
  stopped_refuses a is = refuses_by_stopped revealed causes a is

  -- a block that was damaged where nothing is known
  damaged_refuses : (b : BlockId) → (reveals → ⊥) → RefusesBy revealed causes (let a : Answer = Err (stop_failure (stop.Taken (take.Damaged b))) in a)
  damaged_refuses b never = record {
    only = λ why e t. absurd (never t.0);
    always = λ why t first. absurd (never t.0);
  }

  -- it is refused for the one cause, where one decides, and else it stopped
  pub stop_refuses : (stopped : Stop) → TailOf rest (length (spelled_all messages)) (length messages) tail (Err stopped) → ((b : BlockId) → stopped ≡ stop.Taken (take.Damaged b) → reveals → ⊥)
      → (let a : Answer = Err (stop_failure stopped) in a ≢ Err failure.Output) → RefusesBy revealed causes (let a : Answer = Err (stop_failure stopped) in a)
  stop_refuses (stop.BadMessage at) ends never fine = bad_refuses at ends.0 ends.1 ends.2
  stop_refuses (stop.BadStream at) ends never fine = cut_refuses at ends.0 ends.1 ends.2
  stop_refuses stop.TooManyMessages ends never fine = many_refuses ends.0 ends.1 ends.2 ends.3
  stop_refuses stop.Input ends never fine = stopped_refuses (Err failure.Input) (inr (inl refl))
  stop_refuses stop.Memory ends never fine = stopped_refuses (Err failure.Memory) (inr (inr refl))
  stop_refuses (stop.Taken (take.Damaged b)) ends never fine = damaged_refuses b (never b refl)
  stop_refuses (stop.Taken take.DiskFault) ends never fine = stopped_refuses (Err failure.Disk) (inl refl)
  stop_refuses (stop.Taken take.WriteFault) ends never fine = absurd (fine refl)
  stop_refuses (stop.Taken take.NoMemory) ends never fine = stopped_refuses (Err failure.Memory) (inr (inr refl))
