-- Laws of the machine.
use Rattle.std.proofs.Common.{◌≡◌, ◌≢◌, inl, inr, ℕ, ◌<◌, Bool, true, false, not, List, [], ◌∷◌, ◌++◌, length, Option, None, Some, refl, sym, ◌∙◌, ap, arith}
use Rattle.std.specs.Prelude.{◌==◌, if◌then◌else◌, is_some, slice_index_or, slice_set}
use Rattle.std.specs.List.{list_any}
use Rattle.std.specs.FinMap.{get, len}
use Rattle.std.proofs.lemmas.Bool.{cases_eq, eq-eqb, ne_eqb, leb-false}
use Rattle.std.proofs.lemmas.List.{length-set, get_or-set_same, get_or-set_other}
use Rattle.aea_lattice.specs.declared.shape.Shape.{Shape}
use Rattle.aea_catalog.specs.Catalogs.{Placed}
use Rattle.aea_catalog.specs.Names.{is_name}
use Rattle.aea_records.specs.Format.{greatest_objects}
use Rattle.aea_messages.specs.declared.message.Message.{Message}
use Rattle.aea_messages.specs.declared.message.Message.TheVariants.{Open, Chunk, Close, Abort, Read, Patrol}
use Rattle.aea_machine.specs.Machine.{Upload, Machine, Answer, Reads, Patrols, BadSlot, SlotTaken, SlotFree, BadName, NameTaken, NameOpen, Full, CatalogFull, UnknownName, BadRange, Step, stays, step, in_slot, with_slot, weave, slots_count, is_no_slot, has_name, has_room, filled_by, last_block, nodes_now, nodes_of_blocks, commit, open_in, chunk_in, close_in, abort_in, read_in, is_range}
use Rattle.aea_machine.specs.Replies.{code_of}
use Rattle.aea_machine.specs.Solo.{Own, own_of, longer, solo, solo_step, solo_after, answered, Asks, RefusalsStay, AsksStay, SlotsStay, SlotsStandAlone}

-- a fact of both ways has the one that is chosen
pub choose : (P : Step → Type 0) (b : Bool) (x y : Step) → (b ≡ true → P x) → (b ≡ false → P y) → P (if b then x else y)
choose P true x y p q = p refl
choose P false x y p q = q refl

-- ---- the fact of a step from m by a message, as one slot sees it: a refusal stays, the number of slots too, and the slot
-- holds what its own messages make of it

pub record Goes (m : Machine) (message : Message) (s : Step) : Type 0 where
  pub refused : code_of s.answer ≢ 0 → s.state ≡ m
  pub asked : Asks s.answer → s.state ≡ m
  pub slots : length s.state.slots ≡ length m.slots
  pub own : (slot : ℕ) → length m.slots ≡ slots_count → slot < slots_count → own_of (in_slot s.state slot) ≡ solo_step slot message (code_of s.answer) (own_of (in_slot m slot))

-- a refusal
goes_refused : (m : Machine) (message : Message) (answer : Answer) → ((code_of answer == 0) ≡ false) → Goes m message (stays m answer)
goes_refused m message answer is = record {
  refused = λ h. refl;
  asked = λ h. refl;
  slots = refl;
  own = λ slot all inside. ap (λ (b : Bool). if b then solo slot message (own_of (in_slot m slot)) else own_of (in_slot m slot)) (sym is);
}

-- what is looked up
goes_looked : (m : Machine) (message : Message) (answer : Answer) → code_of answer ≡ 0 → ((slot : ℕ) (own : Option Own) → solo slot message own ≡ own) → Goes m message (stays m answer)
goes_looked m message answer is same = record {
  refused = λ h. refl;
  asked = λ h. refl;
  slots = refl;
  own = λ slot all inside. sym (same slot (own_of (in_slot m slot))) ∙ ap (λ (code : ℕ). solo_step slot message code (own_of (in_slot m slot))) (sym is);
}

-- a slot that is set, and the others
in_set : (m n : Machine) (slot other : ℕ) (u : Option Upload) (f : Option Own → Option Own) → n.slots ≡ slice_set m.slots other u → other < length m.slots
    → own_of u ≡ f (own_of (in_slot m other))
    → own_of (in_slot n slot) ≡ (if other == slot then f (own_of (in_slot m slot)) else own_of (in_slot m slot))
in_set m n slot other u f is inside same =
    elim (cases_eq slot other) [
      | inl e ↦
          ap (λ (l : List (Option Upload)). own_of (slice_index_or l slot None)) is
          ∙ ap (λ (k : ℕ). own_of (slice_index_or (slice_set m.slots other u) k None)) e
          ∙ ap own_of (get_or-set_same m.slots other u None inside)
          ∙ same
          ∙ ap (λ (k : ℕ). f (own_of (in_slot m k))) (sym e)
          ∙ ap (λ (b : Bool). if b then f (own_of (in_slot m slot)) else own_of (in_slot m slot)) (sym (eq-eqb other slot (sym e)))
      | inr ne ↦
          ap (λ (l : List (Option Upload)). own_of (slice_index_or l slot None)) is
          ∙ ap own_of (get_or-set_other m.slots other slot u None ne)
          ∙ ap (λ (b : Bool). if b then f (own_of (in_slot m slot)) else own_of (in_slot m slot)) (sym (ne_eqb other slot (λ e. ne (sym e))))
    ]

below : (m : Machine) (other : ℕ) → is_no_slot other ≡ false → length m.slots ≡ slots_count → other < length m.slots
below m other is all = omega (arith, leb-false slots_count other is, all)

-- ---- each message

goes_open : (m : Machine) (other : ℕ) (name : List ℕ) (o : Option Upload) → is_no_slot other ≡ false → Goes m (Open other name) (open_in m other name o)
goes_open m other name (Some u) is = goes_refused m (Open other name) SlotTaken refl
goes_open m other name None is =
    choose (Goes m (Open other name)) (not (is_name name)) (stays m BadName) _ (λ e. goes_refused m (Open other name) BadName refl)
    (λ e. choose (Goes m (Open other name)) (is_some (get m.objects name)) (stays m NameTaken) _ (λ f. goes_refused m (Open other name) NameTaken refl)
    (λ f. choose (Goes m (Open other name)) (list_any (has_name name) m.slots) (stays m NameOpen) _ (λ g. goes_refused m (Open other name) NameOpen refl)
    (λ g. record {
      refused = λ h. absurd (h refl);
      asked = λ h. absurd h;
      slots = length-set m.slots other (Some (record { name = name; bytes = []; nodes = [] }));
      own = λ slot all inside. in_set m (with_slot m other (Some (record { name = name; bytes = []; nodes = [] }))) slot other (Some (record { name = name; bytes = []; nodes = [] })) (λ own. Some (record { name = name; bytes = [] })) refl (below m other is all) refl;
    })))

-- the state after a chunk
abbrev chunked : Shape → Machine → ℕ → List ℕ → Upload → Machine
chunked shape m other bytes u = with_slot (weave m (filled_by shape u bytes)) other (Some (record { name = u.name; bytes = u.bytes ++ bytes; nodes = u.nodes ++ nodes_of_blocks m (filled_by shape u bytes) }))

goes_chunk : (shape : Shape) (m : Machine) (other : ℕ) (bytes : List ℕ) (o : Option Upload) → in_slot m other ≡ o → is_no_slot other ≡ false → Goes m (Chunk other bytes) (chunk_in shape m other bytes o)
goes_chunk shape m other bytes None there is = goes_refused m (Chunk other bytes) SlotFree refl
goes_chunk shape m other bytes (Some u) there is =
    choose (Goes m (Chunk other bytes)) (has_room m (length (filled_by shape u bytes))) _ (stays m (Full (nodes_now m)))
    (λ e. record {
      refused = λ h. absurd (h refl);
      asked = λ h. absurd h;
      slots = length-set m.slots other _;
      own = λ slot all inside. in_set m (chunked shape m other bytes u) slot other (Some (record { name = u.name; bytes = u.bytes ++ bytes; nodes = u.nodes ++ nodes_of_blocks m (filled_by shape u bytes) })) (longer bytes) refl (below m other is all) (ap (λ (o : Option Upload). longer bytes (own_of o)) (sym there));
    })
    (λ e. goes_refused m (Chunk other bytes) (Full (nodes_now m)) refl)

goes_close : (shape : Shape) (m : Machine) (other : ℕ) (o : Option Upload) → is_no_slot other ≡ false → Goes m (Close other) (close_in shape m other o)
goes_close shape m other None is = goes_refused m (Close other) SlotFree refl
goes_close shape m other (Some u) is =
    choose (Goes m (Close other)) (len m.objects == greatest_objects) (stays m CatalogFull) _ (λ e. goes_refused m (Close other) CatalogFull refl)
    (λ e. choose (Goes m (Close other)) (has_room m (length (last_block shape u))) _ (stays m (Full (nodes_now m)))
    (λ f. record {
      refused = λ h. absurd (h refl);
      asked = λ h. absurd h;
      slots = length-set m.slots other None;
      own = λ slot all inside. in_set m (commit shape m other u) slot other None (λ own. None) refl (below m other is all) refl;
    })
    (λ f. goes_refused m (Close other) (Full (nodes_now m)) refl))

goes_abort : (m : Machine) (other : ℕ) (o : Option Upload) → is_no_slot other ≡ false → Goes m (Abort other) (abort_in m other o)
goes_abort m other None is = goes_refused m (Abort other) SlotFree refl
goes_abort m other (Some u) is = record {
  refused = λ h. absurd (h refl);
  asked = λ h. absurd h;
  slots = length-set m.slots other None;
  own = λ slot all inside. in_set m (with_slot m other None) slot other None (λ own. None) refl (below m other is all) refl;
}

goes_read : (m : Machine) (name : List ℕ) (o : Option Placed) → Goes m (Read name) (read_in m o)
goes_read m name None = goes_refused m (Read name) UnknownName refl
goes_read m name (Some placed) = goes_looked m (Read name) (Reads placed) refl (λ slot own. refl)

pub goes : (shape : Shape) (m : Machine) (message : Message) → Goes m message (step shape m message)
goes shape m (Open slot name) = choose (Goes m (Open slot name)) (is_no_slot slot) (stays m BadSlot) (open_in m slot name (in_slot m slot)) (λ e. goes_refused m (Open slot name) BadSlot refl) (λ e. goes_open m slot name (in_slot m slot) e)
goes shape m (Chunk slot bytes) = choose (Goes m (Chunk slot bytes)) (is_no_slot slot) (stays m BadSlot) (chunk_in shape m slot bytes (in_slot m slot)) (λ e. goes_refused m (Chunk slot bytes) BadSlot refl) (λ e. goes_chunk shape m slot bytes (in_slot m slot) refl e)
goes shape m (Close slot) = choose (Goes m (Close slot)) (is_no_slot slot) (stays m BadSlot) (close_in shape m slot (in_slot m slot)) (λ e. goes_refused m (Close slot) BadSlot refl) (λ e. goes_close shape m slot (in_slot m slot) e)
goes shape m (Abort slot) = choose (Goes m (Abort slot)) (is_no_slot slot) (stays m BadSlot) (abort_in m slot (in_slot m slot)) (λ e. goes_refused m (Abort slot) BadSlot refl) (λ e. goes_abort m slot (in_slot m slot) e)
goes shape m (Read name) = goes_read m name (get m.objects name)
goes shape m (Patrol first count) = choose (Goes m (Patrol first count)) (is_range shape m first count) (stays m (Patrols first count)) (stays m BadRange) (λ e. goes_looked m (Patrol first count) (Patrols first count) refl (λ slot own. refl)) (λ e. goes_refused m (Patrol first count) BadRange refl)

-- ---- the laws

pub refusals-stay : RefusalsStay
refusals-stay shape m message h = (goes shape m message).refused h

pub asks-stay : AsksStay
asks-stay shape m message h = (goes shape m message).asked h

pub slots-stay : SlotsStay
slots-stay shape m message all = (goes shape m message).slots ∙ all

pub slots-alone : SlotsStandAlone
slots-alone shape m [] slot all inside = refl
slots-alone shape m (message ∷ messages) slot all inside =
    slots-alone shape (step shape m message).state messages slot (slots-stay shape m message all) inside
    ∙ ap (solo_after slot (answered shape (step shape m message).state messages)) ((goes shape m message).own slot all inside)
