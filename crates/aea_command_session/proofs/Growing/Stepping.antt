-- A step of the machine: whether its message closes an upload, and what it adds to X.
use Rattle.std.proofs.Common.{◌≡◌, ◌⊎◌, inl, inr, ℕ, Bool, true, false, if◌then◌else◌, is_some, not, ◌==◌, List, [], ◌∷◌, ◌++◌, length, Option, None, Some, refl, sym, ◌∙◌, ap, append_assoc}
use Rattle.std.specs.FinMap.{get, len}
use Rattle.std.specs.List.{flat_map, list_any}
use Rattle.std.proofs.lemmas.List.{append-nil}
use Rattle.aea_catalog.specs.Catalogs.{Placed}
use Rattle.aea_catalog.specs.Names.{is_name}
use Rattle.aea_lattice.specs.declared.shape.Shape.{Shape}
use Rattle.aea_messages.specs.declared.message.Message.{Message}
use Rattle.aea_messages.specs.declared.message.Message.TheVariants.{Open, Chunk, Close, Abort, Read, Patrol}
use Rattle.aea_records.specs.Format.{greatest_objects}
use Rattle.aea_machine.specs.Closings.{Closing, closing_by, closing_in}
use Rattle.aea_machine.specs.Machine.{Upload, Machine, Answer, Made, Closed, Reads, Patrols, BadSlot, SlotTaken, SlotFree, BadName, NameTaken, NameOpen, Full, CatalogFull, UnknownName, BadRange, Step, stays, step, in_slot, is_no_slot, has_room, has_name, filled_by, last_block, is_range, open_in, chunk_in, close_in, abort_in, read_in}

-- ---- whether it closes one

one_by : (shape : Shape) (m : Machine) (u : Option Upload) (answer : Answer) → (closing_by shape m u answer ≡ []) ⊎ ((c : Closing) × (closing_by shape m u answer ≡ c ∷ []))
one_by shape m None answer = inl refl
one_by shape m (Some u) Made = inl refl
one_by shape m (Some u) (Closed nodes size digest) = inr (_, refl)
one_by shape m (Some u) (Reads placed) = inl refl
one_by shape m (Some u) (Patrols first count) = inl refl
one_by shape m (Some u) BadSlot = inl refl
one_by shape m (Some u) SlotTaken = inl refl
one_by shape m (Some u) SlotFree = inl refl
one_by shape m (Some u) BadName = inl refl
one_by shape m (Some u) NameTaken = inl refl
one_by shape m (Some u) NameOpen = inl refl
one_by shape m (Some u) (Full nodes) = inl refl
one_by shape m (Some u) CatalogFull = inl refl
one_by shape m (Some u) UnknownName = inl refl
one_by shape m (Some u) BadRange = inl refl

-- a message closes one upload, or none
pub closing_one : (shape : Shape) (m : Machine) (message : Message) → (closing_in shape m message ≡ []) ⊎ ((c : Closing) × (closing_in shape m message ≡ c ∷ []))
closing_one shape m (Open slot name) = inl refl
closing_one shape m (Chunk slot bytes) = inl refl
closing_one shape m (Close slot) = one_by shape m (in_slot m slot) (step shape m (Close slot)).answer
closing_one shape m (Abort slot) = inl refl
closing_one shape m (Read name) = inl refl
closing_one shape m (Patrol first count) = inl refl

-- ---- what it adds

-- of two steps, by a test
by_test : (b : Bool) (P : Step → Type 0) (x y : Step) → P x → P y → P (if b then x else y)
by_test true P x y one other = one
by_test false P x y one other = other

module _ (shape : Shape) (m : Machine) where
  -- X is as it was
  abbrev Keeps : Step → Type 0
  Keeps s = s.state.datas ≡ m.datas

  opens : (slot : ℕ) (name : List ℕ) (u : Option Upload) → Keeps (open_in m slot name u)
  opens slot name None =
      by_test (not (is_name name)) Keeps _ _ refl
      (by_test (is_some (get m.objects name)) Keeps _ _ refl
      (by_test (list_any (has_name name) m.slots) Keeps _ _ refl refl))
  opens slot name (Some u) = refl

  chunks : (slot : ℕ) (bytes : List ℕ) (u : Option Upload) → Keeps (chunk_in shape m slot bytes u)
  chunks slot bytes None = refl
  chunks slot bytes (Some u) = by_test (has_room m (length (filled_by shape u bytes))) Keeps _ _ refl refl

  aborts : (slot : ℕ) (u : Option Upload) → Keeps (abort_in m slot u)
  aborts slot None = refl
  aborts slot (Some u) = refl

  reads : (placed : Option Placed) → Keeps (read_in m placed)
  reads None = refl
  reads (Some placed) = refl

  -- X goes on with the blocks of the close
  abbrev GoesOn : Option Upload → Step → Type 0
  GoesOn u s = s.state.datas ≡ m.datas ++ flat_map (λ c. c.blocks) (closing_by shape m u s.answer)

  closes : (slot : ℕ) (u : Option Upload) → GoesOn u (if is_no_slot slot then stays m BadSlot else close_in shape m slot u)
  closes slot None = by_test (is_no_slot slot) (GoesOn None) _ _ (sym (append-nil m.datas)) (sym (append-nil m.datas))
  closes slot (Some u) =
      by_test (is_no_slot slot) (GoesOn (Some u)) _ _ (sym (append-nil m.datas))
      (by_test (len m.objects == greatest_objects) (GoesOn (Some u)) _ _ (sym (append-nil m.datas))
      (by_test (has_room m (length (last_block shape u))) (GoesOn (Some u)) _ _
      (append_assoc m.datas m.woven (last_block shape u) ∙ ap (λ (l : List (List ℕ)). m.datas ++ l) (sym (append-nil (m.woven ++ last_block shape u))))
      (sym (append-nil m.datas))))

  none_more : (s : Step) → Keeps s → s.state.datas ≡ m.datas ++ []
  none_more s keeps = keeps ∙ sym (append-nil m.datas)

  -- after a message X is followed by the blocks of its close
  pub step_datas : (message : Message) → (step shape m message).state.datas ≡ m.datas ++ flat_map (λ c. c.blocks) (closing_in shape m message)
  step_datas (Open slot name) = none_more (step shape m (Open slot name)) (by_test (is_no_slot slot) Keeps _ _ refl (opens slot name (in_slot m slot)))
  step_datas (Chunk slot bytes) = none_more (step shape m (Chunk slot bytes)) (by_test (is_no_slot slot) Keeps _ _ refl (chunks slot bytes (in_slot m slot)))
  step_datas (Close slot) = closes slot (in_slot m slot)
  step_datas (Abort slot) = none_more (step shape m (Abort slot)) (by_test (is_no_slot slot) Keeps _ _ refl (aborts slot (in_slot m slot)))
  step_datas (Read name) = none_more (step shape m (Read name)) (reads (get m.objects name))
  step_datas (Patrol first count) = none_more (step shape m (Patrol first count)) (by_test (is_range shape m first count) Keeps _ _ refl refl)
