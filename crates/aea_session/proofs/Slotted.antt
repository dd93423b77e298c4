-- Slots, of a session and of the machine whose state it keeps.
use Rattle.std.proofs.Common.{◌≡◌, inl, inr, ℕ, ◌<◌, true, false, List, ◌++◌, length, Option, None, Some, Ok, Err, refl, sym, ◌∙◌, ap, subst, arith}
use Rattle.std.specs.Prelude.{is_some, slice_index_or, slice_set}
use Rattle.std.proofs.lemmas.Bool.{cases_eq, leb-false, lt-leb}
use Rattle.std.proofs.lemmas.List.{length-set, get_or_default, get_or-set_same, get_or-set_other}
use Rattle.aea_lattice.specs.declared.shape.Shape.{Shape}
use Rattle.aea_messages.specs.declared.message.Message.{Message}
use Rattle.aea_machine.specs.declared.refusal.Refusal.{Refusal}
use Rattle.aea_machine.specs.Machine.{Upload, Machine, Step, Answer, Made, stays, step, in_slot, with_slot, slots_count, is_no_slot}
use Rattle.aea_machine.specs.Refusals.{refused_by}
use Rattle.aea_machine.specs.Sound.{HaveOwnNames, IsWithinLimits, NamesStayOwn, LimitsStay}
use Rattle.aea_uploads.specs.declared.slot.Slot.{Slot}
use Rattle.aea_uploads.specs.Laws.{KeepsMore}
use Rattle.aea_uploads.specs.Slots.{Keeps}
use Rattle.aea_session.specs.declared.work.Work.{Work}
use Rattle.aea_session.specs.Stands.{IsKept, KeepsMachine, StandsFor}
use Rattle.aea_session.specs.Steps.{Steps, made_by}

-- ---- numbers of slots

-- a number that is that of a slot
pub slot_inside : (slot : ℕ) → is_no_slot slot ≡ false → slot < slots_count
slot_inside slot is = omega (arith, leb-false slots_count slot is)

pub slot_some : (slot : ℕ) → slot < slots_count → is_no_slot slot ≡ false
slot_some slot inside = lt-leb slots_count slot inside

-- ---- one slot

-- The upload that is kept in a slot.
pub record HasUpload (shape : Shape) (datas : List (List ℕ)) (s : Slot) (p : Option Upload) : Type 0 where
  pub upload : Upload
  pub is : p ≡ Some upload
  pub keeps : Keeps shape datas s upload

-- by cases of what the machine has
none_kept : (shape : Shape) (datas : List (List ℕ)) (p : Option Upload) → IsKept shape datas None p → p ≡ None
none_kept shape datas None kept = refl
none_kept shape datas (Some u) kept = absurd kept

some_kept : (shape : Shape) (datas : List (List ℕ)) (s : Slot) (p : Option Upload) → IsKept shape datas (Some s) p → HasUpload shape datas s p
some_kept shape datas s None kept = absurd kept
some_kept shape datas s (Some u) kept = record { upload = u; is = refl; keeps = kept }

-- a slot that is free in the session is free in the machine
pub kept_free : (shape : Shape) (datas : List (List ℕ)) (o : Option Slot) (p : Option Upload) → o ≡ None → IsKept shape datas o p → p ≡ None
kept_free shape datas o p is kept = none_kept shape datas p (subst (λ (a : Option Slot). IsKept shape datas a p) is kept)

-- one that has a Slot has the upload that this keeps
pub kept_some : (shape : Shape) (datas : List (List ℕ)) (o : Option Slot) (s : Slot) (p : Option Upload) → o ≡ Some s → IsKept shape datas o p → HasUpload shape datas s p
kept_some shape datas o s p is kept = some_kept shape datas s p (subst (λ (a : Option Slot). IsKept shape datas a p) is kept)

-- and so it is with more blocks after the list
pub kept_more : KeepsMore → (shape : Shape) (datas more : List (List ℕ)) (o : Option Slot) (p : Option Upload) → IsKept shape datas o p → IsKept shape (datas ++ more) o p
kept_more law shape datas more None None kept = tt
kept_more law shape datas more None (Some u) kept = absurd kept
kept_more law shape datas more (Some s) None kept = absurd kept
kept_more law shape datas more (Some s) (Some u) kept = law shape datas more s u kept

-- ---- all slots, of which one is set

-- Slots that are kept each, where one is set to what is kept in it, are kept each.
pub kept_set : (shape : Shape) (datas : List (List ℕ)) (xs : List (Option Slot)) (us : List (Option Upload)) (slot : ℕ) (o : Option Slot) (p : Option Upload)
    → slot < length xs → slot < length us
    → ((k : ℕ) → IsKept shape datas (slice_index_or xs k None) (slice_index_or us k None)) → IsKept shape datas o p
    → (k : ℕ) → IsKept shape datas (slice_index_or (slice_set xs slot o) k None) (slice_index_or (slice_set us slot p) k None)
kept_set shape datas xs us slot o p within inside all one k =
    elim (cases_eq k slot) [
      | inl e ↦
          subst (λ (j : ℕ). IsKept shape datas (slice_index_or (slice_set xs slot o) j None) (slice_index_or (slice_set us slot p) j None)) (sym e)
          (subst (λ (a : Option Slot). IsKept shape datas a (slice_index_or (slice_set us slot p) slot None)) (sym (get_or-set_same xs slot o None within))
          (subst (λ (b : Option Upload). IsKept shape datas o b) (sym (get_or-set_same us slot p None inside)) one))
      | inr ne ↦
          subst (λ (a : Option Slot). IsKept shape datas a (slice_index_or (slice_set us slot p) k None)) (sym (get_or-set_other xs slot k o None ne))
          (subst (λ (b : Option Upload). IsKept shape datas (slice_index_or xs k None) b) (sym (get_or-set_other us slot k p None ne)) (all k))
    ]

-- ---- the slots of a session and of the state that it keeps

-- the number of a slot is less than the number of its slots, and of those of the machine
pub slot_within : (v : Work) (m : Machine) (slot : ℕ) → KeepsMachine v m → slot < slots_count → slot < length v.slots
slot_within v m slot keeps inside = omega (arith, inside, keeps.many)

pub slot_counted : (v : Work) (m : Machine) (slot : ℕ) → KeepsMachine v m → slot < slots_count → slot < length m.slots
slot_counted v m slot keeps inside = omega (arith, inside, keeps.count)

-- what is free in the session is free in the machine
pub machine_free : (v : Work) (m : Machine) (slot : ℕ) → KeepsMachine v m → slice_index_or v.slots slot None ≡ None → in_slot m slot ≡ None
machine_free v m slot keeps is = kept_free v.ledger.shape (m.datas ++ m.woven) (slice_index_or v.slots slot None) (in_slot m slot) is (keeps.slots slot)

-- where it has a Slot the machine has the upload that this keeps
pub machine_has : (v : Work) (m : Machine) (slot : ℕ) (s : Slot) → KeepsMachine v m → slice_index_or v.slots slot None ≡ Some s → HasUpload v.ledger.shape (m.datas ++ m.woven) s (in_slot m slot)
machine_has v m slot s keeps is = kept_some v.ledger.shape (m.datas ++ m.woven) (slice_index_or v.slots slot None) s (in_slot m slot) is (keeps.slots slot)

-- What is in a slot that has a Slot, and in that of the machine.
pub record HasSlot (v : Work) (m : Machine) (slot : ℕ) : Type 0 where
  pub kept : Slot
  pub is : slice_index_or v.slots slot None ≡ Some kept
  pub has : HasUpload v.ledger.shape (m.datas ++ m.woven) kept (in_slot m slot)

no_some : {A : Type 0} (o : Option A) → is_some o ≡ false → o ≡ None
no_some None is = refl
no_some (Some x) is = absurd (let e = is in cc)

has_slot : (v : Work) (m : Machine) (slot : ℕ) (o : Option Slot) → KeepsMachine v m → slice_index_or v.slots slot None ≡ o → is_some o ≡ true → HasSlot v m slot
has_slot v m slot None keeps there is = absurd (let e = is in cc)
has_slot v m slot (Some s) keeps there is = record { kept = s; is = there; has = machine_has v m slot s keeps there }

-- a slot that was read, with whatever default, and is free
pub read_free : (v : Work) (m : Machine) (slot : ℕ) (default : Option Slot) → KeepsMachine v m → slot < slots_count → is_some (slice_index_or v.slots slot default) ≡ false → in_slot m slot ≡ None
read_free v m slot default keeps inside is =
    machine_free v m slot keeps (no_some (slice_index_or v.slots slot None) (ap is_some (get_or_default v.slots slot None default (slot_within v m slot keeps inside)) ∙ is))

-- and one that has a Slot
pub read_taken : (v : Work) (m : Machine) (slot : ℕ) (default : Option Slot) → KeepsMachine v m → slot < slots_count → is_some (slice_index_or v.slots slot default) ≡ true → HasSlot v m slot
read_taken v m slot default keeps inside is =
    has_slot v m slot (slice_index_or v.slots slot None) keeps refl (ap is_some (get_or_default v.slots slot None default (slot_within v m slot keeps inside)) ∙ is)

-- the session with this in a slot
abbrev pub work_with : Work → ℕ → Option Slot → Work
work_with v slot o = record v { slots = slice_set v.slots slot o }

-- It keeps the state with what is kept there in the slot.
pub keeps_with : (v : Work) (m : Machine) (slot : ℕ) (o : Option Slot) (p : Option Upload) → slot < slots_count → KeepsMachine v m
    → IsKept v.ledger.shape (m.datas ++ m.woven) o p → HaveOwnNames (with_slot m slot p) → IsWithinLimits (with_slot m slot p)
    → KeepsMachine (work_with v slot o) (with_slot m slot p)
keeps_with v m slot o p inside keeps kept names limits = record {
  objects = keeps.objects;
  raised = keeps.raised;
  datas = keeps.datas;
  grown = keeps.grown;
  size = keeps.size;
  wide = keeps.wide;
  digests = keeps.digests;
  cell = keeps.cell;
  many = length-set v.slots slot o ∙ keeps.many;
  count = length-set m.slots slot p ∙ keeps.count;
  slots = kept_set v.ledger.shape (m.datas ++ m.woven) v.slots m.slots slot o p (slot_within v m slot keeps inside) (slot_counted v m slot keeps inside) keeps.slots kept;
  names = names;
  limits = limits;
}

-- And it stands for it, since X, W and what is kept of them are as they were.
pub stands_with : (v : Work) (m : Machine) (slot : ℕ) (o : Option Slot) (p : Option Upload) → StandsFor v m → StandsFor (work_with v slot o) (with_slot m slot p)
stands_with v m slot o p stands = record {
  records = stands.records;
  has = stands.has;
  recorded = stands.recorded;
  woven = stands.woven;
}

-- ---- steps

-- A refusal: nothing changed.
pub steps_refused : {T : Type 0} (done : T → Answer) (v : Work) (m : Machine) (message : Message) (refusal : Refusal)
    → step v.ledger.shape m message ≡ stays m (refused_by refusal) → KeepsMachine v m → Steps done v v m message (Err refusal)
steps_refused done v m message refusal is keeps = record {
  answer = ap (λ (s : Step). s.answer) is;
  keeps = subst (λ (s : Step). KeepsMachine v s.state) (sym is) keeps;
  stands = λ stands. subst (λ (s : Step). StandsFor v s.state) (sym is) stands;
  shape = refl;
}

-- A step that sets a slot alone, and that was made.
pub steps_slot : NamesStayOwn → LimitsStay → (v : Work) (m : Machine) (message : Message) (slot : ℕ) (o : Option Slot) (p : Option Upload)
    → slot < slots_count → step v.ledger.shape m message ≡ record { state = with_slot m slot p; answer = Made } → KeepsMachine v m
    → IsKept v.ledger.shape (m.datas ++ m.woven) o p → Steps made_by v (work_with v slot o) m message (Ok tt)
steps_slot own within v m message slot o p inside is keeps kept =
    let names : HaveOwnNames (with_slot m slot p) = subst (λ (s : Step). HaveOwnNames s.state) is (own v.ledger.shape m message keeps.count keeps.names) in
    let limits : IsWithinLimits (with_slot m slot p) = subst (λ (s : Step). IsWithinLimits s.state) is (within v.ledger.shape m message keeps.limits) in
    record {
      answer = ap (λ (s : Step). s.answer) is;
      keeps = subst (λ (s : Step). KeepsMachine (work_with v slot o) s.state) (sym is) (keeps_with v m slot o p inside keeps kept names limits);
      stands = λ stands. subst (λ (s : Step). StandsFor (work_with v slot o) s.state) (sym is) (stands_with v m slot o p stands);
      shape = refl;
    }
