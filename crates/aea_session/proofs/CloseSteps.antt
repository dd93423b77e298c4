-- The machine's step of a close, by the cause of each answer.
use Rattle.std.proofs.Common.{◌≡◌, ◌≢◌, ℕ, ◌+◌, ◌<◌, ◌≤◌, Bool, [], ◌∷◌, ◌++◌, length, Option, None, Some, ◌∙◌, ap}
use Rattle.std.specs.Prelude.{if◌then◌else◌}
use Rattle.std.specs.FinMap.{len}
use Rattle.sha2.specs.Sha256.{sha256}
use Rattle.std.proofs.lemmas.Bool.{eq-eqb, ne_eqb, le-leb, lt-leb}
use Rattle.aea_lattice.specs.declared.shape.Shape.{Shape}
use Rattle.aea_records.specs.Format.{greatest_objects, raised_limit}
use Rattle.aea_messages.specs.declared.message.Message.TheVariants.{Close}
use Rattle.aea_machine.specs.Closings.{Closing, closing_by, closing_in}
use Rattle.aea_machine.specs.Machine.{Upload, Machine, Step, Closed, BadSlot, SlotFree, CatalogFull, Full, stays, step, in_slot, slots_count, has_room, last_block, nodes_now, closed_nodes, commit, close_in}

-- no such slot
pub step-bad : (shape : Shape) (m : Machine) (slot : ℕ) → slots_count ≤ slot → step shape m (Close slot) ≡ stays m BadSlot
step-bad shape m slot past = ap (λ (b : Bool). if b then stays m BadSlot else close_in shape m slot (in_slot m slot)) (le-leb slots_count slot past)

-- there is one
step-slot : (shape : Shape) (m : Machine) (slot : ℕ) (o : Option Upload) → slot < slots_count → in_slot m slot ≡ o → step shape m (Close slot) ≡ close_in shape m slot o
step-slot shape m slot o below there =
    ap (λ (b : Bool). if b then stays m BadSlot else close_in shape m slot (in_slot m slot)) (lt-leb slots_count slot below)
    ∙ ap (close_in shape m slot) there

-- it is free
pub step-free : (shape : Shape) (m : Machine) (slot : ℕ) → slot < slots_count → in_slot m slot ≡ None → step shape m (Close slot) ≡ stays m SlotFree
step-free shape m slot below there = step-slot shape m slot None below there

-- there are the most objects
pub step-many : (shape : Shape) (m : Machine) (slot : ℕ) (u : Upload) → slot < slots_count → in_slot m slot ≡ Some u → len m.objects ≡ greatest_objects → step shape m (Close slot) ≡ stays m CatalogFull
step-many shape m slot u below there many =
    step-slot shape m slot (Some u) below there
    ∙ ap (λ (b : Bool). if b then stays m CatalogFull else (if has_room m (length (last_block shape u)) then record { state = commit shape m slot u; answer = Closed (length (closed_nodes shape m u)) (length u.bytes) (sha256 u.bytes) } else stays m (Full (nodes_now m))))
    (eq-eqb (len m.objects) greatest_objects many)

-- there are not
step-few : (shape : Shape) (m : Machine) (slot : ℕ) (u : Upload) → slot < slots_count → in_slot m slot ≡ Some u → len m.objects ≢ greatest_objects
    → step shape m (Close slot) ≡ (if has_room m (length (last_block shape u)) then record { state = commit shape m slot u; answer = Closed (length (closed_nodes shape m u)) (length u.bytes) (sha256 u.bytes) } else stays m (Full (nodes_now m)))
step-few shape m slot u below there few =
    step-slot shape m slot (Some u) below there
    ∙ ap (λ (b : Bool). if b then stays m CatalogFull else (if has_room m (length (last_block shape u)) then record { state = commit shape m slot u; answer = Closed (length (closed_nodes shape m u)) (length u.bytes) (sha256 u.bytes) } else stays m (Full (nodes_now m))))
    (ne_eqb (len m.objects) greatest_objects few)

-- the last block does not fit
pub step-full : (shape : Shape) (m : Machine) (slot : ℕ) (u : Upload) → slot < slots_count → in_slot m slot ≡ Some u → len m.objects ≢ greatest_objects
    → raised_limit < nodes_now m + length (last_block shape u) → step shape m (Close slot) ≡ stays m (Full (nodes_now m))
step-full shape m slot u below there few over =
    step-few shape m slot u below there few
    ∙ ap (λ (b : Bool). if b then record { state = commit shape m slot u; answer = Closed (length (closed_nodes shape m u)) (length u.bytes) (sha256 u.bytes) } else stays m (Full (nodes_now m)))
    (lt-leb (nodes_now m + length (last_block shape u)) raised_limit over)

-- it is made
pub step-made : (shape : Shape) (m : Machine) (slot : ℕ) (u : Upload) → slot < slots_count → in_slot m slot ≡ Some u → len m.objects ≢ greatest_objects
    → nodes_now m + length (last_block shape u) ≤ raised_limit
    → step shape m (Close slot) ≡ record { state = commit shape m slot u; answer = Closed (length (closed_nodes shape m u)) (length u.bytes) (sha256 u.bytes) }
step-made shape m slot u below there few fits =
    step-few shape m slot u below there few
    ∙ ap (λ (b : Bool). if b then record { state = commit shape m slot u; answer = Closed (length (closed_nodes shape m u)) (length u.bytes) (sha256 u.bytes) } else stays m (Full (nodes_now m)))
    (le-leb (nodes_now m + length (last_block shape u)) raised_limit fits)

-- what is closed then
abbrev pub the_closing : Shape → Machine → Upload → Closing
the_closing shape m u = record { name = u.name; bytes = u.bytes; nodes = closed_nodes shape m u; blocks = m.woven ++ last_block shape u }

pub closing-made : (shape : Shape) (m : Machine) (slot : ℕ) (u : Upload) → slot < slots_count → in_slot m slot ≡ Some u → len m.objects ≢ greatest_objects
    → nodes_now m + length (last_block shape u) ≤ raised_limit → closing_in shape m (Close slot) ≡ the_closing shape m u ∷ []
closing-made shape m slot u below there few fits =
    ap (λ (o : Option Upload). closing_by shape m o (step shape m (Close slot)).answer) there
    ∙ ap (λ (s : Step). closing_by shape m (Some u) s.answer) (step-made shape m slot u below there few fits)
