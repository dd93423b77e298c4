-- The step of the machine for an open, for each way that it can go.
use Rattle.std.proofs.Common.{◌≡◌, ℕ, suc, ◌<◌, Bool, true, false, not, ◌||◌, List, [], ◌∷◌, ◌++◌, length, Option, None, Some, refl, sym, ◌∙◌, ap, arith}
use Rattle.std.specs.Prelude.{if◌then◌else◌, is_some, slice_index_or, option_map}
use Rattle.std.specs.List.{list_any}
use Rattle.std.specs.FinMap.{get}
use Rattle.std.specs.Str.{bytes_eq}
use Rattle.aea_lattice.specs.declared.shape.Shape.{Shape}
use Rattle.aea_catalog.specs.declared.objects.ObjectRef.{ObjectRef}
use Rattle.aea_catalog.specs.Catalogs.{Placed, Objects}
use Rattle.aea_catalog.specs.Names.{is_name, IsName}
use Rattle.aea_messages.specs.declared.message.Message.TheVariants.{Open}
use Rattle.aea_machine.specs.Machine.{Upload, Machine, Step, Made, BadSlot, BadName, NameTaken, NameOpen, stays, step, in_slot, with_slot, slots_count, is_no_slot, has_name, open_in}
use Rattle.aea_uploads.specs.declared.slot.Slot.{Slot}
use Rattle.aea_uploads.specs.Slots.{opened}
use Rattle.aea_session.specs.Opening.{keeps_name}
use Rattle.aea_session.specs.Stands.{IsKept, KeepsMachine}
use Rattle.aea_session.specs.declared.work.Work.{Work}
use Rattle.aea_session.proofs.Slotted.{slot_some, read_free}

-- ---- names that are kept

-- a slot keeps an upload of this name where that of the machine has one
same_name : (shape : Shape) (datas : List (List ℕ)) (name : List ℕ) (o : Option Slot) (p : Option Upload) → IsKept shape datas o p → keeps_name name o ≡ has_name name p
same_name shape datas name None None kept = refl
same_name shape datas name None (Some u) kept = absurd kept
same_name shape datas name (Some s) None kept = absurd kept
same_name shape datas name (Some s) (Some u) kept = ap (bytes_eq name) kept.name

-- some slot keeps an upload of this name where the machine has one
pub same_names : (shape : Shape) (datas : List (List ℕ)) (name : List ℕ) (xs : List (Option Slot)) (us : List (Option Upload)) → length xs ≡ length us
    → ((k : ℕ) → IsKept shape datas (slice_index_or xs k None) (slice_index_or us k None)) → list_any (keeps_name name) xs ≡ list_any (has_name name) us
same_names shape datas name [] [] long all = refl
same_names shape datas name [] (p ∷ us) long all = absurd (omega (arith, long))
same_names shape datas name (o ∷ xs) [] long all = absurd (omega (arith, long))
same_names shape datas name (o ∷ xs) (p ∷ us) long all =
    ap (λ (b : Bool). b || list_any (keeps_name name) xs) (same_name shape datas name o p (all 0))
    ∙ ap (λ (b : Bool). has_name name p || b) (same_names shape datas name xs us (omega (arith, long)) (λ k. all (suc k)))

-- ---- what an open looks at

-- The slot is free, the bytes are a name, no object has it, and this says whether a slot of the machine has it.
pub record IsLookedAt (m : Machine) (slot : ℕ) (name : List ℕ) (named : Bool) : Type 0 where
  pub inside : is_no_slot slot ≡ false
  pub free : in_slot m slot ≡ None
  pub is : IsName name
  pub new : is_some (get m.objects name) ≡ false
  pub names : list_any (has_name name) m.slots ≡ named

-- whether there is something is so of what is made of it
is_some_map : {X Y : Type 0} (f : X → Y) (o : Option X) → is_some (option_map f o) ≡ is_some o
is_some_map f None = refl
is_some_map f (Some x) = refl

-- it is so by what the session found
pub looked_at : (v : Work) (m : Machine) (slot : ℕ) (name : List ℕ) (default : Option Slot) (objects : Objects) (found : Option ObjectRef) (named : Bool) → KeepsMachine v m → slot < slots_count
    → false ≡ is_some (slice_index_or v.slots slot default) → IsName name → objects ≡ v.ledger.objects → found ≡ option_map (λ p. p.object) (get objects name) → false ≡ is_some found
    → named ≡ list_any (keeps_name name) v.slots → IsLookedAt m slot name named
looked_at v m slot name default objects found named keeps inside free is same finds none all = record {
  inside = slot_some slot inside;
  free = read_free v m slot default keeps inside (sym free);
  is = is;
  new =
      ap (λ (o : Objects). is_some (get o name)) (keeps.objects ∙ sym same) ∙ sym (is_some_map (λ (p : Placed). p.object) (get objects name)) ∙ ap is_some (sym finds) ∙ sym none;
  names = sym (all ∙ same_names v.ledger.shape (m.datas ++ m.woven) name v.slots m.slots (keeps.many ∙ sym keeps.count) keeps.slots);
}

-- ---- the ways

-- of a slot with this in it
opens_in : (shape : Shape) (m : Machine) (slot : ℕ) (name : List ℕ) (p : Option Upload) → is_no_slot slot ≡ false → in_slot m slot ≡ p → step shape m (Open slot name) ≡ open_in m slot name p
opens_in shape m slot name p is there = ap (λ (b : Bool). if b then stays m BadSlot else open_in m slot name (in_slot m slot)) is ∙ ap (open_in m slot name) there

-- the test of the machine for a free slot
abbrev free_by : Machine → ℕ → List ℕ → Bool → Bool → Bool → Step
free_by m slot name named taken named_so =
    if not named then stays m BadName
    else if taken then stays m NameTaken
    else if named_so then stays m NameOpen
    else record { state = with_slot m slot (Some (record { name = name; bytes = []; nodes = [] })); answer = Made }

-- where these are its answers
opens_by : (shape : Shape) (m : Machine) (slot : ℕ) (name : List ℕ) (a b c : Bool) → is_no_slot slot ≡ false → in_slot m slot ≡ None
    → is_name name ≡ a → is_some (get m.objects name) ≡ b → list_any (has_name name) m.slots ≡ c → step shape m (Open slot name) ≡ free_by m slot name a b c
opens_by shape m slot name a b c is there na nb nc =
    opens_in shape m slot name None is there
    ∙ ap (λ (x : Bool). free_by m slot name x (is_some (get m.objects name)) (list_any (has_name name) m.slots)) na
    ∙ ap (λ (x : Bool). free_by m slot name a x (list_any (has_name name) m.slots)) nb
    ∙ ap (λ (x : Bool). free_by m slot name a b x) nc

-- of a name that is open, and of a new one
pub opens_open : (shape : Shape) (m : Machine) (slot : ℕ) (name : List ℕ) → IsLookedAt m slot name true → step shape m (Open slot name) ≡ stays m NameOpen
opens_open shape m slot name seen = opens_by shape m slot name true false true seen.inside seen.free seen.is seen.new seen.names

pub opens_new : (shape : Shape) (m : Machine) (slot : ℕ) (name : List ℕ) → IsLookedAt m slot name false
    → step shape m (Open slot name) ≡ record { state = with_slot m slot (Some (opened name)); answer = Made }
opens_new shape m slot name seen = opens_by shape m slot name true false false seen.inside seen.free seen.is seen.new seen.names
