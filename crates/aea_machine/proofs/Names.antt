-- Names, limits, and what is stored.
use Rattle.std.proofs.Common.{◌≡◌, ◌≢◌, inl, inr, ℕ, zero, suc, ◌+◌, ◌<◌, ◌≤◌, Bool, true, false, not, ◌||◌, cond, List, [], ◌∷◌, ◌++◌, length, replicate, Option, None, Some, refl, sym, ◌∙◌, ap, subst, arith, length-append, append_assoc}
use Rattle.std.specs.Prelude.{◌==◌, is_some, slice_index_or, slice_set}
use Rattle.std.specs.List.{list_any}
use Rattle.std.specs.FinMap.{get, len, insert, get-insert, len-insert}
use Rattle.std.specs.Cmp.Lexicographic.{nat_list_cmp_total}
use Rattle.std.specs.Str.{bytes_eq}
use Rattle.std.proofs.lemmas.Map.Text.{is_eq-slice_cmp}
use Rattle.std.proofs.lemmas.Slice.Eq.{bytes_eq-Decides}
use Rattle.std.proofs.lemmas.Bool.{cases_eq, cases_Bool, eq-eqb, leb-true, leb-false}
use Rattle.std.proofs.lemmas.List.{append-nil, get_or-set_same, get_or-set_other}
use Rattle.aea_lattice.specs.declared.shape.Shape.{Shape}
use Rattle.aea_catalog.specs.Catalogs.{Placed, Objects}
use Rattle.aea_catalog.specs.Names.{is_name, IsName}
use Rattle.aea_records.specs.Format.{greatest_objects, raised_limit}
use Rattle.aea_messages.specs.declared.message.Message.{Message}
use Rattle.aea_messages.specs.declared.message.Message.TheVariants.{Open, Chunk, Close, Abort, Read, Patrol}
use Rattle.aea_machine.specs.Machine.{Upload, Machine, Step, Answer, Made, Reads, Patrols, BadSlot, SlotTaken, SlotFree, BadName, NameTaken, NameOpen, Full, CatalogFull, UnknownName, BadRange, begun, stays, step, in_slot, with_slot, weave, slots_count, is_no_slot, has_name, has_room, filled_by, last_block, nodes_now, nodes_of_blocks, closed_nodes, placed_by, commit, open_in, chunk_in, close_in, abort_in, read_in, is_range}
use Rattle.aea_machine.specs.Sound.{HaveOwnNames, IsWithinLimits, KeepsStored, NamesStayOwn, LimitsStay, StoredStay, NoneHaveNames}
use Rattle.aea_machine.proofs.Machines.{choose}

-- ---- values

upload_or : Upload → Option Upload → Upload
upload_or u None = u
upload_or u (Some w) = w

IsNothing : {A : Type 0} → Option A → Type 0
IsNothing None = Unit {0}
IsNothing (Some w) = ⊥

pub same_upload : (u w : Upload) → Some u ≡ Some w → u ≡ w
unfolding upload_or
same_upload u w e = ap (λ (o : Option Upload). upload_or u o) e

pub nothing_is_none : {A B : Type 0} (w : A) → (let none : Option A = None in none ≡ Some w) → B
unfolding IsNothing
nothing_is_none w e = absurd (subst (λ o. IsNothing o) e tt)

pub yes_no : true ≡ false → ⊥
yes_no e = cc

no_some : {A : Type 0} (o : Option A) → is_some o ≡ false → o ≡ None
no_some None e = refl
no_some (Some x) e = absurd (yes_no e)

or_left : (a b : Bool) → (a || b) ≡ false → a ≡ false
or_left true b e = e
or_left false b e = refl

or_right : (a b : Bool) → (a || b) ≡ false → b ≡ false
or_right true b e = absurd (yes_no e)
or_right false b e = e

not_not : (b : Bool) → not b ≡ false → b ≡ true
not_not true e = refl
not_not false e = absurd (yes_no e)

-- ---- what is under a name

-- where one more is put under it
pub get_here : (m : Objects) (key : List ℕ) (placed : Placed) → get (insert m key placed) key ≡ Some placed
get_here m key placed =
    get-insert nat_list_cmp_total m key placed key
    ∙ ap (λ (b : Bool). cond b (Some placed) (get m key)) (is_eq-slice_cmp key key ∙ (bytes_eq-Decides key key).1 refl)

-- and where it is put under another
get_there : (m : Objects) (key name : List ℕ) (placed : Placed) → name ≢ key → get (insert m key placed) name ≡ get m name
get_there m key name placed other =
    elim (cases_Bool (bytes_eq name key)) [
      | inl same ↦ absurd (other ((bytes_eq-Decides name key).0 same))
      | inr none ↦
          get-insert nat_list_cmp_total m key placed name
          ∙ ap (λ (b : Bool). cond b (Some placed) (get m name)) (is_eq-slice_cmp name key ∙ none)
    ]

-- one that was there is not under a name that was free
get_kept : (m : Objects) (key name : List ℕ) (placed p : Placed) → get m key ≡ None → get m name ≡ Some p → get (insert m key placed) name ≡ Some p
get_kept m key name placed p free found =
    get_there m key name placed (λ same. nothing_is_none p (sym free ∙ ap (get m) (sym same) ∙ found)) ∙ found

few_chosen : (b : Bool) (n most : ℕ) → n + 1 ≤ most → cond b n (n + 1) ≤ most
few_chosen true n most few = omega (arith, few)
few_chosen false n most few = few

len_most : (m : Objects) (key : List ℕ) (placed : Placed) (most : ℕ) → len m + 1 ≤ most → len (insert m key placed) ≤ most
len_most m key placed most few =
    subst (λ (n : ℕ). n ≤ most) (sym (len-insert nat_list_cmp_total m key placed)) (few_chosen _ (len m) most few)

-- fewer than the most, where they are not as many
fewer : (n most : ℕ) → n ≤ most → (n == most) ≡ false → n + 1 ≤ most
fewer n most few other =
    elim (cases_eq n most) [
      | inl e ↦ absurd (yes_no (sym (eq-eqb n most e) ∙ other))
      | inr ne ↦ omega (arith, few, ne)
    ]

-- ---- slots

-- so many free slots
free_slots : ℕ → List (Option Upload)
free_slots n = replicate n None

-- no slot has the name
none_has : (name : List ℕ) (slots : List (Option Upload)) (slot : ℕ) → list_any (has_name name) slots ≡ false → has_name name (slice_index_or slots slot None) ≡ false
none_has name [] slot e = refl
none_has name (o ∷ slots) zero e = or_left (has_name name o) (list_any (has_name name) slots) e
none_has name (o ∷ slots) (suc slot) e = none_has name slots slot (or_right (has_name name o) (list_any (has_name name) slots) e)

other_name : (m : Machine) (name : List ℕ) (slot : ℕ) (u : Upload) → list_any (has_name name) m.slots ≡ false → in_slot m slot ≡ Some u → name ≢ u.name
other_name m name slot u free there same =
    let no : bytes_eq name u.name ≡ false = sym (ap (has_name name) there) ∙ none_has name m.slots slot free in
    let yes : bytes_eq name u.name ≡ true = (bytes_eq-Decides name u.name).1 same in
    absurd (yes_no (sym yes ∙ no))

-- what stands in a slot where one is set
set_same : (m n : Machine) (other : ℕ) (v : Option Upload) → n.slots ≡ slice_set m.slots other v → other < length m.slots → in_slot n other ≡ v
set_same m n other v is inside = ap (λ (l : List (Option Upload)). slice_index_or l other None) is ∙ get_or-set_same m.slots other v None inside

set_other : (m n : Machine) (slot other : ℕ) (v : Option Upload) → n.slots ≡ slice_set m.slots other v → slot ≢ other → in_slot n slot ≡ in_slot m slot
set_other m n slot other v is ne = ap (λ (l : List (Option Upload)). slice_index_or l slot None) is ∙ get_or-set_other m.slots other slot v None ne

-- what is set stands in its slot
set_here : (m n : Machine) (slot other : ℕ) (v : Option Upload) (u : Upload) → n.slots ≡ slice_set m.slots other v → other < length m.slots → slot ≡ other → in_slot n slot ≡ Some u → v ≡ Some u
set_here m n slot other v u is inside e there = sym (set_same m n other v is inside) ∙ ap (in_slot n) (sym e) ∙ there

-- ---- names

-- what must be known of an upload that is put into a slot, where n has its objects
record IsNewIn (m n : Machine) (other : ℕ) (w : Upload) : Type 0 where
  named : IsName w.name
  new : get n.objects w.name ≡ None
  alone : (slot : ℕ) (u : Upload) → slot ≢ other → in_slot m slot ≡ Some u → u.name ≢ w.name

-- the names where one slot is set
own_set : (m n : Machine) (other : ℕ) (v : Option Upload) → n.slots ≡ slice_set m.slots other v → other < length m.slots → HaveOwnNames m
    → ((slot : ℕ) (u : Upload) → slot ≢ other → in_slot m slot ≡ Some u → get n.objects u.name ≡ None)
    → ((w : Upload) → v ≡ Some w → IsNewIn m n other w) → HaveOwnNames n
own_set m n other v is inside own free new = record {
  named = λ slot u there. elim (cases_eq slot other) [
    | inl e ↦ (new u (set_here m n slot other v u is inside e there)).named
    | inr ne ↦ own.named slot u (sym (set_other m n slot other v is ne) ∙ there)
  ];
  new = λ slot u there. elim (cases_eq slot other) [
    | inl e ↦ (new u (set_here m n slot other v u is inside e there)).new
    | inr ne ↦ free slot u ne (sym (set_other m n slot other v is ne) ∙ there)
  ];
  alone = λ slot next u w there far same. elim (cases_eq slot other) [
    | inl e ↦ elim (cases_eq next other) [
      | inl f ↦ e ∙ sym f
      | inr ne ↦ absurd ((new u (set_here m n slot other v u is inside e there)).alone next w ne (sym (set_other m n next other v is ne) ∙ far) (sym same))
    ]
    | inr ne ↦ elim (cases_eq next other) [
      | inl f ↦ absurd ((new w (set_here m n next other v w is inside f far)).alone slot u ne (sym (set_other m n slot other v is ne) ∙ there) same)
      | inr nf ↦ own.alone slot next u w (sym (set_other m n slot other v is ne) ∙ there) (sym (set_other m n next other v is nf) ∙ far) same
    ]
  ];
}

pub below : (m : Machine) (other : ℕ) → is_no_slot other ≡ false → length m.slots ≡ slots_count → other < length m.slots
below m other is all = omega (arith, leb-false slots_count other is, all)

-- ---- the facts of a step

-- names stay own, the limits are kept, and what is stored stays
record Stands (m : Machine) (s : Step) : Type 0 where
  names : length m.slots ≡ slots_count → HaveOwnNames m → HaveOwnNames s.state
  limits : IsWithinLimits m → IsWithinLimits s.state
  stored : HaveOwnNames m → KeepsStored m s.state

-- what is stored is the same
same_stored : (m : Machine) → KeepsStored m m
same_stored m = record { more = []; datas = sym (append-nil m.datas); objects = λ name placed found. found }

stands_still : (m : Machine) (answer : Answer) → Stands m (stays m answer)
stands_still m answer = record { names = λ all own. own; limits = λ within. within; stored = λ own. same_stored m }

-- a step that sets a slot alone
stands_slot : (m : Machine) (other : ℕ) (v : Option Upload) → is_no_slot other ≡ false
    → ((w : Upload) → v ≡ Some w → HaveOwnNames m → IsNewIn m (with_slot m other v) other w) → Stands m (record { state = with_slot m other v; answer = Made })
stands_slot m other v is new = record {
  names = λ all own. own_set m (with_slot m other v) other v refl (below m other is all) own (λ slot u ne there. own.new slot u there) (λ w e. new w e own);
  limits = λ within. record { nodes = within.nodes; objects = within.objects };
  stored = λ own. record { more = []; datas = sym (append-nil m.datas); objects = λ name placed found. found };
}

-- ---- each message

abbrev opened : List ℕ → Upload
opened name = record { name = name; bytes = []; nodes = [] }

stands_opened : (m : Machine) (other : ℕ) (name : List ℕ) → is_no_slot other ≡ false → is_name name ≡ true → get m.objects name ≡ None → list_any (has_name name) m.slots ≡ false
    → Stands m (record { state = with_slot m other (Some (opened name)); answer = Made })
stands_opened m other name is named free alone =
    stands_slot m other (Some (opened name)) is
    (λ w e own. subst (IsNewIn m (with_slot m other (Some (opened name))) other) (same_upload (opened name) w e)
    (record { named = named; new = free; alone = λ slot u ne there same. other_name m name slot u alone there (sym same) }))

stands_open : (m : Machine) (other : ℕ) (name : List ℕ) (o : Option Upload) → is_no_slot other ≡ false → Stands m (open_in m other name o)
stands_open m other name (Some u) is = stands_still m SlotTaken
stands_open m other name None is =
    choose (Stands m) (not (is_name name)) (stays m BadName) _ (λ e. stands_still m BadName)
    (λ e. choose (Stands m) (is_some (get m.objects name)) (stays m NameTaken) _ (λ f. stands_still m NameTaken)
    (λ f. choose (Stands m) (list_any (has_name name) m.slots) (stays m NameOpen) _ (λ g. stands_still m NameOpen)
    (λ g. stands_opened m other name is (not_not (is_name name) e) (no_some (get m.objects name) f) g)))

-- an upload with a chunk more
abbrev grown : Shape → Machine → List ℕ → Upload → Upload
grown shape m bytes u = record { name = u.name; bytes = u.bytes ++ bytes; nodes = u.nodes ++ nodes_of_blocks m (filled_by shape u bytes) }

abbrev chunked : Shape → Machine → ℕ → List ℕ → Upload → Machine
chunked shape m other bytes u = with_slot (weave m (filled_by shape u bytes)) other (Some (grown shape m bytes u))

stands_chunked : (shape : Shape) (m : Machine) (other : ℕ) (bytes : List ℕ) (u : Upload) → in_slot m other ≡ Some u → is_no_slot other ≡ false → has_room m (length (filled_by shape u bytes)) ≡ true
    → Stands m (record { state = chunked shape m other bytes u; answer = Made })
stands_chunked shape m other bytes u there is fits = record {
  names = λ all own. own_set m (chunked shape m other bytes u) other (Some (grown shape m bytes u)) refl (below m other is all) own (λ slot w ne far. own.new slot w far)
      (λ w e. subst (IsNewIn m (chunked shape m other bytes u) other) (same_upload (grown shape m bytes u) w e)
      (record { named = own.named other u there; new = own.new other u there; alone = λ slot v ne far same. ne (own.alone slot other v u far there same) }));
  limits = λ within. record {
    nodes = omega (arith, leb-true (nodes_now m + length (filled_by shape u bytes)) raised_limit fits, length-append m.woven (filled_by shape u bytes));
    objects = within.objects;
  };
  stored = λ own. record { more = []; datas = sym (append-nil m.datas); objects = λ name placed found. found };
}

stands_chunk : (shape : Shape) (m : Machine) (other : ℕ) (bytes : List ℕ) (o : Option Upload) → in_slot m other ≡ o → is_no_slot other ≡ false → Stands m (chunk_in shape m other bytes o)
stands_chunk shape m other bytes None there is = stands_still m SlotFree
stands_chunk shape m other bytes (Some u) there is =
    choose (Stands m) (has_room m (length (filled_by shape u bytes))) _ (stays m (Full (nodes_now m)))
    (λ e. stands_chunked shape m other bytes u there is e) (λ e. stands_still m (Full (nodes_now m)))

-- the limits behind a close
close_limits : (shape : Shape) (m : Machine) (other : ℕ) (u : Upload) → (len m.objects == greatest_objects) ≡ false → has_room m (length (last_block shape u)) ≡ true → IsWithinLimits m
    → IsWithinLimits (commit shape m other u)
close_limits shape m other u few fits within = record {
  nodes = omega (arith, leb-true (nodes_now m + length (last_block shape u)) raised_limit fits, length-append (m.datas ++ m.woven) (last_block shape u), length-append m.datas m.woven);
  objects = len_most m.objects u.name (placed_by u.bytes (closed_nodes shape m u)) greatest_objects (fewer (len m.objects) greatest_objects within.objects few);
}

stands_closed : (shape : Shape) (m : Machine) (other : ℕ) (u : Upload) (answer : Answer) → in_slot m other ≡ Some u → is_no_slot other ≡ false
    → (len m.objects == greatest_objects) ≡ false → has_room m (length (last_block shape u)) ≡ true → Stands m (record { state = commit shape m other u; answer = answer })
stands_closed shape m other u answer there is few fits =
    let placed = placed_by u.bytes (closed_nodes shape m u) in
    record {
      names = λ all own. own_set m (commit shape m other u) other None refl (below m other is all) own
          (λ slot w ne far. get_there m.objects u.name w.name placed (λ same. ne (own.alone slot other w u far there same)) ∙ own.new slot w far)
          (λ w e. nothing_is_none w e);
      limits = λ within. close_limits shape m other u few fits within;
      stored = λ own. record {
        more = m.woven ++ last_block shape u;
        datas = append_assoc m.datas m.woven (last_block shape u);
        objects = λ name p found. get_kept m.objects u.name name placed p (own.new other u there) found;
      };
    }

stands_close : (shape : Shape) (m : Machine) (other : ℕ) (o : Option Upload) → in_slot m other ≡ o → is_no_slot other ≡ false → Stands m (close_in shape m other o)
stands_close shape m other None there is = stands_still m SlotFree
stands_close shape m other (Some u) there is =
    choose (Stands m) (len m.objects == greatest_objects) (stays m CatalogFull) _ (λ e. stands_still m CatalogFull)
    (λ e. choose (Stands m) (has_room m (length (last_block shape u))) _ (stays m (Full (nodes_now m)))
    (λ f. stands_closed shape m other u _ there is e f) (λ f. stands_still m (Full (nodes_now m))))

stands_abort : (m : Machine) (other : ℕ) (o : Option Upload) → is_no_slot other ≡ false → Stands m (abort_in m other o)
stands_abort m other None is = stands_still m SlotFree
stands_abort m other (Some u) is = stands_slot m other None is (λ w e own. nothing_is_none w e)

stands_read : (m : Machine) (o : Option Placed) → Stands m (read_in m o)
stands_read m None = stands_still m UnknownName
stands_read m (Some placed) = stands_still m (Reads placed)

stands : (shape : Shape) (m : Machine) (message : Message) → Stands m (step shape m message)
stands shape m (Open slot name) = choose (Stands m) (is_no_slot slot) (stays m BadSlot) (open_in m slot name (in_slot m slot)) (λ e. stands_still m BadSlot) (λ e. stands_open m slot name (in_slot m slot) e)
stands shape m (Chunk slot bytes) = choose (Stands m) (is_no_slot slot) (stays m BadSlot) (chunk_in shape m slot bytes (in_slot m slot)) (λ e. stands_still m BadSlot) (λ e. stands_chunk shape m slot bytes (in_slot m slot) refl e)
stands shape m (Close slot) = choose (Stands m) (is_no_slot slot) (stays m BadSlot) (close_in shape m slot (in_slot m slot)) (λ e. stands_still m BadSlot) (λ e. stands_close shape m slot (in_slot m slot) refl e)
stands shape m (Abort slot) = choose (Stands m) (is_no_slot slot) (stays m BadSlot) (abort_in m slot (in_slot m slot)) (λ e. stands_still m BadSlot) (λ e. stands_abort m slot (in_slot m slot) e)
stands shape m (Read name) = stands_read m (get m.objects name)
stands shape m (Patrol first count) = choose (Stands m) (is_range shape m first count) (stays m (Patrols first count)) (stays m BadRange) (λ e. stands_still m (Patrols first count)) (λ e. stands_still m BadRange)

-- ---- the laws

pub names-own : NamesStayOwn
names-own shape m message all own = (stands shape m message).names all own

pub limits-kept : LimitsStay
limits-kept shape m message within = (stands shape m message).limits within

pub stored-kept : StoredStay
stored-kept shape m message own = (stands shape m message).stored own

-- a slot of none
free_slot : (n slot : ℕ) → slice_index_or (free_slots n) slot None ≡ None
unfolding free_slots
free_slot zero slot = refl
free_slot (suc n) zero = refl
free_slot (suc n) (suc slot) = free_slot n slot

pub begun_free : (datas : List (List ℕ)) (objects : Objects) (slot : ℕ) → in_slot (begun datas objects) slot ≡ None
unfolding free_slots
begun_free datas objects slot = free_slot slots_count slot

pub none-named : NoneHaveNames
unfolding free_slots
none-named datas objects = record {
  named = λ slot u there. nothing_is_none u (sym (free_slot slots_count slot) ∙ there);
  new = λ slot u there. nothing_is_none u (sym (free_slot slots_count slot) ∙ there);
  alone = λ slot other u w there far same. nothing_is_none u (sym (free_slot slots_count slot) ∙ there);
}
