-- The blocks of uploads, and where they stand.
use Rattle.std.proofs.Common.{◌≡◌, inl, inr, ℕ, zero, suc, ◌+◌, ◌-◌, ◌*◌, ◌/◌, ◌<◌, ◌≤◌, Bool, true, false, not, List, [], ◌∷◌, ◌++◌, length, take, drop, replicate, Option, None, Some, refl, sym, ◌∙◌, ap, subst, arith, length-append, append_assoc}
use Rattle.std.specs.Prelude.{◌==◌, if◌then◌else◌, is_some, slice_index_or, slice_set}
use Rattle.std.specs.List.{flat_map, list_any, range_with_len}
use Rattle.std.specs.FinMap.{get, len}
use Rattle.std.proofs.lemmas.Bool.{cases_eq, cases_lt, eqb-true}
use Rattle.std.proofs.lemmas.Bool.Decides.{nat_tests}
use Rattle.std.proofs.lemmas.Nat.{div_below}
use Rattle.std.proofs.Math.Nat.{div-mul-le_self, le-div_iff_mul-le}
use Rattle.std.proofs.lemmas.List.{append-nil, map-append, get_or-set_same, get_or-set_other, get_or_at, get_or_append_left, take-append-le, drop-append-le, take-append-drop, take_at, drop_at, drop_more, length-replicate, length-drop}
use Rattle.aea_lattice.specs.declared.shape.Shape.{Shape}
use Rattle.aea_catalog.specs.declared.objects.Extent.{Extent}
use Rattle.aea_catalog.specs.Catalogs.{Placed}
use Rattle.aea_catalog.specs.Names.{is_name}
use Rattle.aea_records.specs.Format.{greatest_objects, nodes_for}
use Rattle.aea_records.specs.Recorded.{blocks_in}
use Rattle.aea_archive.specs.Next.{cut_blocks, object_blocks}
use Rattle.aea_archive.proofs.Pieces.{cut-joined}
use Rattle.aea_messages.specs.declared.message.Message.TheVariants.{Open, Chunk, Close, Abort, Read, Patrol}
use Rattle.aea_machine.specs.Machine.{Upload, Machine, Step, Patrols, BadSlot, BadName, NameTaken, NameOpen, Full, CatalogFull, BadRange, stays, in_slot, with_slot, weave, slots_count, is_no_slot, has_name, has_room, nodes_now, full_blocks, filled_by, last_block, nodes_of_blocks, closed_nodes, commit, placed_by, onto_run, runs_of, open_in, chunk_in, close_in, abort_in, read_in, is_range}
use Rattle.aea_machine.specs.Holding.{blocks_at, AreNodes, HoldsUpload, AllHold, UploadsHold, NoneHold, ClosedAreHeld, ClosedAreRead}
use Rattle.aea_machine.proofs.Machines.{choose}
use Rattle.aea_machine.proofs.Names.{get_here, same_upload, nothing_is_none, begun_free, below}

-- ---- numbers of blocks

some_bytes : (shape : Shape) → 16 ≤ shape.block
some_bytes shape = let h = shape.in_profile in grind (arith, nat_tests)

div_more : (a b size : ℕ) → 0 < size → a ≤ b → a / size ≤ b / size
div_more a b size some few = let h = div-mul-le_self a size in (le-div_iff_mul-le some).1 (omega (arith, h, few))

div_past : (n size : ℕ) → 0 < size → n < (n / size + 1) * size
div_past n size some =
    elim (cases_lt n ((n / size + 1) * size)) [
      | inl lt ↦ lt
      | inr le ↦ let h : n / size + 1 ≤ n / size = (le-div_iff_mul-le some).1 le in absurd (omega (arith, h))
    ]

full_few : (shape : Shape) (long : ℕ) → long / shape.block ≤ nodes_for shape long
full_few shape long = let some = some_bytes shape in div_more long (long + shape.block - 1) shape.block (omega (arith, some)) (omega (arith, some))

nodes_hold : (shape : Shape) (long : ℕ) → long ≤ nodes_for shape long * shape.block
nodes_hold shape long =
    let some = some_bytes shape in
    let past = div_past (long + shape.block - 1) shape.block (omega (arith, some)) in
    let e : (nodes_for shape long + 1) * shape.block ≡ nodes_for shape long * shape.block + shape.block = omega arith in
    omega (arith, past, e, some)

-- ---- blocks that bytes are cut into

cut_front : (size n : ℕ) (xs ys : List ℕ) → n * size ≤ length xs → cut_blocks size n (xs ++ ys) ≡ cut_blocks size n xs
cut_front size zero xs ys few = refl
cut_front size (suc n) xs ys few =
    let e : suc n * size ≡ n * size + size = omega arith in
    let one : size ≤ length xs = omega (arith, few, e) in
    let head : take size ((xs ++ ys) ++ replicate size 0) ≡ take size (xs ++ replicate size 0) =
    ap (take size) (append_assoc xs ys (replicate size 0)) ∙ take-append-le size xs (ys ++ replicate size 0) one ∙ sym (take-append-le size xs (replicate size 0) one) in
    let tail : cut_blocks size n (drop size (xs ++ ys)) ≡ cut_blocks size n (drop size xs) =
    ap (cut_blocks size n) (drop-append-le size xs ys one) ∙ cut_front size n (drop size xs) ys (omega (arith, few, e, length-drop size xs)) in
    λ i. head i ∷ tail i

cut_take : (size k n : ℕ) (bytes : List ℕ) → k ≤ n → take k (cut_blocks size n bytes) ≡ cut_blocks size k bytes
cut_take size zero n bytes few = refl
cut_take size (suc k) zero bytes few = absurd (omega (arith, few))
cut_take size (suc k) (suc n) bytes few = ap (λ (l : List (List ℕ)). take size (bytes ++ replicate size 0) ∷ l) (cut_take size k n (drop size bytes) (omega (arith, few)))

-- the blocks that were filled, and those that are filled now
full_both : (shape : Shape) (u : Upload) (bytes : List ℕ) → full_blocks shape u.bytes ++ filled_by shape u bytes ≡ full_blocks shape (u.bytes ++ bytes)
full_both shape u bytes =
    let some = some_bytes shape in
    let size = shape.block in
    let k = length u.bytes / size in
    let n = length (u.bytes ++ bytes) / size in
    let few : k ≤ n = div_more (length u.bytes) (length (u.bytes ++ bytes)) size (omega (arith, some)) (omega (arith, length-append u.bytes bytes)) in
    let front : full_blocks shape u.bytes ≡ take k (cut_blocks size n (u.bytes ++ bytes)) =
    sym (cut_take size k n (u.bytes ++ bytes) few ∙ cut_front size k u.bytes bytes (div-mul-le_self (length u.bytes) size)) in
    ap (λ (l : List (List ℕ)). l ++ drop k (cut_blocks size n (u.bytes ++ bytes))) front ∙ take-append-drop k (cut_blocks size n (u.bytes ++ bytes))

-- and the last one
full_last : (shape : Shape) (u : Upload) → full_blocks shape u.bytes ++ last_block shape u ≡ object_blocks shape u.bytes
full_last shape u =
    let size = shape.block in
    let k = length u.bytes / size in
    let front : full_blocks shape u.bytes ≡ take k (object_blocks shape u.bytes) = sym (cut_take size k (nodes_for shape (length u.bytes)) u.bytes (full_few shape (length u.bytes))) in
    ap (λ (l : List (List ℕ)). l ++ drop k (object_blocks shape u.bytes)) front ∙ take-append-drop k (object_blocks shape u.bytes)

-- ---- nodes

nodes_below : (n m : ℕ) (nodes : List ℕ) → n ≤ m → AreNodes n nodes → AreNodes m nodes
nodes_below n m [] few are = tt
nodes_below n m (i ∷ nodes) few are = (are.0, omega (arith, few, are.1), nodes_below n m nodes few are.2)

nodes_both : (n : ℕ) (xs ys : List ℕ) → AreNodes n xs → AreNodes n ys → AreNodes n (xs ++ ys)
nodes_both n [] ys xare yare = yare
nodes_both n (x ∷ xs) ys xare yare = (xare.0, xare.1, nodes_both n xs ys xare.2 yare)

nodes_new : (n start count : ℕ) → 1 ≤ start → start + count ≤ suc n → AreNodes n (range_with_len start count)
nodes_new n start zero some few = tt
nodes_new n start (suc count) some few = (some, omega (arith, few), nodes_new n (start + 1) count (omega arith) (omega (arith, few)))

-- ---- the blocks at nodes

at_more : (nodes : List ℕ) (xs ys : List (List ℕ)) → AreNodes (length xs) nodes → blocks_at nodes (xs ++ ys) ≡ blocks_at nodes xs
at_more [] xs ys are = refl
at_more (i ∷ nodes) xs ys are =
    let head : slice_index_or (xs ++ ys) (i - 1) [] ≡ slice_index_or xs (i - 1) [] = get_or_append_left xs ys [] (i - 1) (omega (arith, are.0, are.1)) in
    let tail = at_more nodes xs ys are.2 in
    λ j. head j ∷ tail j

at_new : (start : ℕ) (xs ys : List (List ℕ)) → start ≡ suc (length xs) → blocks_at (range_with_len start (length ys)) (xs ++ ys) ≡ ys
at_new start xs [] is = refl
at_new start xs (y ∷ ys) is =
    let head : slice_index_or (xs ++ y ∷ ys) (start - 1) [] ≡ y = get_or_at xs y ys [] (start - 1) (omega (arith, is)) in
    let tail : blocks_at (range_with_len (start + 1) (length ys)) (xs ++ y ∷ ys) ≡ ys =
    ap (blocks_at (range_with_len (start + 1) (length ys))) (sym (append_assoc xs (y ∷ []) ys))
    ∙ at_new (start + 1) (xs ++ y ∷ []) ys (omega (arith, is, length-append xs (y ∷ []))) in
    λ j. head j ∷ tail j

-- more blocks are woven, and their nodes join an upload's
at_grown : (nodes : List ℕ) (xs blocks old : List (List ℕ)) → AreNodes (length xs) nodes → blocks_at nodes xs ≡ old
    → blocks_at (nodes ++ range_with_len (suc (length xs)) (length blocks)) (xs ++ blocks) ≡ old ++ blocks
at_grown nodes xs blocks old are is =
    map-append (λ (i : ℕ). slice_index_or (xs ++ blocks) (i - 1) []) nodes (range_with_len (suc (length xs)) (length blocks))
    ∙ ap (λ (l : List (List ℕ)). l ++ blocks_at (range_with_len (suc (length xs)) (length blocks)) (xs ++ blocks)) (at_more nodes xs blocks are ∙ is)
    ∙ ap (λ (l : List (List ℕ)). old ++ l) (at_new (suc (length xs)) xs blocks refl)

-- ---- runs

pub choose_list : (P : List Extent → Type 0) (b : Bool) (x y : List Extent) → (b ≡ true → P x) → (b ≡ false → P y) → P (if b then x else y)
choose_list P true x y p q = p refl
choose_list P false x y p q = q refl

at_onto : (i : ℕ) (runs : List Extent) (xs : List (List ℕ)) → 1 ≤ i → i ≤ length xs → blocks_in (onto_run i runs) xs ≡ slice_index_or xs (i - 1) [] ∷ blocks_in runs xs
at_onto i [] xs some few = ap (λ (l : List (List ℕ)). take 1 l ++ []) (drop_more xs (i - 1) [] (omega (arith, some, few)))
at_onto i (e ∷ runs) xs some few =
    choose_list (λ r. blocks_in r xs ≡ slice_index_or xs (i - 1) [] ∷ blocks_in (e ∷ runs) xs) (suc i == e.first) (record { first = i; count = suc e.count } ∷ runs) (record { first = i; count = 1 } ∷ e ∷ runs)
    (λ yes.
    ap (λ (l : List (List ℕ)). take (suc e.count) l ++ blocks_in runs xs) (drop_more xs (i - 1) [] (omega (arith, some, few)))
    ∙ ap (λ (k : ℕ). slice_index_or xs (i - 1) [] ∷ (take e.count (drop k xs) ++ blocks_in runs xs)) (let h : i - 1 + 1 ≡ e.first - 1 = omega (arith, eqb-true (suc i) e.first yes, some) in h))
    (λ no. ap (λ (l : List (List ℕ)). take 1 l ++ blocks_in (e ∷ runs) xs) (drop_more xs (i - 1) [] (omega (arith, some, few))))

at_runs : (nodes : List ℕ) (xs : List (List ℕ)) → AreNodes (length xs) nodes → blocks_in (runs_of nodes) xs ≡ blocks_at nodes xs
at_runs [] xs are = refl
at_runs (i ∷ nodes) xs are = at_onto i (runs_of nodes) xs are.0 are.1 ∙ ap (λ (l : List (List ℕ)). slice_index_or xs (i - 1) [] ∷ l) (at_runs nodes xs are.2)

-- ---- uploads

now_long : (m : Machine) → length (m.datas ++ m.woven) ≡ nodes_now m
now_long m = length-append m.datas m.woven

-- where more blocks stand behind those of X and W
hold_more : (shape : Shape) (m n : Machine) (blocks : List (List ℕ)) (u : Upload) → n.datas ++ n.woven ≡ (m.datas ++ m.woven) ++ blocks → HoldsUpload shape m u → HoldsUpload shape n u
hold_more shape m n blocks u is h = record {
  within = nodes_below (nodes_now m) (nodes_now n) u.nodes (omega (arith, ap length is, length-append (m.datas ++ m.woven) blocks, now_long m, now_long n)) h.within;
  blocks = ap (blocks_at u.nodes) is ∙ at_more u.nodes (m.datas ++ m.woven) blocks (subst (λ (k : ℕ). AreNodes k u.nodes) (sym (now_long m)) h.within) ∙ h.blocks;
}

-- an upload that has got bytes, and the blocks that they fill
hold_grown : (shape : Shape) (m n : Machine) (u : Upload) (bytes : List ℕ) → n.datas ++ n.woven ≡ (m.datas ++ m.woven) ++ filled_by shape u bytes → HoldsUpload shape m u
    → HoldsUpload shape n (record { name = u.name; bytes = u.bytes ++ bytes; nodes = u.nodes ++ nodes_of_blocks m (filled_by shape u bytes) })
hold_grown shape m n u bytes is h =
    let blocks = filled_by shape u bytes in
    let more : nodes_now n ≡ nodes_now m + length blocks = omega (arith, ap length is, length-append (m.datas ++ m.woven) blocks, now_long m, now_long n) in
    record {
      within = nodes_both (nodes_now n) u.nodes (nodes_of_blocks m blocks) (nodes_below (nodes_now m) (nodes_now n) u.nodes (omega (arith, more)) h.within)
          (nodes_new (nodes_now n) (suc (nodes_now m)) (length blocks) (omega arith) (omega (arith, more)));
      blocks = ap (blocks_at (u.nodes ++ nodes_of_blocks m blocks)) is
          ∙ ap (λ (k : ℕ). blocks_at (u.nodes ++ range_with_len (suc k) (length blocks)) ((m.datas ++ m.woven) ++ blocks)) (sym (now_long m))
          ∙ at_grown u.nodes (m.datas ++ m.woven) blocks (full_blocks shape u.bytes) (subst (λ (k : ℕ). AreNodes k u.nodes) (sym (now_long m)) h.within) h.blocks
          ∙ full_both shape u bytes;
    }

-- a new one
hold_new : (shape : Shape) (m : Machine) (name : List ℕ) → HoldsUpload shape m (record { name = name; bytes = []; nodes = [] })
hold_new shape m name = record {
  within = tt;
  blocks = let some = some_bytes shape in
      let below = div_below 0 shape.block 1 (omega (arith, some)) (omega (arith, some)) in
      ap (λ (k : ℕ). cut_blocks shape.block k []) (let e : 0 ≡ 0 / shape.block = omega (arith, below) in e);
}

-- a slot that is set, and the others
hold_set : (shape : Shape) (m n : Machine) (other : ℕ) (v : Option Upload) (blocks : List (List ℕ)) → n.slots ≡ slice_set m.slots other v → other < length m.slots
    → n.datas ++ n.woven ≡ (m.datas ++ m.woven) ++ blocks → ((w : Upload) → v ≡ Some w → HoldsUpload shape n w) → AllHold shape m → AllHold shape n
hold_set shape m n other v blocks is inside more new all slot w there =
    elim (cases_eq slot other) [
      | inl e ↦ new w (sym (get_or-set_same m.slots other v None inside) ∙ ap (λ (k : ℕ). slice_index_or (slice_set m.slots other v) k None) (sym e) ∙ ap (λ (l : List (Option Upload)). slice_index_or l slot None) (sym is) ∙ there)
      | inr ne ↦ hold_more shape m n blocks w more (all slot w (sym (get_or-set_other m.slots other slot v None ne) ∙ ap (λ (l : List (Option Upload)). slice_index_or l slot None) (sym is) ∙ there))
    ]

-- ---- each message

Keeps : Shape → Machine → Step → Type 0
Keeps shape m s = AllHold shape m → AllHold shape s.state

keeps_open : (shape : Shape) (m : Machine) (other : ℕ) (name : List ℕ) (o : Option Upload) → length m.slots ≡ slots_count → is_no_slot other ≡ false → Keeps shape m (open_in m other name o)
unfolding Keeps
keeps_open shape m other name (Some u) long is = λ all. all
keeps_open shape m other name None long is =
    choose (Keeps shape m) (not (is_name name)) (stays m BadName) _ (λ e all. all)
    (λ e. choose (Keeps shape m) (is_some (get m.objects name)) (stays m NameTaken) _ (λ f all. all)
    (λ f. choose (Keeps shape m) (list_any (has_name name) m.slots) (stays m NameOpen) _ (λ g all. all)
    (λ g. hold_set shape m (with_slot m other (Some (record { name = name; bytes = []; nodes = [] }))) other (Some (record { name = name; bytes = []; nodes = [] })) [] refl (below m other is long) (sym (append-nil (m.datas ++ m.woven)))
    (λ w h. subst (HoldsUpload shape (with_slot m other (Some (record { name = name; bytes = []; nodes = [] })))) (same_upload (record { name = name; bytes = []; nodes = [] }) w h) (hold_new shape (with_slot m other (Some (record { name = name; bytes = []; nodes = [] }))) name)))))

abbrev grown : Shape → Machine → List ℕ → Upload → Upload
grown shape m bytes u = record { name = u.name; bytes = u.bytes ++ bytes; nodes = u.nodes ++ nodes_of_blocks m (filled_by shape u bytes) }

abbrev chunked : Shape → Machine → ℕ → List ℕ → Upload → Machine
chunked shape m other bytes u = with_slot (weave m (filled_by shape u bytes)) other (Some (grown shape m bytes u))

keeps_chunk : (shape : Shape) (m : Machine) (other : ℕ) (bytes : List ℕ) (o : Option Upload) → in_slot m other ≡ o → length m.slots ≡ slots_count → is_no_slot other ≡ false → Keeps shape m (chunk_in shape m other bytes o)
unfolding Keeps
keeps_chunk shape m other bytes None there long is = λ all. all
keeps_chunk shape m other bytes (Some u) there long is =
    choose (Keeps shape m) (has_room m (length (filled_by shape u bytes))) _ (stays m (Full (nodes_now m)))
    (λ e all.
    let more : (chunked shape m other bytes u).datas ++ (chunked shape m other bytes u).woven ≡ (m.datas ++ m.woven) ++ filled_by shape u bytes = sym (append_assoc m.datas m.woven (filled_by shape u bytes)) in
    hold_set shape m (chunked shape m other bytes u) other (Some (grown shape m bytes u)) (filled_by shape u bytes) refl (below m other is long) more
    (λ w h. subst (HoldsUpload shape (chunked shape m other bytes u)) (same_upload (grown shape m bytes u) w h) (hold_grown shape m (chunked shape m other bytes u) u bytes more (all other u there))) all)
    (λ e all. all)

commit_more : (shape : Shape) (m : Machine) (other : ℕ) (u : Upload) → (commit shape m other u).datas ++ (commit shape m other u).woven ≡ (m.datas ++ m.woven) ++ last_block shape u
commit_more shape m other u = append-nil ((m.datas ++ m.woven) ++ last_block shape u)

keeps_close : (shape : Shape) (m : Machine) (other : ℕ) (o : Option Upload) → length m.slots ≡ slots_count → is_no_slot other ≡ false → Keeps shape m (close_in shape m other o)
unfolding Keeps
keeps_close shape m other None long is = λ all. all
keeps_close shape m other (Some u) long is =
    choose (Keeps shape m) (len m.objects == greatest_objects) (stays m CatalogFull) _ (λ e all. all)
    (λ e. choose (Keeps shape m) (has_room m (length (last_block shape u))) _ (stays m (Full (nodes_now m)))
    (λ f. hold_set shape m (commit shape m other u) other None (last_block shape u) refl (below m other is long) (commit_more shape m other u) (λ w h. nothing_is_none w h))
    (λ f all. all))

keeps_abort : (shape : Shape) (m : Machine) (other : ℕ) (o : Option Upload) → length m.slots ≡ slots_count → is_no_slot other ≡ false → Keeps shape m (abort_in m other o)
unfolding Keeps
keeps_abort shape m other None long is = λ all. all
keeps_abort shape m other (Some u) long is = hold_set shape m (with_slot m other None) other None [] refl (below m other is long) (sym (append-nil (m.datas ++ m.woven))) (λ w h. nothing_is_none w h)

keeps_read : (shape : Shape) (m : Machine) (o : Option Placed) → Keeps shape m (read_in m o)
unfolding Keeps
keeps_read shape m None = λ all. all
keeps_read shape m (Some placed) = λ all. all

pub uploads-hold : UploadsHold
unfolding Keeps
uploads-hold shape m (Open slot name) long = choose (Keeps shape m) (is_no_slot slot) (stays m BadSlot) (open_in m slot name (in_slot m slot)) (λ e all. all) (λ e. keeps_open shape m slot name (in_slot m slot) long e)
uploads-hold shape m (Chunk slot bytes) long = choose (Keeps shape m) (is_no_slot slot) (stays m BadSlot) (chunk_in shape m slot bytes (in_slot m slot)) (λ e all. all) (λ e. keeps_chunk shape m slot bytes (in_slot m slot) refl long e)
uploads-hold shape m (Close slot) long = choose (Keeps shape m) (is_no_slot slot) (stays m BadSlot) (close_in shape m slot (in_slot m slot)) (λ e all. all) (λ e. keeps_close shape m slot (in_slot m slot) long e)
uploads-hold shape m (Abort slot) long = choose (Keeps shape m) (is_no_slot slot) (stays m BadSlot) (abort_in m slot (in_slot m slot)) (λ e all. all) (λ e. keeps_abort shape m slot (in_slot m slot) long e)
uploads-hold shape m (Read name) long = keeps_read shape m (get m.objects name)
uploads-hold shape m (Patrol first count) long = choose (Keeps shape m) (is_range shape m first count) (stays m (Patrols first count)) (stays m BadRange) (λ e all. all) (λ e all. all)

pub none-hold : NoneHold
none-hold shape datas objects slot u there = nothing_is_none u (sym (begun_free datas objects slot) ∙ there)

-- ---- an object that is closed

-- the zeros behind its bytes
zeros_behind : Shape → Upload → List ℕ
zeros_behind shape u = replicate (nodes_for shape (length u.bytes) * shape.block - length u.bytes) 0

-- its parts of the new X are its bytes, and zeros behind them
closed_flat : (shape : Shape) (m : Machine) (slot : ℕ) (u : Upload) → HoldsUpload shape m u
    → flat_map (λ (d : List ℕ). d) (blocks_in (runs_of (closed_nodes shape m u)) (commit shape m slot u).datas) ≡ u.bytes ++ zeros_behind shape u
unfolding zeros_behind
closed_flat shape m slot u h =
    let xs = m.datas ++ m.woven in
    let blocks = last_block shape u in
    let nodes = closed_nodes shape m u in
    let datas = xs ++ blocks in
    let is : datas ≡ xs ++ blocks = refl in
    let more : length datas ≡ nodes_now m + length blocks = omega (arith, ap length is, length-append xs blocks, now_long m) in
    let within : AreNodes (length datas) nodes = nodes_both (length datas) u.nodes (nodes_of_blocks m blocks) (nodes_below (nodes_now m) (length datas) u.nodes (omega (arith, more)) h.within)
    (nodes_new (length datas) (suc (nodes_now m)) (length blocks) (omega arith) (omega (arith, more))) in
    let at : blocks_at nodes datas ≡ object_blocks shape u.bytes =
    ap (blocks_at nodes) is
    ∙ ap (λ (k : ℕ). blocks_at (u.nodes ++ range_with_len (suc k) (length blocks)) (xs ++ blocks)) (sym (now_long m))
    ∙ at_grown u.nodes xs blocks (full_blocks shape u.bytes) (subst (λ (k : ℕ). AreNodes k u.nodes) (sym (now_long m)) h.within) h.blocks
    ∙ full_last shape u in
    ap (flat_map (λ (d : List ℕ). d)) (at_runs nodes datas within ∙ at) ∙ cut-joined shape.block (nodes_for shape (length u.bytes)) u.bytes (nodes_hold shape (length u.bytes))

pub closed-held : ClosedAreHeld
unfolding zeros_behind
closed-held shape m slot u o h size digest =
    let zeros = zeros_behind shape u in
    let joined_blocks = flat_map (λ (d : List ℕ). d) (blocks_in (runs_of (closed_nodes shape m u)) (commit shape m slot u).datas) in
    let flat : joined_blocks ≡ u.bytes ++ zeros = closed_flat shape m slot u h in
    let long : length joined_blocks ≡ length u.bytes + length zeros = ap length flat ∙ length-append u.bytes zeros in
    let left : nodes_for shape (length u.bytes) * shape.block - length u.bytes ≡ length joined_blocks - length u.bytes =
    omega (arith, long, length-replicate {A = ℕ} (nodes_for shape (length u.bytes) * shape.block - length u.bytes) 0) in
    record {
      bytes = u.bytes;
      long = sym size;
      digest = sym digest;
      within = omega (arith, long);
      front = ap (take (length u.bytes)) flat ∙ take_at u.bytes zeros (length u.bytes) refl;
      zeros = ap (drop (length u.bytes)) flat ∙ drop_at u.bytes zeros (length u.bytes) refl ∙ ap (λ (k : ℕ). replicate k 0) left;
    }

pub closed-read : ClosedAreRead
closed-read shape m slot u h = (
  get_here m.objects u.name (placed_by u.bytes (closed_nodes shape m u)),
  ap (take (length u.bytes)) (closed_flat shape m slot u h) ∙ take_at u.bytes (zeros_behind shape u) (length u.bytes) refl,
)
