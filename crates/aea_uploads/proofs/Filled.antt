-- The blocks that are woven of an upload are those of the machine.
use Rattle.std.proofs.Common.{◌≡◌, ⊎_elim, ℕ, zero, suc, ◌+◌, ◌-◌, ◌*◌, ◌/◌, ◌<◌, List, [], ◌∷◌, ◌++◌, length, take, drop, replicate, get_or, All, refl, sym, ◌∙◌, ap, subst, arith, length-append, append_assoc}
use Rattle.std.specs.List.{flat_map, range_with_len}
use Rattle.std.proofs.Math.Seq.{drop-append-add}
use Rattle.std.proofs.lemmas.Bool.{cases_lt}
use Rattle.std.proofs.lemmas.Nat.{div-mul-add}
use Rattle.std.proofs.lemmas.List.{append-nil, map-append, length-map, length-take, length-replicate, take_at, drop_at, drop_all, drop-replicate, take-append-le, drop-append-le, replicate-append-replicate, get_or_at}
use Rattle.std.proofs.lemmas.List.Elements.{All-append, All-cons}
use Rattle.aea_lattice.specs.declared.shape.Shape.{Shape}
use Rattle.aea_records.specs.Format.{nodes_for}
use Rattle.aea_archive.specs.Next.{cut_blocks, object_blocks}
use Rattle.aea_machine.specs.Holding.{blocks_at, AreNodes}
use Rattle.aea_machine.specs.Machine.{Upload, full_blocks}
use Rattle.aea_uploads.specs.declared.slot.Slot.{Slot}
use Rattle.aea_uploads.specs.Gathering.{with_bytes, Closes}
use Rattle.aea_uploads.specs.Laws.{AreWide, KeepsMore, KeptAreHeld, FilledAreTheMachines, LastIsTheMachines}
use Rattle.aea_uploads.specs.Slots.{Rise, Keeps}
use Rattle.aea_uploads.proofs.Keeping.{rise-more, blocks-more}
use Rattle.aea_uploads.proofs.Parts.{joined-long, nodes-hold}

-- ---- bytes that are cut into blocks

-- joined blocks, and bytes after them
cut-blocks : (size : ℕ) (blocks : List (List ℕ)) (rest : List ℕ) → All (λ (d : List ℕ). length d ≡ size) blocks → cut_blocks size (length blocks) (flat_map (λ d. d) blocks ++ rest) ≡ blocks
cut-blocks size [] rest wide = refl
cut-blocks size (d ∷ blocks) rest wide =
    let flat = flat_map (λ (x : List ℕ). x) blocks in
    let long : length d ≡ size = wide 0 d (omega arith) in
    let joined : (d ++ flat) ++ rest ≡ d ++ (flat ++ rest) = append_assoc d flat rest in
    let head : take size (((d ++ flat) ++ rest) ++ replicate size 0) ≡ d =
    ap (λ (l : List ℕ). take size (l ++ replicate size 0)) joined
    ∙ ap (take size) (append_assoc d (flat ++ rest) (replicate size 0))
    ∙ take_at d ((flat ++ rest) ++ replicate size 0) size long in
    let tail : cut_blocks size (length blocks) (drop size ((d ++ flat) ++ rest)) ≡ blocks =
    ap (λ (l : List ℕ). cut_blocks size (length blocks) (drop size l)) joined
    ∙ ap (cut_blocks size (length blocks)) (drop_at d (flat ++ rest) size long)
    ∙ cut-blocks size blocks rest (λ k x inside. wide (suc k) x (omega (arith, inside))) in
    λ i. head i ∷ tail i

-- the zeros that are put in front of those that fill the last block
zeros_first : (size zeros : ℕ) (bytes : List ℕ) → take size ((bytes ++ replicate zeros 0) ++ replicate size 0) ≡ take size (bytes ++ replicate size 0)
zeros_first size zeros bytes =
    let turn : zeros + size ≡ size + zeros = omega arith in
    ap (take size)
    (append_assoc bytes (replicate zeros 0) (replicate size 0)
    ∙ ap (λ (l : List ℕ). bytes ++ l) (replicate-append-replicate zeros size 0 ∙ ap (λ (n : ℕ). replicate n 0) turn ∙ sym (replicate-append-replicate size zeros 0))
    ∙ sym (append_assoc bytes (replicate size 0) (replicate zeros 0)))
    ∙ take-append-le size (bytes ++ replicate size 0) (replicate zeros 0) (omega (arith, length-append bytes (replicate size 0), length-replicate {A = ℕ} size 0))

-- zeros after the bytes are as good as none
cut-zeros : (size n : ℕ) (bytes : List ℕ) (zeros : ℕ) → cut_blocks size n (bytes ++ replicate zeros 0) ≡ cut_blocks size n bytes
cut-zeros size zero bytes zeros = refl
cut-zeros size (suc n) bytes zeros =
    let head = zeros_first size zeros bytes in
    let tail : cut_blocks size n (drop size (bytes ++ replicate zeros 0)) ≡ cut_blocks size n (drop size bytes) = ⊎_elim
    (λ short.
    let place : size ≡ length bytes + (size - length bytes) = omega (arith, short) in
    ap (λ (k : ℕ). cut_blocks size n (drop k (bytes ++ replicate zeros 0))) place
    ∙ ap (cut_blocks size n) (drop-append-add bytes (replicate zeros 0) (size - length bytes) ∙ drop-replicate (size - length bytes) zeros 0)
    ∙ cut-zeros size n [] (zeros - (size - length bytes))
    ∙ ap (cut_blocks size n) (sym (drop_all size bytes (omega (arith, short)))))
    (λ full. ap (cut_blocks size n) (drop-append-le size bytes (replicate zeros 0) full) ∙ cut-zeros size n (drop size bytes) zeros)
    (cases_lt (length bytes) size) in
    λ i. head i ∷ tail i

-- ---- the blocks at nodes

blocks-wide : (shape : Shape) (datas : List (List ℕ)) (after : ℕ) (nodes : List ℕ) → AreWide shape datas → Rise after (length datas) nodes → AreWide shape (blocks_at nodes datas)
blocks-wide shape datas after [] wide rise = λ k d inside. absurd (omega (arith, inside))
blocks-wide shape datas after (i ∷ nodes) wide rise =
    All-cons (λ (d : List ℕ). length d ≡ shape.block) (get_or datas (i - 1) []) (blocks_at nodes datas)
    (wide (i - 1) [] (let a = rise.0 in let m = rise.1 in omega (arith, a, m)))
    (blocks-wide shape datas i nodes wide rise.2)

blocks-long : (datas : List (List ℕ)) (nodes : List ℕ) → length (blocks_at nodes datas) ≡ length nodes
blocks-long datas nodes = length-map nodes (λ (i : ℕ). get_or datas (i - 1) [])

-- at the nodes after those of a list are the blocks that are put there
blocks-new : (start : ℕ) (xs ys : List (List ℕ)) → start ≡ suc (length xs) → blocks_at (range_with_len start (length ys)) (xs ++ ys) ≡ ys
blocks-new start xs [] is = refl
blocks-new start xs (y ∷ ys) is =
    let head : get_or (xs ++ y ∷ ys) (start - 1) [] ≡ y = get_or_at xs y ys [] (start - 1) (omega (arith, is)) in
    let tail : blocks_at (range_with_len (start + 1) (length ys)) (xs ++ y ∷ ys) ≡ ys =
    ap (blocks_at (range_with_len (start + 1) (length ys))) (sym (append_assoc xs (y ∷ []) ys))
    ∙ blocks-new (start + 1) (xs ++ y ∷ []) ys (omega (arith, is, length-append xs (y ∷ []))) in
    λ j. head j ∷ tail j

blocks-grown : (datas filled : List (List ℕ)) (nodes : List ℕ) → Rise 0 (length datas) nodes → blocks_at (nodes ++ range_with_len (suc (length datas)) (length filled)) (datas ++ filled) ≡ blocks_at nodes datas ++ filled
blocks-grown datas filled nodes rise =
    map-append (λ (i : ℕ). get_or (datas ++ filled) (i - 1) []) nodes (range_with_len (suc (length datas)) (length filled))
    ∙ ap (λ (l : List (List ℕ)). l ++ blocks_at (range_with_len (suc (length datas)) (length filled)) (datas ++ filled)) (blocks-more datas filled 0 nodes rise)
    ∙ ap (λ (l : List (List ℕ)). blocks_at nodes datas ++ l) (blocks-new (suc (length datas)) datas filled refl)

-- ---- the blocks that an upload fills

-- its bytes are those of the blocks and the rest
pub kept-long : (shape : Shape) (datas : List (List ℕ)) (s : Slot) (u : Upload) → AreWide shape datas → Keeps shape datas s u → length u.bytes ≡ length u.nodes * shape.block + s.have
kept-long shape datas s u wide k =
    let rest : length (take s.have s.block.items) ≡ s.have = (let less = k.less in let room = k.room in omega (arith, less, room, length-take s.have s.block.items)) in
    let full : length (flat_map (λ (d : List ℕ). d) (blocks_at u.nodes datas)) ≡ length u.nodes * shape.block =
    joined-long shape.block (blocks_at u.nodes datas) (blocks-wide shape datas 0 u.nodes wide k.rise) ∙ ap (λ (n : ℕ). n * shape.block) (blocks-long datas u.nodes) in
    ap length k.are ∙ length-append (flat_map (λ (d : List ℕ). d) (blocks_at u.nodes datas)) (take s.have s.block.items)
    ∙ ap (λ (n : ℕ). n + length (take s.have s.block.items)) full ∙ ap (λ (n : ℕ). length u.nodes * shape.block + n) rest

pub kept-count : (shape : Shape) (datas : List (List ℕ)) (s : Slot) (u : Upload) → AreWide shape datas → Keeps shape datas s u → length u.bytes / shape.block ≡ length u.nodes
kept-count shape datas s u wide k = ap (λ (n : ℕ). n / shape.block) (kept-long shape datas s u wide k) ∙ div-mul-add (length u.nodes) shape.block s.have k.less

kept-full : (shape : Shape) (datas : List (List ℕ)) (s : Slot) (u : Upload) → AreWide shape datas → Keeps shape datas s u → full_blocks shape u.bytes ≡ blocks_at u.nodes datas
kept-full shape datas s u wide k =
    ap (λ (n : ℕ). cut_blocks shape.block n u.bytes) (kept-count shape datas s u wide k ∙ sym (blocks-long datas u.nodes))
    ∙ ap (cut_blocks shape.block (length (blocks_at u.nodes datas))) k.are
    ∙ cut-blocks shape.block (blocks_at u.nodes datas) (take s.have s.block.items) (blocks-wide shape datas 0 u.nodes wide k.rise)

-- what is past the blocks that the upload had filled
past-kept : (shape : Shape) (datas filled all : List (List ℕ)) (s : Slot) (u : Upload) → AreWide shape datas → Keeps shape datas s u
    → all ≡ blocks_at (u.nodes ++ range_with_len (suc (length datas)) (length filled)) (datas ++ filled) → drop (length u.bytes / shape.block) all ≡ filled
past-kept shape datas filled all s u wide k are =
    ap (drop (length u.bytes / shape.block)) (are ∙ blocks-grown datas filled u.nodes k.rise)
    ∙ drop_at (blocks_at u.nodes datas) filled (length u.bytes / shape.block) (blocks-long datas u.nodes ∙ sym (kept-count shape datas s u wide k))

pub filled-machine : FilledAreTheMachines
filled-machine shape datas filled s t u bytes wide new k more =
    sym (past-kept shape datas filled (full_blocks shape (u.bytes ++ bytes)) s u wide k
    (kept-full shape (datas ++ filled) t (with_bytes u bytes (length datas) (length filled)) (All-append (λ (d : List ℕ). length d ≡ shape.block) datas filled wide new) more))

-- ---- an upload that has all of its bytes in blocks

-- there are as many as its length takes
pub closed-count : (shape : Shape) (datas : List (List ℕ)) (u : Upload) (nodes : List ℕ) (zeros : ℕ) (t : Slot) → AreWide shape datas → zeros < shape.block → Closes datas u nodes zeros t
    → nodes_for shape (length u.bytes) ≡ length nodes
closed-count shape datas u nodes zeros t wide few c =
    let full : length (flat_map (λ (d : List ℕ). d) (blocks_at nodes datas)) ≡ length nodes * shape.block =
    joined-long shape.block (blocks_at nodes datas) (blocks-wide shape datas 0 nodes wide c.rise) ∙ ap (λ (n : ℕ). n * shape.block) (blocks-long datas nodes) in
    nodes-hold shape (length nodes) (length u.bytes) zeros few
    (sym full ∙ ap length c.blocks ∙ length-append u.bytes (replicate zeros 0) ∙ ap (λ (n : ℕ). length u.bytes + n) (length-replicate {A = ℕ} zeros 0))

closed-blocks : (shape : Shape) (datas : List (List ℕ)) (u : Upload) (nodes : List ℕ) (zeros : ℕ) (t : Slot) → AreWide shape datas → zeros < shape.block → Closes datas u nodes zeros t
    → object_blocks shape u.bytes ≡ blocks_at nodes datas
closed-blocks shape datas u nodes zeros t wide few c =
    ap (λ (n : ℕ). cut_blocks shape.block n u.bytes) (closed-count shape datas u nodes zeros t wide few c ∙ sym (blocks-long datas nodes))
    ∙ sym (cut-zeros shape.block (length (blocks_at nodes datas)) u.bytes zeros)
    ∙ ap (cut_blocks shape.block (length (blocks_at nodes datas))) (sym c.blocks ∙ sym (append-nil (flat_map (λ (d : List ℕ). d) (blocks_at nodes datas))))
    ∙ cut-blocks shape.block (blocks_at nodes datas) [] (blocks-wide shape datas 0 nodes wide c.rise)

pub last-machine : LastIsTheMachines
last-machine shape datas filled s t u zeros wide new k few c =
    sym (past-kept shape datas filled (object_blocks shape u.bytes) s u wide k
    (closed-blocks shape (datas ++ filled) u (u.nodes ++ range_with_len (suc (length datas)) (length filled)) zeros t (All-append (λ (d : List ℕ). length d ≡ shape.block) datas filled wide new) few c))

-- ---- with more blocks, and in the machine

pub keeps-more : KeepsMore
keeps-more shape datas more s u k = record {
  name = k.name;
  rise = rise-more 0 (length datas) (length (datas ++ more)) u.nodes (omega (arith, length-append datas more)) k.rise;
  parts = k.parts;
  long = k.long;
  hash = k.hash;
  less = k.less;
  room = k.room;
  are = k.are ∙ ap (λ (l : List (List ℕ)). flat_map (λ (d : List ℕ). d) l ++ take s.have s.block.items) (sym (blocks-more datas more 0 u.nodes k.rise));
}

rise-nodes : (after last : ℕ) (nodes : List ℕ) → Rise after last nodes → AreNodes last nodes
rise-nodes after last [] rise = tt
rise-nodes after last (i ∷ nodes) rise = ((let a = rise.0 in omega (arith, a)), rise.1, rise-nodes i last nodes rise.2)

pub kept-held : KeptAreHeld
kept-held shape m s u wide k = record {
  within = subst (λ (n : ℕ). AreNodes n u.nodes) (length-append m.datas m.woven) (rise-nodes 0 (length (m.datas ++ m.woven)) u.nodes k.rise);
  blocks = sym (kept-full shape (m.datas ++ m.woven) s u wide k);
}
