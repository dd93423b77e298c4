-- The lengths and the parts of cells, and what they show.
use Rattle.std.proofs.Common.{◌≡◌, ℕ, ◌+◌, ◌<◌, ◌^◌, List, ◌++◌, length, take, drop, get_or, refl, sym, ap, ◌∙◌, arith, length-append, append_assoc}
use Rattle.std.proofs.Math.Seq.{take-append_seam, drop-append_seam}
use Rattle.std.proofs.lemmas.Nat.{from_be_bytes-to_be_bytes_8}
use Rattle.std.specs.Int.{w64, from_be_bytes, to_be_bytes}
use Rattle.sha2.proofs.Facts256.{length-sha256}
use Rattle.aea_lattice.specs.declared.blocks.Class.{Class}
use Rattle.aea_lattice.specs.declared.blocks.Class.TheVariants.{Datum, Horiz, Right, Left}
use Rattle.aea_lattice.specs.declared.blocks.BlockId.{BlockId}
use Rattle.aea_lattice.specs.Blocks.{class_number, block_of}
use Rattle.aea_envelope.specs.Cells.{head_of, block_digest, cell_of}
use Rattle.aea_envelope.proofs.ListParts.{AreSame, same_three}

-- a head has 16 bytes
pub length-head_of : (b : BlockId) → length (head_of b) ≡ 16
unfolding head_of
length-head_of b = refl

-- a digest has 32 bytes
pub length-block_digest : (b : BlockId) (payload : List ℕ) → length (block_digest b payload) ≡ 32
length-block_digest b payload = length-sha256 (head_of b ++ payload)

-- a cell is 48 bytes longer than its payload
pub length-cell_of : (b : BlockId) (payload : List ℕ) → length (cell_of b payload) ≡ length payload + 48
length-cell_of b payload =
    omega (arith, length-append (head_of b ++ payload) (block_digest b payload), length-append (head_of b) payload, length-head_of b, length-block_digest b payload)

-- the first 16 bytes of a cell are the head
pub take-cell_of : (b : BlockId) (payload : List ℕ) → take 16 (cell_of b payload) ≡ head_of b
take-cell_of b payload =
    ap (λ n. take n (cell_of b payload)) (sym (length-head_of b))
    ∙ ap (take (length (head_of b))) (append_assoc (head_of b) payload (block_digest b payload))
    ∙ take-append_seam (head_of b) (payload ++ block_digest b payload)

-- the payload and the digest follow the head
pub drop-cell_of : (b : BlockId) (payload : List ℕ) → drop 16 (cell_of b payload) ≡ payload ++ block_digest b payload
drop-cell_of b payload =
    ap (λ n. drop n (cell_of b payload)) (sym (length-head_of b))
    ∙ ap (drop (length (head_of b))) (append_assoc (head_of b) payload (block_digest b payload))
    ∙ drop-append_seam (head_of b) (payload ++ block_digest b payload)

-- the payload follows the head
pub payload-cell_of : (b : BlockId) (payload : List ℕ) → take (length payload) (drop 16 (cell_of b payload)) ≡ payload
payload-cell_of b payload =
    ap (take (length payload)) (drop-cell_of b payload) ∙ take-append_seam payload (block_digest b payload)

-- the last 32 bytes are the digest
pub digest-cell_of : (b : BlockId) (payload : List ℕ) → drop (length payload + 16) (cell_of b payload) ≡ block_digest b payload
digest-cell_of b payload =
    let long : length payload + 16 ≡ length (head_of b ++ payload) =
    omega (arith, length-append (head_of b) payload, length-head_of b) in
    ap (λ n. drop n (cell_of b payload)) long ∙ drop-append_seam (head_of b ++ payload) (block_digest b payload)

-- the parts of a cell of b are those of a cell of b
pub parts_of_cell : (b : BlockId) (front payload digest p : List ℕ) → length front ≡ 16 → length digest ≡ 32
    → front ++ payload ++ digest ≡ cell_of b p → AreSame front payload digest (head_of b) p (block_digest b p)
parts_of_cell b front payload digest p h d same =
    same_three front payload digest (head_of b) p (block_digest b p)
    (h ∙ sym (length-head_of b)) (d ∙ sym (length-block_digest b p)) same

-- a block's cell is that of one payload
pub one_payload : (b : BlockId) (p q : List ℕ) → cell_of b p ≡ cell_of b q → p ≡ q
one_payload b p q same = (parts_of_cell b (head_of b) p (block_digest b p) q (length-head_of b) (length-block_digest b p) same).middle

-- a class is known by its number
one_class : (c d : Class) → class_number c ≡ class_number d → c ≡ d
one_class Datum Datum same = refl
one_class Horiz Horiz same = refl
one_class Right Right same = refl
one_class Left Left same = refl
one_class c d same = absurd (omega arith)

-- a block is known by its head
pub one_block : (a b : BlockId) → a.node < 2 ^ 32 → b.node < 2 ^ 32 → head_of a ≡ head_of b → a ≡ b
unfolding head_of
one_block a b small_a small_b same =
    let class : a.class ≡ b.class = one_class a.class b.class (ap (λ (l : List ℕ). get_or l 4 0) same) in
    let bytes : to_be_bytes w64 a.node ≡ to_be_bytes w64 b.node = ap (λ (l : List ℕ). drop 8 l) same in
    let node : a.node ≡ b.node =
    sym (from_be_bytes-to_be_bytes_8 a.node (omega arith)) ∙ ap (from_be_bytes w64) bytes
    ∙ from_be_bytes-to_be_bytes_8 b.node (omega arith) in
    ap (λ i. block_of i a.class) node ∙ ap (block_of b.node) class

-- cells of two blocks differ
pub cells_of_one_block : (a b : BlockId) (p q : List ℕ) → a.node < 2 ^ 32 → b.node < 2 ^ 32 → cell_of a p ≡ cell_of b q → a ≡ b
cells_of_one_block a b p q small_a small_b same =
    one_block a b small_a small_b
    (parts_of_cell b (head_of a) p (block_digest a p) q (length-head_of a) (length-block_digest a p) same).first
