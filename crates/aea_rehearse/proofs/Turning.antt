-- Cells whose payload has a flipped bit in its first byte.
use Rattle.std.proofs.Common.{◌≡◌, ◌≢◌, ℕ, ◌+◌, ◌-◌, ◌<◌, ◌≤◌, Bool, true, false, cond, List, [], ◌∷◌, ◌++◌, length, take, drop, get_or, refl, sym, ap, subst, ◌∙◌, arith, length-append, append_assoc}
use Rattle.std.specs.Prelude.{bit_xor, Option, Some, None, IsNone, is_some, ◌↔◌}
use Rattle.std.proofs.lemmas.Bool.{false≢true}
use Rattle.std.proofs.Math.ListN.{set}
use Rattle.std.proofs.Math.Seq.{set-append_seam, take-append_seam, drop-append_seam, get_or-append_seam}
use Rattle.std.proofs.lemmas.List.{set-append_left, get_or_append_left}
use Rattle.std.proofs.lemmas.Slice.Eq.{bytes_eq-Decides}
use Rattle.aea_lattice.specs.declared.blocks.BlockId.{BlockId}
use Rattle.aea_lattice.specs.declared.shape.Shape.{Shape}
use Rattle.aea_envelope.specs.Cells.{head_of, block_digest, cell_of}
use Rattle.aea_envelope.specs.Facts.{CellsHaveLengths}
use Rattle.aea_disk.specs.Files.{Files}
use Rattle.aea_shelf.specs.Places.{HasAtHome}
use Rattle.aea_rehearse.specs.Rehearsed.{flipped, flipped_cell, keeps_digest}

-- turning keeps the length
pub length-flipped : (xs : List ℕ) → length (flipped xs) ≡ length xs
length-flipped [] = refl
length-flipped (x ∷ xs) = refl

-- a flipped cell is as long as the cell
pub length-flipped_cell : CellsHaveLengths → (b : BlockId) (payload : List ℕ) → length (flipped_cell b payload) ≡ length payload + 48
length-flipped_cell lengths b payload =
    let head = (lengths b payload).0 in let digest = (lengths b payload).1 in
    omega (arith, head, digest, length-append (head_of b ++ flipped payload) (block_digest b payload), length-append (head_of b) (flipped payload), length-flipped payload)

-- what is done to a buffer with the cell: a bit of its byte 16 is flipped
pub turn_cell : CellsHaveLengths → (b : BlockId) (payload : List ℕ) → 1 ≤ length payload
    → set (cell_of b payload) 16 (bit_xor (get_or (cell_of b payload) 16 0) 1) ≡ flipped_cell b payload
turn_cell lengths b [] some = absurd (omega arith)
turn_cell lengths b (x ∷ xs) some =
    let head = (lengths b (x ∷ xs)).0 in
    let digest = block_digest b (x ∷ xs) in
    let within : 16 < length (head_of b ++ x ∷ xs) = omega (arith, head, length-append (head_of b) (x ∷ xs)) in
    let byte : get_or (cell_of b (x ∷ xs)) 16 0 ≡ x =
    get_or_append_left (head_of b ++ x ∷ xs) digest 0 16 within
    ∙ ap (λ (n : ℕ). get_or (head_of b ++ x ∷ xs) n 0) (sym head) ∙ get_or-append_seam (head_of b) x xs 0 in
    ap (λ (y : ℕ). set (cell_of b (x ∷ xs)) 16 (bit_xor y 1)) byte
    ∙ set-append_left (head_of b ++ x ∷ xs) digest 16 (bit_xor x 1) within
    ∙ ap (λ (n : ℕ). set (head_of b ++ x ∷ xs) n (bit_xor x 1) ++ digest) (sym head)
    ∙ ap (λ (l : List ℕ). l ++ digest) (set-append_seam (head_of b) x xs (bit_xor x 1))

-- the payload in a flipped cell
pub flipped_payload : CellsHaveLengths → (b : BlockId) (payload : List ℕ) → take (length (flipped_cell b payload) - 48) (drop 16 (flipped_cell b payload)) ≡ flipped payload
flipped_payload lengths b payload =
    let head = (lengths b payload).0 in
    let digest = block_digest b payload in
    let rest : drop 16 (flipped_cell b payload) ≡ flipped payload ++ digest =
    ap (λ (n : ℕ). drop n (flipped_cell b payload)) (sym head)
    ∙ ap (drop (length (head_of b))) (append_assoc (head_of b) (flipped payload) digest)
    ∙ drop-append_seam (head_of b) (flipped payload ++ digest) in
    let long : length (flipped_cell b payload) - 48 ≡ length (flipped payload) = omega (arith, length-flipped_cell lengths b payload, length-flipped payload) in
    ap (λ (n : ℕ). take n (drop 16 (flipped_cell b payload))) long ∙ ap (take (length (flipped payload))) rest ∙ take-append_seam (flipped payload) digest

-- the digest stays, or it does not
pub keeps-true : (b : BlockId) (payload recorded found : List ℕ) → block_digest b payload ≡ recorded → found ≡ flipped payload → block_digest b found ≡ recorded → keeps_digest b payload ≡ true
keeps-true b payload recorded found digest is same =
    (bytes_eq-Decides (block_digest b (flipped payload)) (block_digest b payload)).1 (ap (block_digest b) (sym is) ∙ same ∙ sym digest)

not_true : (x : Bool) → (x ≡ true → ⊥) → x ≡ false
not_true true denied = absurd (denied refl)
not_true false denied = refl

pub keeps-false : (b : BlockId) (payload recorded found : List ℕ) → block_digest b payload ≡ recorded → found ≡ flipped payload → block_digest b found ≢ recorded → keeps_digest b payload ≡ false
keeps-false b payload recorded found digest is differ =
    not_true (keeps_digest b payload)
    (λ yes. differ (ap (block_digest b) is ∙ (bytes_eq-Decides (block_digest b (flipped payload)) (block_digest b payload)).0 yes ∙ digest))

-- What is at a home where a flipped cell was written, and where none was.
pub struck_home : (shape : Shape) (b : BlockId) (payload : List ℕ) (c : Files) → keeps_digest b payload ≡ false → HasAtHome shape b (flipped_cell b payload) c
    → HasAtHome shape b (cond (keeps_digest b payload) (cell_of b payload) (flipped_cell b payload)) c
struck_home shape b payload c keeps here = subst (λ (x : Bool). HasAtHome shape b (cond x (cell_of b payload) (flipped_cell b payload)) c) (sym keeps) here

pub spared_home : (shape : Shape) (b : BlockId) (payload : List ℕ) (c : Files) → keeps_digest b payload ≡ true → HasAtHome shape b (cell_of b payload) c
    → HasAtHome shape b (cond (keeps_digest b payload) (cell_of b payload) (flipped_cell b payload)) c
spared_home shape b payload c keeps here = subst (λ (x : Bool). HasAtHome shape b (cond x (cell_of b payload) (flipped_cell b payload)) c) (sym keeps) here

-- what a judgement says by whether it names a digest
pub judged_differ : (o : Option (List ℕ)) (found want : List ℕ) → IsNone o ↔ (found ≡ want) → is_some o ≡ true → found ≢ want
judged_differ None found want judges some same = absurd (false≢true some)
judged_differ (Some d) found want judges some same = absurd (false≢true (sym (judges.1 same)))

pub judged_same : (o : Option (List ℕ)) (found want : List ℕ) → IsNone o ↔ (found ≡ want) → is_some o ≡ false → found ≡ want
judged_same None found want judges none = judges.0 refl
judged_same (Some d) found want judges none = absurd (false≢true (sym none))
