-- Parts of a copy that are put into the ledger.
use Rattle.std.proofs.Common.{◌≡◌, ℕ, ◌+◌, ◌-◌, ◌≤◌, List, ◌∷◌, ◌++◌, length, take, drop, refl, sym, ap, ◌∙◌, subst, arith}
use Rattle.std.proofs.lemmas.List.{take_at, take_all, drop_at, drop-drop, length-append, length-drop, drop-append-le}
use Rattle.std.specs.Int.{w32, to_be_bytes, from_be_bytes}
use Rattle.std.proofs.lemmas.Nat.{from_be_bytes-to_be_bytes_4}
use Rattle.aea_disk.specs.Files.{Files, ChangesFile, Holds}
use Rattle.aea_copy_writer.specs.declared.ledger.At.{At}
use Rattle.aea_copy_writer.specs.Pieces.{IsTextAt, HasMoved}
use Rattle.aea_copy_writer.specs.Parts.{part_of, IsThere}
use Rattle.aea_copy_writer.proofs.Writing.{overwritten_none, part_both, change_then}

pub move_none : (source to : ℕ) (c : Files) (from : ℕ) → to ≤ length (c 0) → ChangesFile 0 (Holds to (part_of (c source) from 0)) c c
move_none source to c from within = record { here = sym (overwritten_none (c 0) to within); others = λ f other. refl }

pub move_next : (source to from a n : ℕ) (c d e : Files) → 1 ≤ source → IsThere (c source) from a → ChangesFile 0 (Holds to (part_of (c source) from a)) c d → ChangesFile 0 (Holds (to + a) (part_of (d source) (from + a) n)) d e
    → ChangesFile 0 (Holds to (part_of (c source) from (a + n))) c e
move_next source to from a n c d e some there one two =
    let same : d source ≡ c source = one.others source (λ is. omega (arith, is, some)) in
    let next : ChangesFile 0 (Holds (to + a) (part_of (c source) (from + a) n)) d e = subst (λ (l : List ℕ). ChangesFile 0 (Holds (to + a) (part_of l (from + a) n)) d e) same two in
    subst (λ (l : List ℕ). ChangesFile 0 (Holds to l) c e) (sym (part_both (c source) from a n (from + a) refl))
    (change_then 0 to (to + a) (part_of (c source) from a) (part_of (c source) (from + a) n) c d e (omega (arith, there.all)) one next)

-- what is at a gate of a copy: the length of a piece, and its text
pub number_there : (bytes buf piece rest : List ℕ) (at : At) → IsTextAt bytes at piece rest → buf ≡ part_of bytes at.place 5 → from_be_bytes w32 (take 4 (drop 1 buf)) ≡ length piece
number_there bytes buf piece rest at is read =
    let number = to_be_bytes w32 (length piece) in
    let five : buf ≡ is.gate ∷ number = read ∙ ap (take 5) is.spelling ∙ ap (λ (l : List ℕ). is.gate ∷ l) (take_at number (piece ++ rest) 4 refl) in
    ap (λ (l : List ℕ). from_be_bytes w32 (take 4 (drop 1 l))) five ∙ ap (from_be_bytes w32) (take_all 4 number (omega arith)) ∙ from_be_bytes-to_be_bytes_4 (length piece) is.small

pub entry_long : (bytes piece rest : List ℕ) (at : At) → IsTextAt bytes at piece rest → at.place + 5 + length piece ≤ length bytes
entry_long bytes piece rest at is =
    let number = to_be_bytes w32 (length piece) in
    let four : length number ≡ 4 = refl in
    omega (arith, ap length is.spelling, four, length-drop at.place bytes, length-append number (piece ++ rest), length-append piece rest)

pub text_there : (bytes piece rest : List ℕ) (at : At) (skip : ℕ) → skip ≤ length piece → IsTextAt bytes at piece rest → part_of bytes (at.place + 5 + skip) (length piece - skip) ≡ drop skip piece
text_there bytes piece rest at skip few is =
    let number = to_be_bytes w32 (length piece) in
    let five : drop (at.place + 5) bytes ≡ piece ++ rest =
    ap (λ (n : ℕ). drop n bytes) (omega arith) ∙ sym (drop-drop 5 at.place bytes) ∙ ap (drop 5) is.spelling ∙ drop_at number (piece ++ rest) 4 refl in
    let on : drop (at.place + 5 + skip) bytes ≡ drop skip piece ++ rest =
    ap (λ (n : ℕ). drop n bytes) (omega arith) ∙ sym (drop-drop skip (at.place + 5) bytes) ∙ ap (drop skip) five ∙ drop-append-le skip piece rest few in
    ap (take (length piece - skip)) on ∙ take_at (drop skip piece) rest (length piece - skip) (length-drop skip piece)

-- a piece was put after the text before it
pub piece_moved : (source len skip : ℕ) (piece rest : List ℕ) (at next : At) (c d e : Files) → d ≡ c → len ≡ length piece → skip ≡ 1 - at.text → IsTextAt (c source) at piece rest
    → next.place ≡ at.place + 37 + len → next.text ≡ at.text + len
    → ChangesFile 0 (Holds (at.text + skip) (part_of (d source) (at.place + 5 + skip) (len - skip))) d e → HasMoved at piece next c e
piece_moved source len skip piece rest at next c d e same size is there place text put =
    let few : skip ≤ length piece = let some = there.some in omega (arith, is, some) in
    let bytes : part_of (d source) (at.place + 5 + skip) (len - skip) ≡ drop (1 - at.text) piece =
    ap (λ (f : Files). part_of (f source) (at.place + 5 + skip) (len - skip)) same ∙ ap (λ (n : ℕ). part_of (c source) (at.place + 5 + skip) (n - skip)) size
    ∙ text_there (c source) piece rest at skip few there ∙ ap (λ (n : ℕ). drop n piece) is in
    record {
      place = omega (arith, place, size);
      text = omega (arith, text, size);
      step = subst (λ (f : Files). ChangesFile 0 (Holds (at.text + (1 - at.text)) (drop (1 - at.text) piece)) f e) same
          (subst (λ (n : ℕ). ChangesFile 0 (Holds (at.text + n) (drop (1 - at.text) piece)) d e) is
          (subst (λ (l : List ℕ). ChangesFile 0 (Holds (at.text + skip) l) d e) bytes put));
    }
