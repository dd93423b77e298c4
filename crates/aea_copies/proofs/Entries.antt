-- An entry, as it is spelled and as it is read.
use Rattle.std.proofs.Common.{◌≡◌, ℕ, ◌+◌, ◌≤◌, List, ◌∷◌, ◌++◌, length, take, drop, get_or, refl, sym, ap, ◌∙◌, arith}
use Rattle.std.specs.Int.{w32, to_be_bytes}
use Rattle.std.proofs.lemmas.List.{length-append, drop-drop, take_at, drop_at, append_assoc, drop_more}
use Rattle.sha2.proofs.Facts256.{length-sha256}
use Rattle.aea_copies.specs.Format.{link_after, copy_entry}
use Rattle.aea_copies.proofs.Ranges.{rest_both}

pub length-number : (n : ℕ) → length (to_be_bytes w32 n) ≡ 4
length-number n = refl

pub length-link : (link piece : List ℕ) → length (link_after link piece) ≡ 32
length-link link piece = length-sha256 (link ++ (to_be_bytes w32 (length piece) ++ piece))

pub length-entry : (link piece : List ℕ) → length (copy_entry link piece) ≡ 37 + length piece
length-entry link piece =
    omega (arith, length-append (to_be_bytes w32 (length piece)) (piece ++ link_after link piece), length-number (length piece), length-append piece (link_after link piece), length-link link piece)

-- what is read from a gate on, field by field, is an entry
pub entry_spelled : (rest link piece : List ℕ) (len : ℕ) → 1 ≤ length rest → get_or rest 0 0 ≡ 1 → take 4 (drop 1 rest) ≡ to_be_bytes w32 len → take len (drop 5 rest) ≡ piece → length piece ≡ len
    → take 32 (drop (5 + len) rest) ≡ link_after link piece → rest ≡ copy_entry link piece ++ drop (37 + len) rest
entry_spelled rest link piece len some gate size text long linked =
    let first : rest ≡ get_or rest 0 0 ∷ drop 1 rest = drop_more rest 0 0 (omega (arith, some)) in
    let one : rest ≡ 1 ∷ drop 1 rest = first ∙ ap (λ (n : ℕ). n ∷ drop 1 rest) gate in
    let two : drop 1 rest ≡ to_be_bytes w32 (length piece) ++ drop 5 rest =
    rest_both rest 1 4 5 (omega arith) ∙ ap (λ (l : List ℕ). l ++ drop 5 rest) (size ∙ ap (to_be_bytes w32) (sym long)) in
    let three : drop 5 rest ≡ piece ++ drop (5 + len) rest = rest_both rest 5 len (5 + len) (omega arith) ∙ ap (λ (l : List ℕ). l ++ drop (5 + len) rest) text in
    let four : drop (5 + len) rest ≡ link_after link piece ++ drop (37 + len) rest =
    rest_both rest (5 + len) 32 (37 + len) (omega arith) ∙ ap (λ (l : List ℕ). l ++ drop (37 + len) rest) linked in
    let inner : drop 5 rest ≡ (piece ++ link_after link piece) ++ drop (37 + len) rest =
    three ∙ ap (λ (l : List ℕ). piece ++ l) four ∙ sym (append_assoc piece (link_after link piece) (drop (37 + len) rest)) in
    let all : drop 1 rest ≡ (to_be_bytes w32 (length piece) ++ (piece ++ link_after link piece)) ++ drop (37 + len) rest =
    two ∙ ap (λ (l : List ℕ). to_be_bytes w32 (length piece) ++ l) inner
    ∙ sym (append_assoc (to_be_bytes w32 (length piece)) (piece ++ link_after link piece) (drop (37 + len) rest)) in
    one ∙ ap (λ (l : List ℕ). 1 ∷ l) all

-- what an entry shows where it is read
pub record Shows (rest link piece : List ℕ) : Type 0 where
  pub long : 37 + length piece ≤ length rest
  pub gate : get_or rest 0 0 ≡ 1
  pub size : take 4 (drop 1 rest) ≡ to_be_bytes w32 (length piece)
  pub text : take (length piece) (drop 5 rest) ≡ piece
  pub linked : take 32 (drop (5 + length piece) rest) ≡ link_after link piece

pub entry_shows : (rest link piece after : List ℕ) → rest ≡ copy_entry link piece ++ after → Shows rest link piece
entry_shows rest link piece after spelling =
    let number = to_be_bytes w32 (length piece) in
    let last = link_after link piece in
    let whole : rest ≡ 1 ∷ (number ++ (piece ++ (last ++ after))) =
    spelling ∙ ap (λ (l : List ℕ). 1 ∷ l) (append_assoc number (piece ++ last) after ∙ ap (λ (l : List ℕ). number ++ l) (append_assoc piece last after)) in
    let one : drop 1 rest ≡ number ++ (piece ++ (last ++ after)) = ap (drop 1) whole in
    let five : drop 5 rest ≡ piece ++ (last ++ after) =
    sym (drop-drop 4 1 rest) ∙ ap (drop 4) one ∙ drop_at number (piece ++ (last ++ after)) 4 (length-number (length piece)) in
    let more : drop (5 + length piece) rest ≡ last ++ after =
    sym (drop-drop (length piece) 5 rest) ∙ ap (drop (length piece)) five ∙ drop_at piece (last ++ after) (length piece) refl in
    record {
      long = omega (arith, ap length spelling, length-append (copy_entry link piece) after, length-entry link piece);
      gate = ap (λ (l : List ℕ). get_or l 0 0) whole;
      size = ap (take 4) one ∙ take_at number (piece ++ (last ++ after)) 4 (length-number (length piece));
      text = ap (take (length piece)) five ∙ take_at piece (last ++ after) (length piece) refl;
      linked = ap (take 32) more ∙ take_at last after 32 (length-link link piece);
    }
