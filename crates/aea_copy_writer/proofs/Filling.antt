-- The ledger, made of a copy: the text so far, and one piece more.
use Rattle.std.proofs.Common.{◌≡◌, ℕ, ◌+◌, ◌-◌, ◌<◌, ◌≤◌, ◌^◌, Bool, true, false, List, [], ◌∷◌, ◌++◌, length, drop, get_or, refl, sym, ap, ◌∙◌, subst, arith}
use Rattle.std.specs.Int.{w32, to_be_bytes}
use Rattle.std.proofs.lemmas.List.{append_assoc, append-nil, length-append, length-drop, drop_at, drop-append-le}
use Rattle.aea_disk.specs.Ends.{greatest_place}
use Rattle.aea_disk.specs.Files.{Files, ChangesFile, Holds, overwritten}
use Rattle.aea_copies.specs.Format.{link_after, first_link, last_link, copy_entry, copy_mark, chain, copied, text_of}
use Rattle.aea_copies.specs.Grammar.{is_first, ArePieces}
use Rattle.aea_copies.specs.Kept.{IsGood}
use Rattle.aea_copies.proofs.Chains.{copied_push}
use Rattle.aea_copies.proofs.Entries.{length-entry}
use Rattle.aea_copy_writer.specs.declared.ledger.At.{At}
use Rattle.aea_copy_writer.specs.Anew.{IsClosed, whole_text}
use Rattle.aea_copy_writer.specs.Pieces.{IsTextAt, HasMoved, IsFilled}
use Rattle.aea_copy_writer.proofs.Advancing.{text_push}
use Rattle.aea_copy_writer.proofs.Made.{after_zero}
use Rattle.aea_copy_writer.proofs.Writing.{overwritten_none, overwritten_then, change_then}

chain_more : (link : List ℕ) (done more : List (List ℕ)) → chain link (done ++ more) ≡ chain link done ++ chain (last_link link done) more
chain_more link [] more = refl
chain_more link (p ∷ done) more = ap (λ (l : List ℕ). copy_entry link p ++ l) (chain_more (link_after link p) done more) ∙ sym (append_assoc (copy_entry link p) (chain (link_after link p) done) (chain (last_link (link_after link p) done) more))

copied_more : (done more : List (List ℕ)) → copied (done ++ more) ≡ copied done ++ chain (last_link first_link done) more
copied_more done more =
    ap (λ (l : List ℕ). 1 ∷ (copy_mark ++ l)) (chain_more first_link done more) ∙ ap (λ (l : List ℕ). 1 ∷ l) (sym (append_assoc copy_mark (chain first_link done) (chain (last_link first_link done) more)))

-- how long a piece among others is
pub record IsSized (p : List ℕ) : Type 0 where
  pub short : length p < 2 ^ 32
  pub long : 6 ≤ length p

pub sized_there : (first : Bool) (done : List (List ℕ)) (p : List ℕ) (ps : List (List ℕ)) → ArePieces first (done ++ p ∷ ps) → IsSized p
sized_there true [] p ps are = record { short = are.0.short; long = omega (arith, are.0.kind.long) }
sized_there false [] p ps are = record { short = are.0.short; long = are.0.kind.long }
sized_there first (d ∷ done) p ps are = sized_there false done p ps are.1

-- the entry of the next piece is at the gate
pub next_there : (bytes : List ℕ) (done : List (List ℕ)) (p : List ℕ) (ps : List (List ℕ)) (at : At) (good : IsGood (done ++ p ∷ ps) bytes) → at.place ≡ length (copied done)
    → IsTextAt bytes at p (link_after (last_link first_link done) p ++ (chain (link_after (last_link first_link done) p) ps ++ good.gate ∷ good.after))
next_there bytes done p ps at good is =
    let size = sized_there true done p ps good.valid in
    let link = last_link first_link done in
    let others = chain (link_after link p) ps in
    let rest : List ℕ = good.gate ∷ good.after in
    let number = to_be_bytes w32 (length p) in
    let all : bytes ≡ copied done ++ ((copy_entry link p ++ others) ++ rest) = good.spelling ∙ ap (λ (l : List ℕ). l ++ rest) (copied_more done (p ∷ ps)) ∙ append_assoc (copied done) (copy_entry link p ++ others) rest in
    record {
      gate = 1;
      some = omega (arith, size.long);
      small = size.short;
      spelling = ap (drop at.place) all ∙ drop_at (copied done) ((copy_entry link p ++ others) ++ rest) at.place (sym is)
          ∙ ap (λ (l : List ℕ). 1 ∷ l) (regroup number p (link_after link p) others rest);
    }
  where
    regroup : (a b e f r : List ℕ) → ((a ++ (b ++ e)) ++ f) ++ r ≡ a ++ (b ++ (e ++ (f ++ r)))
    regroup a b e f r = simp append_assoc

-- and it ends in time
pub next_near : (bytes : List ℕ) (done : List (List ℕ)) (p : List ℕ) (ps : List (List ℕ)) (place : ℕ) → IsGood (done ++ p ∷ ps) bytes → place ≡ length (copied done) → place + (37 + length p) ≤ greatest_place
next_near bytes done p ps place good is =
    let link = last_link first_link done in
    omega (arith, good.within, is, ap length (copied_more done (p ∷ ps)), length-append (copied done) (copy_entry link p ++ chain (link_after link p) ps), length-append (copy_entry link p) (chain (link_after link p) ps), length-entry link p)

pub fill_start : (source : ℕ) (pieces : List (List ℕ)) (at : At) (c : Files) → at.place ≡ 9 → at.text ≡ 0 → c 0 ≡ 0 ∷ [] → IsFilled source pieces at c c
fill_start source pieces at c place text begun = record {
  done = [];
  more = pieces;
  split = refl;
  place = place;
  text = text;
  step = record { here = sym (overwritten_none (c 0) 1 (omega (arith, ap length begun))); others = λ f other. refl };
}

-- where the text ends, as it is written
text_end : (done : List (List ℕ)) (n : ℕ) → n ≡ length (text_of done) → n + (1 - n) ≡ 1 + length (drop 1 (text_of done))
text_end done n is = omega (arith, is, length-drop 1 (text_of done))

text_next : (xs p : List ℕ) (n : ℕ) → n ≡ length xs → drop 1 xs ++ drop (1 - n) p ≡ drop 1 (xs ++ p)
text_next [] p n is = ap (λ (k : ℕ). drop (1 - k) p) is
text_next (x ∷ xs) p n is = let zero : 1 - n ≡ 0 = omega (arith, is) in ap (λ (k : ℕ). xs ++ drop k p) zero

pub fill_more : (source : ℕ) (pieces : List (List ℕ)) (at next : At) (c d e : Files) (on : IsFilled source pieces at c d) (p : List ℕ) (ps : List (List ℕ)) → on.more ≡ p ∷ ps → HasMoved at p next d e → IsFilled source pieces next c e
fill_more source pieces at next c d e on p ps is moved = record {
  done = on.done ++ p ∷ [];
  more = ps;
  split = on.split ∙ ap (λ (l : List (List ℕ)). on.done ++ l) is ∙ sym (append_assoc on.done (p ∷ []) ps);
  place = omega (arith, moved.place, on.place, ap length (copied_push on.done p), length-append (copied on.done) (copy_entry (last_link first_link on.done) p), length-entry (last_link first_link on.done) p);
  text = omega (arith, moved.text, on.text, ap length (text_push on.done p), length-append (text_of on.done) p);
  step = subst (λ (l : List ℕ). ChangesFile 0 (Holds 1 l) c e) (text_next (text_of on.done) p at.text on.text ∙ ap (drop 1) (sym (text_push on.done p)))
      (change_then 0 1 (at.text + (1 - at.text)) (drop 1 (text_of on.done)) (drop (1 - at.text) p) c d e (text_end on.done at.text on.text) on.step moved.step);
}

-- what is left to be copied
pub record OnePiece (more : List (List ℕ)) : Type 0 where
  pub piece : List ℕ
  pub others : List (List ℕ)
  pub is : more ≡ piece ∷ others

pub piece_left : (done more : List (List ℕ)) (n : ℕ) → n ≡ length (text_of done) → n < length (text_of (done ++ more)) → OnePiece more
piece_left done [] n is less = absurd (omega (arith, is, less, ap (λ (l : List (List ℕ)). length (text_of l)) (append-nil done)))
piece_left done (p ∷ ps) n is less = record { piece = p; others = ps; is = refl }

text_more : (done more : List (List ℕ)) → length (text_of (done ++ more)) ≡ length (text_of done) + length (text_of more)
text_more [] more = omega arith
text_more (p ∷ done) more = omega (arith, length-append p (text_of (done ++ more)), text_more done more, length-append p (text_of done))

pub text_fits : (done : List (List ℕ)) (p : List ℕ) (ps : List (List ℕ)) → length (text_of done) + length p ≤ length (text_of (done ++ p ∷ ps))
text_fits done p ps = omega (arith, text_more done (p ∷ ps), length-append p (text_of ps))

pub all_done : (done more : List (List ℕ)) (n : ℕ) → ArePieces true (done ++ more) → n ≡ length (text_of done) → length (text_of (done ++ more)) ≤ n → done ++ more ≡ done
all_done done [] n are is end = append-nil done
all_done done (p ∷ ps) n are is end = let size = sized_there true done p ps are in absurd (omega (arith, is, end, text_fits done p ps, size.long))

-- the text of a copy is not empty, and begins with an open gate
pub text_some : (ps : List (List ℕ)) → ArePieces true ps → is_first ps ≡ false → 6 ≤ length (text_of ps)
text_some [] are some = absurd (cc)
text_some (p ∷ ps) are some = let size = sized_there true [] p ps are in omega (arith, size.long, length-append p (text_of ps))

first_open : (p q : List ℕ) → 17 ≡ length p → get_or p 0 0 ≡ 1 → p ++ q ≡ 1 ∷ drop 1 (p ++ q)
first_open [] q long gate = absurd (omega (arith, long))
first_open (x ∷ p) q long gate = ap (λ (n : ℕ). n ∷ (p ++ q)) gate

pub text_open : (ps : List (List ℕ)) → ArePieces true ps → is_first ps ≡ false → whole_text ps ≡ 1 ∷ drop 1 (whole_text ps)
text_open [] are some = absurd (cc)
text_open (p ∷ ps) are some = append_assoc p (text_of ps) (0 ∷ []) ∙ first_open p (text_of ps ++ 0 ∷ []) (sym are.0.kind.long) are.0.kind.gate ∙ ap (λ (l : List ℕ). 1 ∷ drop 1 l) (sym (append_assoc p (text_of ps) (0 ∷ [])))

-- all of it, and a closed gate
pub fill_end : (pieces : List (List ℕ)) (until : ℕ) (x y z : List ℕ) → 1 ≤ length (text_of pieces) → until ≡ length (text_of pieces) → x ≡ 0 ∷ [] → Holds 1 (drop 1 (text_of pieces)) x y → Holds until (0 ∷ []) y z → IsClosed (whole_text pieces) z
fill_end pieces until x y z some is begun text gate =
    let t = text_of pieces in
    gate ∙ ap (λ (l : List ℕ). overwritten l until (0 ∷ [])) text ∙ overwritten_then x (drop 1 t) (0 ∷ []) 1 until (omega (arith, is, some, length-drop 1 t))
    ∙ ap (λ (l : List ℕ). overwritten l 1 (drop 1 t ++ 0 ∷ [])) begun ∙ after_zero (drop 1 t ++ 0 ∷ []) ∙ ap (λ (l : List ℕ). 0 ∷ l) (sym (drop-append-le 1 t (0 ∷ []) some))
