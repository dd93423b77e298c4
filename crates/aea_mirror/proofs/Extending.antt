-- A copy that is extended: it stays good while its last gate is closed, and is good with more pieces once that is open.
use Rattle.std.proofs.Common.{◌≡◌, ◌≢◌, ◌⊎◌, ⊎_elim, inl, inr, ℕ, ◌+◌, ◌<◌, ◌≤◌, true, false, List, [], ◌∷◌, ◌++◌, length, take, drop, get_or, refl, sym, ap, ◌∙◌, arith}
use Rattle.std.proofs.lemmas.Bool.{cases_eq}
use Rattle.std.proofs.lemmas.List.{length-append, length-take, append_assoc, take-append-drop, take-take, drop_more, take_at, get_or-drop, get_or-take}
use Rattle.aea_disk.specs.Ends.{greatest_place}
use Rattle.aea_disk.specs.Files.{Torn}
use Rattle.aea_disk.specs.Steps.{torn_front, torn_back}
use Rattle.aea_records.specs.Format.{open_gate}
use Rattle.aea_copies.specs.Format.{first_link, link_after, last_link, copy_entry, copy_mark, chain, copied, text_of}
use Rattle.aea_copies.specs.Grammar.{is_first, ArePieces}
use Rattle.aea_copies.specs.Kept.{IsGood}

-- ---- pieces after pieces

pub chain_join : (link : List ℕ) (ps qs : List (List ℕ)) → chain link (ps ++ qs) ≡ chain link ps ++ chain (last_link link ps) qs
chain_join link [] qs = refl
chain_join link (p ∷ ps) qs =
    ap (λ (l : List ℕ). copy_entry link p ++ l) (chain_join (link_after link p) ps qs)
    ∙ sym (append_assoc (copy_entry link p) (chain (link_after link p) ps) (chain (last_link (link_after link p) ps) qs))

pub link_join : (link : List ℕ) (ps qs : List (List ℕ)) → last_link link (ps ++ qs) ≡ last_link (last_link link ps) qs
link_join link [] qs = refl
link_join link (p ∷ ps) qs = link_join (link_after link p) ps qs

pub copied_join : (ps qs : List (List ℕ)) → copied (ps ++ qs) ≡ copied ps ++ chain (last_link first_link ps) qs
copied_join ps qs =
    ap (λ (l : List ℕ). open_gate ∷ (copy_mark ++ l)) (chain_join first_link ps qs)
    ∙ ap (λ (l : List ℕ). open_gate ∷ l) (sym (append_assoc copy_mark (chain first_link ps) (chain (last_link first_link ps) qs)))

pub text_join : (ps qs : List (List ℕ)) → text_of (ps ++ qs) ≡ text_of ps ++ text_of qs
text_join [] qs = refl
text_join (p ∷ ps) qs = ap (λ (l : List ℕ). p ++ l) (text_join ps qs) ∙ sym (append_assoc p (text_of ps) (text_of qs))

are_after : (ps qs : List (List ℕ)) → ArePieces false ps → ArePieces false qs → ArePieces false (ps ++ qs)
are_after [] qs are others = others
are_after (p ∷ ps) qs are others = (are.0, are_after ps qs are.1 others)

pub are_join : (ps qs : List (List ℕ)) → is_first ps ≡ false → ArePieces true ps → ArePieces false qs → ArePieces true (ps ++ qs)
are_join [] qs some are others = absurd (cc)
are_join (p ∷ ps) qs some are others = (are.0, are_after ps qs are.1 others)

some_join : (ps qs : List (List ℕ)) → is_first ps ≡ false → is_first (ps ++ qs) ≡ false
some_join [] qs some = absurd (cc)
some_join (p ∷ ps) qs some = refl

-- ---- a copy whose last gate is closed

-- the bytes of a good copy before the gate that ends it
pub front_of : (pieces : List (List ℕ)) (old : List ℕ) → IsGood pieces old → take (length (copied pieces)) old ≡ copied pieces
front_of pieces old good = ap (take (length (copied pieces))) good.spelling ∙ take_at (copied pieces) (good.gate ∷ good.after) (length (copied pieces)) refl

pub good_closed : (pieces : List (List ℕ)) (old new : List ℕ) → IsGood pieces old → take (length (copied pieces)) new ≡ take (length (copied pieces)) old → length (copied pieces) < length new
    → get_or new (length (copied pieces)) 0 ≢ open_gate → IsGood pieces new
good_closed pieces old new good same long shut =
    let end = length (copied pieces) in
    record {
      some = good.some;
      valid = good.valid;
      gate = get_or new end 0;
      closed = shut;
      after = drop (end + 1) new;
      spelling =
          sym (take-append-drop end new) ∙ ap (λ (l : List ℕ). l ++ drop end new) (same ∙ front_of pieces old good)
          ∙ ap (λ (l : List ℕ). copied pieces ++ l) (drop_more new end 0 long);
      place = refl;
      within = good.within;
    }

-- the gate that ends a good copy
pub gate_of : (pieces : List (List ℕ)) (old : List ℕ) → IsGood pieces old → (length (copied pieces) < length old) × (get_or old (length (copied pieces)) 0 ≢ open_gate)
gate_of pieces old good =
    let end = length (copied pieces) in
    let here : drop end old ≡ good.gate ∷ good.after = ap (drop end) good.spelling ∙ drop_here (copied pieces) (good.gate ∷ good.after) in (
      omega (arith, ap length good.spelling, length-append (copied pieces) (good.gate ∷ good.after)),
      λ is. good.closed (sym (ap (λ (l : List ℕ). get_or l 0 0) here) ∙ get_or-drop end old 0 0 ∙ ap (λ (n : ℕ). get_or old n 0) (let e : end + 0 ≡ end = omega arith in e) ∙ is),
    )
  where
    drop_here : (xs ys : List ℕ) → drop (length xs) (xs ++ ys) ≡ ys
    drop_here [] ys = refl
    drop_here (x ∷ xs) ys = drop_here xs ys

-- what keeps the front of a copy up to and with the gate that ends it keeps it good
pub good_front : (pieces : List (List ℕ)) (old new : List ℕ) → IsGood pieces old → take (length (copied pieces) + 1) new ≡ take (length (copied pieces) + 1) old → IsGood pieces new
good_front pieces old new good same =
    let end = length (copied pieces) in
    let gate = gate_of pieces old good in
    let size : length (take (end + 1) new) ≡ length (take (end + 1) old) = ap length same in
    good_closed pieces old new good
    (sym (take-take end (end + 1) new (omega arith)) ∙ ap (take end) same ∙ take-take end (end + 1) old (omega arith))
    (omega (arith, size, length-take (end + 1) new, length-take (end + 1) old, gate.0))
    (λ is. gate.1 (sym (get_or-take (end + 1) old end 0 (omega arith)) ∙ ap (λ (l : List ℕ). get_or l end 0) (sym same) ∙ get_or-take (end + 1) new end 0 (omega arith) ∙ is))

-- ---- and once it is open

-- what is after the gate, where the entries of these pieces are: all of them but the gate of the first, and a closed gate
abbrev pub body_of : List ℕ → List (List ℕ) → List ℕ
body_of link pieces = drop 1 (chain link pieces ++ 0 ∷ [])

opens : (link : List ℕ) (more : List (List ℕ)) → is_first more ≡ false → open_gate ∷ body_of link more ≡ chain link more ++ 0 ∷ []
opens link [] some = absurd (cc)
opens link (m ∷ more) some = refl

pub good_more : (pieces more : List (List ℕ)) (old new : List ℕ) → IsGood pieces old → is_first more ≡ false → ArePieces false more → length (copied (pieces ++ more)) ≤ greatest_place
    → take (length (copied pieces)) new ≡ take (length (copied pieces)) old → length (copied pieces) < length new → get_or new (length (copied pieces)) 0 ≡ open_gate
    → take (length (body_of (last_link first_link pieces) more)) (drop (length (copied pieces) + 1) new) ≡ body_of (last_link first_link pieces) more → IsGood (pieces ++ more) new
good_more pieces more old new good some valid within same long opened body =
    let end = length (copied pieces) in
    let link = last_link first_link pieces in
    let A = body_of link more in
    let rest = drop (length A) (drop (end + 1) new) in
    let after : drop (end + 1) new ≡ A ++ rest = sym (take-append-drop (length A) (drop (end + 1) new)) ∙ ap (λ (l : List ℕ). l ++ rest) body in
    let tail : drop end new ≡ chain link more ++ (0 ∷ rest) =
    drop_more new end 0 long ∙ ap (λ (n : ℕ). n ∷ drop (end + 1) new) opened ∙ ap (λ (l : List ℕ). open_gate ∷ l) after
    ∙ ap (λ (l : List ℕ). l ++ rest) (opens link more some) ∙ append_assoc (chain link more) (0 ∷ []) rest in
    record {
      some = some_join pieces more good.some;
      valid = are_join pieces more good.some good.valid valid;
      gate = 0;
      closed = λ e. omega (arith, e);
      after = rest;
      spelling =
          sym (take-append-drop end new) ∙ ap (λ (l : List ℕ). l ++ drop end new) (same ∙ front_of pieces old good)
          ∙ ap (λ (l : List ℕ). copied pieces ++ l) tail ∙ sym (append_assoc (copied pieces) (chain link more) (0 ∷ rest))
          ∙ ap (λ (l : List ℕ). l ++ (0 ∷ rest)) (sym (copied_join pieces more));
      place = refl;
      within = within;
    }

-- while the gate is being opened, the copy has the old pieces or the new ones
pub good_torn : (pieces more : List (List ℕ)) (old new : List ℕ) → IsGood pieces old → is_first more ≡ false → ArePieces false more → length (copied (pieces ++ more)) ≤ greatest_place
    → take (length (body_of (last_link first_link pieces) more)) (drop (length (copied pieces) + 1) old) ≡ body_of (last_link first_link pieces) more
    → Torn (length (copied pieces)) 1 old new → IsGood pieces new ⊎ IsGood (pieces ++ more) new
good_torn pieces more old new good some valid within body torn =
    let end = length (copied pieces) in
    let gate = gate_of pieces old good in
    let front : take end new ≡ take end old = torn_front end 1 old new end (omega arith) (omega (arith, gate.0)) torn in
    let long : end < length new = omega (arith, gate.0, torn.no_shorter) in
    let back : drop (end + 1) new ≡ drop (end + 1) old = torn_back end 1 old new (end + 1) (omega arith) torn in
    ⊎_elim
    (λ (opened : get_or new end 0 ≡ open_gate).
    inr (good_more pieces more old new good some valid within front long opened (ap (take (length (body_of (last_link first_link pieces) more))) back ∙ body)))
    (λ (shut : get_or new end 0 ≢ open_gate). inl (good_closed pieces old new good front long shut))
    (cases_eq (get_or new end 0) open_gate)
