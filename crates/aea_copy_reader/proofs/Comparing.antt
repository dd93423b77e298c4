-- Two copies, compared: they are the same up to a gate, and there one of them ends, or their pieces part.
use Rattle.std.proofs.Common.{◌≡◌, ⊎_elim, inl, inr, ℕ, ◌+◌, ◌-◌, ◌<◌, ◌≤◌, min, Bool, true, false, List, [], ◌∷◌, ◌++◌, length, take, drop, get_or, refl, sym, ap, ◌∙◌, subst, arith}
use Rattle.std.specs.Prelude.{Option, Some, None}
use Rattle.std.proofs.lemmas.Bool.{cases_lt}
use Rattle.std.proofs.lemmas.Grind.{flat_map-append}
use Rattle.std.proofs.lemmas.List.{length-append, length-take, append_assoc, append-nil, append_cancel_left, take_at, drop_at, take_all, take-take, take-append-le, take-append-drop, get_or-drop, get_or_append_left}
use Rattle.aea_copies.specs.Format.{first_link, last_link, copy_entry, copied, text_of}
use Rattle.aea_copies.specs.Grammar.{is_first, IsPiece, IsKind, ArePieces, IsBegun, HasMark, IsCopy}
use Rattle.aea_copies.proofs.Ranges.{rest_both}
use Rattle.aea_copies.proofs.Chains.{copied_push}
use Rattle.aea_copies.proofs.Entries.{length-entry}
use Rattle.aea_copies.proofs.Agreeing.{Follows, copied_agree, no_more, entry_agrees, piece_agrees}
use Rattle.aea_copies.proofs.Judged.{has_one_pieces, copies_are_not_bad, copy_begins}
use Rattle.aea_copy_reader.specs.Taking.{PartsAt}
use Rattle.aea_copy_reader.specs.Judging.{HasRead, Apart, IsTurn}
use Rattle.aea_copy_reader.specs.Comparing.{DifferAt, Begins, IsComparison}
use Rattle.aea_copy_reader.specs.declared.known.Standing.{Standing}
use Rattle.aea_copy_reader.specs.declared.known.Turn.{Turn}
use Rattle.aea_copy_reader.specs.declared.known.Turn.TheVariants.{Ends, BadHere, GoesOn}
use Rattle.aea_copy_reader.proofs.Parting.{take_sum, same_more, parts_of}

-- a good copy has the pieces that were read, and maybe more
pub good_goes_on : (ledger bytes : List ℕ) (pieces ps : List (List ℕ)) (s : Standing) (end : ℕ) → HasRead ledger bytes pieces s → IsCopy bytes ps end → (more : List (List ℕ)) × (ps ≡ pieces ++ more)
good_goes_on ledger bytes pieces ps s end has copy =
    ⊎_elim
    (λ (on : Follows first_link pieces ps (drop s.place bytes) (copy.gate ∷ copy.after)). (on.more, on.pieces))
    (λ (on : Follows first_link ps pieces (copy.gate ∷ copy.after) (drop s.place bytes)).
    let none : on.more ≡ [] = no_more (last_link first_link ps) on.more copy.gate copy.after (drop s.place bytes) copy.closed on.rest in
    ([], sym (append-nil pieces ∙ on.pieces ∙ ap (λ (l : List (List ℕ)). ps ++ l) none ∙ append-nil ps)))
    (copied_agree pieces ps (drop s.place bytes) (copy.gate ∷ copy.after) has.valid copy.valid (sym has.spelling ∙ copy.spelling))

-- the entry after what was read, where one more was read
pub next_entry : (ledger bytes : List ℕ) (pieces : List (List ℕ)) (piece : List ℕ) (s t : Standing) → HasRead ledger bytes pieces s → HasRead ledger bytes (pieces ++ piece ∷ []) t
    → drop s.place bytes ≡ copy_entry (last_link first_link pieces) piece ++ drop t.place bytes
next_entry ledger bytes pieces piece s t has on =
    append_cancel_left (copied pieces) (drop s.place bytes) (copy_entry (last_link first_link pieces) piece ++ drop t.place bytes)
    (sym has.spelling ∙ on.spelling ∙ ap (λ (l : List ℕ). l ++ drop t.place bytes) (copied_push pieces piece)
    ∙ append_assoc (copied pieces) (copy_entry (last_link first_link pieces) piece) (drop t.place bytes))

-- its length
pub next_place : (ledger bytes : List ℕ) (pieces : List (List ℕ)) (piece : List ℕ) (s t : Standing) → HasRead ledger bytes pieces s → HasRead ledger bytes (pieces ++ piece ∷ []) t → t.place ≡ s.place + (37 + length piece)
next_place ledger bytes pieces piece s t has on =
    omega (arith, has.place, on.place, ap length (copied_push pieces piece), length-append (copied pieces) (copy_entry (last_link first_link pieces) piece), length-entry (last_link first_link pieces) piece)

-- the piece after others is of its kind
piece_there : (ps : List (List ℕ)) (m : List ℕ) → ArePieces true (ps ++ m ∷ []) → IsPiece (is_first ps) m
piece_there [] m are = are.0
piece_there (p ∷ ps) m are = later ps are.1
  where
    later : (qs : List (List ℕ)) → ArePieces false (qs ++ m ∷ []) → IsPiece false m
    later [] are = are.0
    later (q ∷ qs) are = later qs are.1

-- another copy has the same entry where its bytes are the same
pub read_too : (ledger bytes others : List ℕ) (pieces : List (List ℕ)) (piece : List ℕ) (s t : Standing) → HasRead ledger bytes pieces s → HasRead ledger others pieces s → HasRead ledger bytes (pieces ++ piece ∷ []) t
    → take (t.place - s.place) (drop s.place bytes) ≡ take (t.place - s.place) (drop s.place others) → HasRead ledger others (pieces ++ piece ∷ []) t
read_too ledger bytes others pieces piece s t has too on same =
    let link = last_link first_link pieces in
    let place = next_place ledger bytes pieces piece s t has on in
    let long : length (copy_entry link piece) ≡ t.place - s.place = omega (arith, place, length-entry link piece) in
    let sum : s.place + (t.place - s.place) ≡ t.place = omega (arith, place) in
    let entry : take (t.place - s.place) (drop s.place others) ≡ copy_entry link piece =
    sym same ∙ ap (take (t.place - s.place)) (next_entry ledger bytes pieces piece s t has on) ∙ take_at (copy_entry link piece) (drop t.place bytes) (t.place - s.place) long in
    let rest : drop s.place others ≡ copy_entry link piece ++ drop t.place others =
    rest_both others s.place (t.place - s.place) t.place sum ∙ ap (λ (l : List ℕ). l ++ drop t.place others) entry in
    record {
      begun = too.begun;
      valid = on.valid;
      spelling =
          too.spelling ∙ ap (λ (l : List ℕ). copied pieces ++ l) rest ∙ sym (append_assoc (copied pieces) (copy_entry link piece) (drop t.place others))
          ∙ ap (λ (l : List ℕ). l ++ drop t.place others) (sym (copied_push pieces piece));
      place = on.place;
      text = on.text;
      link = on.link;
      first = on.first;
      in_ledger = on.in_ledger;
    }

-- where the entries part
pub are_apart : (ledger bytes others : List ℕ) (pieces : List (List ℕ)) (piece : List ℕ) (s t : Standing) → HasRead ledger bytes pieces s → HasRead ledger others pieces s → HasRead ledger bytes (pieces ++ piece ∷ []) t
    → (take (t.place - s.place) (drop s.place bytes) ≡ take (t.place - s.place) (drop s.place others) → ⊥) → Apart ledger bytes others pieces s
are_apart ledger bytes others pieces piece s t has too on part = record {
  one = has;
  two = too;
  apart = λ p after behind is one two.
      let link = last_link first_link pieces in
      let place = next_place ledger bytes pieces piece s t has on in
      let short = (piece_there pieces piece on.valid).short in
      let same : p ≡ piece = (entry_agrees link p piece after (drop t.place bytes) is.short short (sym one ∙ next_entry ledger bytes pieces piece s t has on)).0 in
      let long : length (copy_entry link p) ≡ t.place - s.place = omega (arith, place, length-entry link p, ap length same) in
      part (ap (take (t.place - s.place)) one ∙ take_at (copy_entry link p) after (t.place - s.place) long
      ∙ sym (take_at (copy_entry link p) behind (t.place - s.place) long) ∙ sym (ap (take (t.place - s.place)) two));
}

-- where one copy ends, its text begins that of the other
pub first_ends : (ledger bytes others : List ℕ) (pieces : List (List ℕ)) (s : Standing) (turn : Turn) → HasRead ledger bytes pieces s → HasRead ledger others pieces s → IsTurn ledger bytes pieces s turn
    → ((t : Standing) (same : Bool) → turn ≡ GoesOn t same → ⊥) → IsComparison bytes others None
first_ends ledger bytes others pieces s Ends has too copy none = λ ps qs end last one two.
    let same : ps ≡ pieces = (has_one_pieces bytes ps pieces end s.place one copy).0 in
    let more = good_goes_on ledger others pieces qs s last too two in
    inl (text_of more.0, ap text_of more.1 ∙ flat_map-append (λ p. p) pieces more.0 ∙ ap (λ (l : List (List ℕ)). text_of l ++ text_of more.0) (sym same))
first_ends ledger bytes others pieces s BadHere has too bad none = λ ps qs end last one two. absurd (copies_are_not_bad bytes ps end s.place one bad)
first_ends ledger bytes others pieces s (GoesOn t same) has too on none = absurd (none t same refl)

pub second_ends : (ledger bytes others : List ℕ) (pieces : List (List ℕ)) (s : Standing) (turn : Turn) → HasRead ledger bytes pieces s → HasRead ledger others pieces s → IsTurn ledger others pieces s turn
    → ((t : Standing) (same : Bool) → turn ≡ GoesOn t same → ⊥) → IsComparison bytes others None
second_ends ledger bytes others pieces s turn has too is none = λ ps qs end last one two.
    ⊎_elim (λ (b : Begins (text_of qs) (text_of ps)). inr b) (λ (b : Begins (text_of ps) (text_of qs)). inl b)
    (first_ends ledger others bytes pieces s turn too has is none qs ps last end two one)

-- a place at which two fronts part is within both, where neither is shorter than the range
parts_within : (a b : List ℕ) (count k : ℕ) → count ≤ length a → count ≤ length b → PartsAt k (take count a) (take count b) → (k < count) × (take k a ≡ take k b) × (get_or a k 0 ≡ get_or b k 0 → ⊥)
parts_within a b count k long other parts =
    ⊎_elim
    (λ (less : k < count).
    let same : take k a ≡ take k b = sym (take-take k count a (omega (arith, less))) ∙ parts.same ∙ take-take k count b (omega (arith, less)) in (
      less,
      same,
      λ here.
          parts.other (take-take (k + 1) count a (omega (arith, less)) ∙ same_more a b k same (omega (arith, less, long)) (omega (arith, less, other)) here ∙ sym (take-take (k + 1) count b (omega (arith, less)))),
    ))
    (λ (past : count ≤ k).
    let all : (l : List ℕ) → take k (take count l) ≡ take count l = λ l. take_all k (take count l) (omega (arith, length-take count l, past)) in
    absurd (parts.other (ap (take (k + 1)) (sym (all a) ∙ parts.same ∙ all b))))
    (cases_lt k count)

-- texts that part within a piece
differ_within : (front p q x y : List ℕ) (k : ℕ) → k < length p → k < length q → take k p ≡ take k q → (get_or p k 0 ≡ get_or q k 0 → ⊥) → DifferAt (length front + k) (front ++ (p ++ x)) (front ++ (q ++ y))
differ_within front p q x y k less other same part = record {
  first = omega (arith, less, length-append front (p ++ x), length-append p x);
  second = omega (arith, other, length-append front (q ++ y), length-append q y);
  same = start p x (omega (arith, less)) ∙ ap (λ (l : List ℕ). front ++ l) same ∙ sym (start q y (omega (arith, other)));
  other = λ here. part (sym (byte p x less) ∙ here ∙ byte q y other);
}
  where
    start : (l m : List ℕ) → k ≤ length l → take (length front + k) (front ++ (l ++ m)) ≡ front ++ take k l
    start l m long =
        take_sum (length front) k (front ++ (l ++ m)) ∙ ap (λ (r : List ℕ). r ++ take k (drop (length front) (front ++ (l ++ m)))) (take_at front (l ++ m) (length front) refl)
        ∙ ap (λ (r : List ℕ). front ++ take k r) (drop_at front (l ++ m) (length front) refl) ∙ ap (λ (r : List ℕ). front ++ r) (take-append-le k l m long)

    byte : (l m : List ℕ) → k < length l → get_or (front ++ (l ++ m)) (length front + k) 0 ≡ get_or l k 0
    byte l m long =
        sym (get_or-drop (length front) (front ++ (l ++ m)) k 0) ∙ ap (λ (r : List ℕ). get_or r k 0) (drop_at front (l ++ m) (length front) refl) ∙ get_or_append_left l m 0 k long

-- the text of a good copy, of which pieces and one more were read
text_goes_on : (ledger bytes : List ℕ) (pieces ps : List (List ℕ)) (piece : List ℕ) (t : Standing) (end : ℕ) → HasRead ledger bytes (pieces ++ piece ∷ []) t → IsCopy bytes ps end → (more : List ℕ) × (text_of ps ≡ text_of pieces ++ (piece ++ more))
text_goes_on ledger bytes pieces ps piece t end has copy =
    let more = good_goes_on ledger bytes (pieces ++ piece ∷ []) ps t end has copy in
    (text_of more.0, ap text_of (more.1 ∙ append_assoc pieces (piece ∷ []) more.0) ∙ flat_map-append (λ p. p) pieces (piece ∷ more.0))

-- where both go on, and the pieces part
pub pieces_part : (ledger bytes others : List ℕ) (pieces : List (List ℕ)) (p q : List ℕ) (s t u : Standing) (count k : ℕ) → HasRead ledger bytes pieces s → HasRead ledger bytes (pieces ++ p ∷ []) t → HasRead ledger others (pieces ++ q ∷ []) u
    → count ≤ length p → count ≤ length q → PartsAt k (take count p) (take count q) → IsComparison bytes others (Some (s.text + k))
pieces_part ledger bytes others pieces p q s t u count k has one two long other parts = λ ps qs end last first second.
    let within = parts_within p q count k long other parts in
    let a = text_goes_on ledger bytes pieces ps p t end one first in
    let b = text_goes_on ledger others pieces qs q u last two second in
    subst (λ (l : List ℕ). DifferAt (s.text + k) l (text_of qs)) (sym a.1)
    (subst (λ (l : List ℕ). DifferAt (s.text + k) (text_of pieces ++ (p ++ a.0)) l) (sym b.1)
    (subst (λ (n : ℕ). DifferAt (n + k) (text_of pieces ++ (p ++ a.0)) (text_of pieces ++ (q ++ b.0))) (sym has.text)
    (differ_within (text_of pieces) p q a.0 b.0 k (omega (arith, within.0, long)) (omega (arith, within.0, other)) within.1 within.2)))

-- pieces of one kind that are the same as far as the shorter goes are the same
same_piece : (first : Bool) (p q : List ℕ) (count : ℕ) → IsKind first p → IsKind first q → count ≡ min (length p) (length q) → take count p ≡ take count q → p ≡ q
same_piece first p q count is other size same =
    ⊎_elim
    (λ (less : length p < length q).
    let n : count ≡ length p = omega (arith, size, less) in
    let front : p ≡ take count q = sym (take_all count p (omega (arith, n))) ∙ same in
    (piece_agrees first p q (drop count q) [] is other (ap (λ (l : List ℕ). l ++ drop count q) front ∙ take-append-drop count q ∙ sym (append-nil q))).0)
    (λ (more : length q ≤ length p).
    let n : count ≡ length q = omega (arith, size, more) in
    let front : q ≡ take count p = sym (take_all count q (omega (arith, n))) ∙ sym same in
    (piece_agrees first p q [] (drop count p) is other (append-nil p ∙ sym (take-append-drop count p) ∙ ap (λ (l : List ℕ). l ++ drop count p) (sym front))).0)
    (cases_lt (length p) (length q))

-- where both go on, and the pieces do not part, the copies are not apart
pub never_same : (ledger bytes others : List ℕ) (pieces : List (List ℕ)) (p q : List ℕ) (s t u : Standing) (count : ℕ) → Apart ledger bytes others pieces s → HasRead ledger bytes (pieces ++ p ∷ []) t → HasRead ledger others (pieces ++ q ∷ []) u
    → count ≡ min (length p) (length q) → take count p ≡ take count q → ⊥
never_same ledger bytes others pieces p q s t u count far one two size same =
    let is = piece_there pieces p one.valid in
    let piece : p ≡ q = same_piece (is_first pieces) p q count is.kind (piece_there pieces q two.valid).kind size same in
    far.apart p (drop t.place bytes) (drop u.place others) is (next_entry ledger bytes pieces p s t far.one one)
    (next_entry ledger others pieces q s u far.two two ∙ ap (λ (l : List ℕ). copy_entry (last_link first_link pieces) l ++ drop u.place others) (sym piece))

-- the length of the piece that was read
pub length-piece : (ledger bytes : List ℕ) (pieces : List (List ℕ)) (piece : List ℕ) (s t : Standing) → HasRead ledger bytes pieces s → HasRead ledger bytes (pieces ++ piece ∷ []) t → t.place + s.text ≡ s.place + 37 + t.text → s.text < t.text → length piece ≡ t.text - s.text
length-piece ledger bytes pieces piece s t has on size more = omega (arith, next_place ledger bytes pieces piece s t has on, size, more)

-- nothing is to be shown of copies that are not good
pub where_begun : (bytes others : List ℕ) (differ : Option ℕ) → (IsBegun bytes × HasMark bytes → IsBegun others × HasMark others → IsComparison bytes others differ) → IsComparison bytes others differ
where_begun bytes others differ shown = λ ps qs end last one two.
    shown (copy_begins bytes ps (one.gate ∷ one.after) (omega arith) one.spelling) (copy_begins others qs (two.gate ∷ two.after) (omega arith) two.spelling) ps qs end last one two

-- Both copies go on by a piece, and their ranges of the shorter one's length part at a place.
pub both_part : (ledger a b : List ℕ) (pieces : List (List ℕ)) (s t u : Standing) (count k : ℕ) → Apart ledger a b pieces s
    → HasRead ledger a (pieces ++ take (t.text - s.text) (drop (s.place + 5) a) ∷ []) t → HasRead ledger b (pieces ++ take (u.text - s.text) (drop (s.place + 5) b) ∷ []) u
    → t.place + s.text ≡ s.place + 37 + t.text → s.text < t.text → u.place + s.text ≡ s.place + 37 + u.text → s.text < u.text → count ≡ min t.text u.text - s.text
    → PartsAt k (take count (drop (s.place + 5) a)) (take count (drop (s.place + 5) b)) → IsComparison a b (Some (s.text + k))
both_part ledger a b pieces s t u count k far one two size more other_size other_more count_is parts =
    let p = take (t.text - s.text) (drop (s.place + 5) a) in
    let q = take (u.text - s.text) (drop (s.place + 5) b) in
    let p_long : length p ≡ t.text - s.text = length-piece ledger a pieces p s t far.one one size more in
    let q_long : length q ≡ u.text - s.text = length-piece ledger b pieces q s u far.two two other_size other_more in
    let p_front : take count (drop (s.place + 5) a) ≡ take count p = sym (take-take count (t.text - s.text) (drop (s.place + 5) a) (omega (arith, count_is, more, other_more))) in
    let q_front : take count (drop (s.place + 5) b) ≡ take count q = sym (take-take count (u.text - s.text) (drop (s.place + 5) b) (omega (arith, count_is, more, other_more))) in
    pieces_part ledger a b pieces p q s t u count k far.one one two (omega (arith, count_is, p_long, more, other_more)) (omega (arith, count_is, q_long, more, other_more))
    (parts_of _ _ _ _ k p_front q_front parts)

-- They never are the same there.
pub both_same : (ledger a b : List ℕ) (pieces : List (List ℕ)) (s t u : Standing) (count : ℕ) → Apart ledger a b pieces s
    → HasRead ledger a (pieces ++ take (t.text - s.text) (drop (s.place + 5) a) ∷ []) t → HasRead ledger b (pieces ++ take (u.text - s.text) (drop (s.place + 5) b) ∷ []) u
    → t.place + s.text ≡ s.place + 37 + t.text → s.text < t.text → u.place + s.text ≡ s.place + 37 + u.text → s.text < u.text → count ≡ min t.text u.text - s.text
    → take count (drop (s.place + 5) a) ≡ take count (drop (s.place + 5) b) → ⊥
both_same ledger a b pieces s t u count far one two size more other_size other_more count_is same =
    let p = take (t.text - s.text) (drop (s.place + 5) a) in
    let q = take (u.text - s.text) (drop (s.place + 5) b) in
    let p_long : length p ≡ t.text - s.text = length-piece ledger a pieces p s t far.one one size more in
    let q_long : length q ≡ u.text - s.text = length-piece ledger b pieces q s u far.two two other_size other_more in
    let p_front : take count (drop (s.place + 5) a) ≡ take count p = sym (take-take count (t.text - s.text) (drop (s.place + 5) a) (omega (arith, count_is, more, other_more))) in
    let q_front : take count (drop (s.place + 5) b) ≡ take count q = sym (take-take count (u.text - s.text) (drop (s.place + 5) b) (omega (arith, count_is, more, other_more))) in
    never_same ledger a b pieces p q s t u count far one two (omega (arith, count_is, p_long, q_long, more, other_more)) (sym p_front ∙ same ∙ q_front)
