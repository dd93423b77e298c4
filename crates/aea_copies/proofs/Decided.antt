-- Each file of bytes is a good copy, or is bad at a place.
use Rattle.std.proofs.Common.{◌≡◌, ◌⊎◌, ⊎_elim, inl, inr, ℕ, zero, suc, ◌+◌, ◌<◌, ◌≤◌, ◌^◌, Bool, true, false, List, [], ◌∷◌, ◌++◌, length, take, drop, get_or, refl, sym, ap, ◌∙◌, subst, arith}
use Rattle.std.specs.Str.{bytes_eq}
use Rattle.std.specs.Int.{w32, from_be_bytes}
use Rattle.std.proofs.lemmas.Bool.{cases_lt, cases_eq}
use Rattle.std.proofs.lemmas.Slice.Eq.{bytes_eq-Decides}
use Rattle.std.proofs.lemmas.List.{length-append, append_assoc, append-nil, drop_at, drop_more}
use Rattle.std.proofs.lemmas.List.Elements.{All-take, All-drop}
use Rattle.std.proofs.lemmas.Nat.{from_be_bytes-to_be_bytes_4}
use Rattle.aea_records.specs.Format.{open_gate}
use Rattle.aea_disk.specs.Ends.{greatest_place}
use Rattle.aea_records.specs.TableLaws.{AreBytes}
use Rattle.aea_copies.specs.Format.{first_link, last_link, copy_entry, copy_mark, chain, copied}
use Rattle.aea_copies.specs.Grammar.{is_first, IsKind, ArePieces, IsCopy, IsBegun, HasMark, IsEntry, IsBadGate, IsBadEntryAt, IsBadCopyAt}
use Rattle.aea_copies.specs.Laws.{IsCopyOrBad}
use Rattle.aea_copies.proofs.Ranges.{rest_both}
use Rattle.aea_copies.proofs.Chains.{copied_push, are_pieces_push}
use Rattle.aea_copies.proofs.Entries.{length-entry, entry_shows}

-- lists are the same, or not
lists_eq : (xs ys : List ℕ) → (xs ≡ ys) ⊎ (xs ≡ ys → ⊥)
lists_eq xs ys = by (bytes_eq xs ys) refl
  where
    differ : true ≡ false → ⊥
    differ e = cc

    by : (b : Bool) → bytes_eq xs ys ≡ b → (xs ≡ ys) ⊎ (xs ≡ ys → ⊥)
    by true e = inl ((bytes_eq-Decides xs ys).0 e)
    by false e = inr (λ same. differ (sym ((bytes_eq-Decides xs ys).1 same) ∙ e))

-- a piece is of a kind, or not
kind_or_not : (first : Bool) (piece : List ℕ) → IsKind first piece ⊎ (IsKind first piece → ⊥)
kind_or_not true piece =
    ⊎_elim
    (λ (long : length piece ≡ 17).
    ⊎_elim (λ (gate : get_or piece 0 0 ≡ open_gate). inl (record { long = long; gate = gate })) (λ (not : get_or piece 0 0 ≡ open_gate → ⊥). inr (λ kind. not kind.gate)) (cases_eq (get_or piece 0 0) open_gate))
    (λ (not : length piece ≡ 17 → ⊥). inr (λ kind. not kind.long))
    (cases_eq (length piece) 17)
kind_or_not false piece =
    ⊎_elim
    (λ (short : length piece < 6). inr (λ kind. absurd (omega (arith, kind.long, short))))
    (λ (long : 6 ≤ length piece).
    ⊎_elim
    (λ (gate : get_or piece 0 0 ≡ open_gate).
    ⊎_elim (λ (size : from_be_bytes w32 (take 4 (drop 2 piece)) + 6 ≡ length piece). inl (record { long = long; gate = gate; size = size }))
    (λ (not : from_be_bytes w32 (take 4 (drop 2 piece)) + 6 ≡ length piece → ⊥). inr (λ kind. not kind.size)) (cases_eq (from_be_bytes w32 (take 4 (drop 2 piece)) + 6) (length piece)))
    (λ (not : get_or piece 0 0 ≡ open_gate → ⊥). inr (λ kind. not kind.gate))
    (cases_eq (get_or piece 0 0) open_gate))
    (cases_lt (length piece) 6)

-- the piece that an entry at the beginning of these bytes would have, and what would follow it
len_in : List ℕ → ℕ
len_in rest = from_be_bytes w32 (take 4 (drop 1 rest))

piece_in : List ℕ → List ℕ
piece_in rest = take (len_in rest) (drop 5 rest)

after_in : List ℕ → List ℕ
after_in rest = drop (37 + len_in rest) rest

record Only (link rest piece : List ℕ) : Type 0 where
  piece_is : piece ≡ piece_in rest
  whole : rest ≡ copy_entry link (piece_in rest) ++ after_in rest

only_entry : (earlier : List (List ℕ)) (place : ℕ) (rest piece after : List ℕ) → IsEntry earlier place rest piece after → Only (last_link first_link earlier) rest piece
unfolding len_in piece_in after_in
only_entry earlier place rest piece after entry =
    let link = last_link first_link earlier in
    let shows = entry_shows rest link piece after entry.spelling in
    let size : length piece ≡ len_in rest = sym (from_be_bytes-to_be_bytes_4 (length piece) entry.valid.short) ∙ ap (from_be_bytes w32) (sym shows.size) in
    let same : piece ≡ piece_in rest = sym shows.text ∙ ap (λ (k : ℕ). take k (drop 5 rest)) size in
    let long : length (copy_entry link piece) ≡ 37 + len_in rest = omega (arith, length-entry link piece, size) in
    let tail : after_in rest ≡ after = ap (drop (37 + len_in rest)) entry.spelling ∙ drop_at (copy_entry link piece) after (37 + len_in rest) long in
    record {
      piece_is = same;
      whole = entry.spelling ∙ ap (λ (l : List ℕ). copy_entry link l ++ after) same ∙ ap (λ (l : List ℕ). copy_entry link (piece_in rest) ++ l) (sym tail);
    }

-- both are bytes
piece_bytes : (rest : List ℕ) → AreBytes rest → AreBytes (piece_in rest)
unfolding piece_in
piece_bytes rest are = All-take (λ b. b < 2 ^ 8) (len_in rest) (drop 5 rest) (All-drop (λ b. b < 2 ^ 8) 5 rest are)

after_bytes : (rest : List ℕ) → AreBytes rest → AreBytes (after_in rest)
unfolding after_in
after_bytes rest are = All-drop (λ b. b < 2 ^ 8) (37 + len_in rest) rest are

-- an entry is there, or none
entry_or_none : (earlier : List (List ℕ)) (place : ℕ) (rest : List ℕ) → AreBytes rest → IsEntry earlier place rest (piece_in rest) (after_in rest) ⊎ ((piece after : List ℕ) → IsEntry earlier place rest piece after → ⊥)
entry_or_none earlier place rest are =
    ⊎_elim
    (λ (whole : rest ≡ copy_entry link (piece_in rest) ++ after_in rest).
    ⊎_elim
    (λ (kind : IsKind (is_first earlier) (piece_in rest)).
    ⊎_elim
    (λ (short : length (piece_in rest) < 2 ^ 32).
    ⊎_elim
    (λ (far : greatest_place < place + (37 + length (piece_in rest))).
    inr (λ piece after entry. absurd (omega (arith, entry.within, ap length (only_entry earlier place rest piece after entry).piece_is, far))))
    (λ (near : place + (37 + length (piece_in rest)) ≤ greatest_place).
    inl (record {
      valid = record { bytes = piece_bytes rest are; short = short; kind = kind };
      spelling = whole;
      within = near;
    }))
    (cases_lt greatest_place (place + (37 + length (piece_in rest)))))
    (λ (long : 2 ^ 32 ≤ length (piece_in rest)). inr (λ piece after entry. absurd (omega (arith, entry.valid.short, ap length (only_entry earlier place rest piece after entry).piece_is, long))))
    (cases_lt (length (piece_in rest)) (2 ^ 32)))
    (λ (not : IsKind (is_first earlier) (piece_in rest) → ⊥). inr (λ piece after entry. not (subst (IsKind (is_first earlier)) (only_entry earlier place rest piece after entry).piece_is entry.valid.kind)))
    (kind_or_not (is_first earlier) (piece_in rest)))
    (λ (not : rest ≡ copy_entry link (piece_in rest) ++ after_in rest → ⊥). inr (λ piece after entry. not (only_entry earlier place rest piece after entry).whole))
    (lists_eq rest (copy_entry link (piece_in rest) ++ after_in rest))
  where
    link : List ℕ
    link = last_link first_link earlier

-- What one finds of a copy that is begun and has the mark.
abbrev Found : List ℕ → Type 0
Found bytes = ((pieces : List (List ℕ)) × IsCopy bytes pieces (length (copied pieces))) ⊎ ((at : ℕ) × IsBadEntryAt bytes at)

-- what is found at the next gate, where one knows what is found further on
at_gate : (n : ℕ) (bytes : List ℕ) (earlier : List (List ℕ)) (gate : ℕ) (behind : List ℕ)
    → ((further : List (List ℕ)) (rest : List ℕ) → length rest ≤ n → AreBytes rest → ArePieces true further → bytes ≡ copied further ++ rest → length (copied further) ≤ greatest_place → Found bytes)
    → length (gate ∷ behind) ≤ suc n → AreBytes (gate ∷ behind) → ArePieces true earlier → bytes ≡ copied earlier ++ gate ∷ behind → length (copied earlier) ≤ greatest_place → Found bytes
at_gate n bytes earlier gate behind found enough are valid spelling within =
    ⊎_elim
    (λ (opened : gate ≡ open_gate).
    ⊎_elim
    (λ (entry : IsEntry earlier (length (copied earlier)) (gate ∷ behind) (piece_in (gate ∷ behind)) (after_in (gate ∷ behind))). next entry)
    (λ (none : (piece after : List ℕ) → IsEntry earlier (length (copied earlier)) (gate ∷ behind) piece after → ⊥). bad_at (inr (opened, none)))
    (entry_or_none earlier (length (copied earlier)) (gate ∷ behind) are))
    (λ (closed : gate ≡ open_gate → ⊥). ended (is_first earlier) refl closed)
    (cases_eq gate open_gate)
  where
    bad_at : IsBadGate earlier (length (copied earlier)) (gate ∷ behind) → Found bytes
    bad_at bad = inr (length (copied earlier), record { pieces = earlier; valid = valid; rest = gate ∷ behind; spelling = spelling; place = refl; within = within; bad = bad })

    ended : (b : Bool) → is_first earlier ≡ b → (gate ≡ open_gate → ⊥) → Found bytes
    ended true first closed = bad_at (inl (closed, first))
    ended false some closed = inl (earlier, record { some = some; valid = valid; gate = gate; closed = closed; after = behind; spelling = spelling; place = refl; within = within })

    next : IsEntry earlier (length (copied earlier)) (gate ∷ behind) (piece_in (gate ∷ behind)) (after_in (gate ∷ behind)) → Found bytes
    next entry =
        let rest = gate ∷ behind in
        let piece = piece_in rest in
        let link = last_link first_link earlier in
        let long = length-entry link piece in
        found (earlier ++ piece ∷ []) (after_in rest)
        (omega (arith, enough, ap length entry.spelling, length-append (copy_entry link piece) (after_in rest), long))
        (after_bytes rest are)
        (are_pieces_push earlier piece valid entry.valid)
        (spelling ∙ ap (λ (l : List ℕ). copied earlier ++ l) entry.spelling ∙ sym (append_assoc (copied earlier) (copy_entry link piece) (after_in rest)) ∙ ap (λ (l : List ℕ). l ++ after_in rest) (sym (copied_push earlier piece)))
        (omega (arith, ap length (copied_push earlier piece), length-append (copied earlier) (copy_entry link piece), long, entry.within))

-- the same from any gate on
walked : (fuel : ℕ) (bytes : List ℕ) (earlier : List (List ℕ)) (rest : List ℕ) → length rest ≤ fuel → AreBytes rest → ArePieces true earlier → bytes ≡ copied earlier ++ rest → length (copied earlier) ≤ greatest_place → Found bytes
walked fuel bytes earlier [] enough are valid spelling within = inr (length (copied earlier), record { pieces = earlier; valid = valid; rest = []; spelling = spelling; place = refl; within = within; bad = tt })
walked zero bytes earlier (gate ∷ behind) enough are valid spelling within = absurd (omega (arith, enough))
walked (suc n) bytes earlier (gate ∷ behind) enough are valid spelling within = at_gate n bytes earlier gate behind (walked n bytes) enough are valid spelling within

-- a copy that is begun and has the mark, before its first entry
marked_first : (bytes : List ℕ) → IsBegun bytes → HasMark bytes → bytes ≡ copied [] ++ drop 9 bytes
marked_first bytes begun mark =
    let one : bytes ≡ open_gate ∷ drop 1 bytes = drop_more bytes 0 0 (omega (arith, begun.long)) ∙ ap (λ (n : ℕ). n ∷ drop 1 bytes) begun.gate in
    let rest : drop 1 bytes ≡ copy_mark ++ drop 9 bytes = rest_both bytes 1 8 9 (omega arith) ∙ ap (λ (l : List ℕ). l ++ drop 9 bytes) mark in
    one ∙ ap (λ (l : List ℕ). open_gate ∷ l) (rest ∙ ap (λ (l : List ℕ). l ++ drop 9 bytes) (sym (append-nil copy_mark)))

pub each_is_a_copy_or_bad : IsCopyOrBad
each_is_a_copy_or_bad bytes are =
    ⊎_elim
    (λ (short : length bytes < 10). inr (0, inl (refl, λ begun. absurd (omega (arith, begun.long, short)))))
    (λ (long : 10 ≤ length bytes).
    ⊎_elim
    (λ (gate : get_or bytes 0 0 ≡ open_gate). begun_or_bad (record { long = long; gate = gate }))
    (λ (not : get_or bytes 0 0 ≡ open_gate → ⊥). inr (0, inl (refl, λ begun. not begun.gate)))
    (cases_eq (get_or bytes 0 0) open_gate))
    (cases_lt (length bytes) 10)
  where
    marked : IsBegun bytes → HasMark bytes → ((pieces : List (List ℕ)) × IsCopy bytes pieces (length (copied pieces))) ⊎ ((at : ℕ) × IsBadCopyAt bytes at)
    marked begun mark =
        ⊎_elim
        (λ (good : (pieces : List (List ℕ)) × IsCopy bytes pieces (length (copied pieces))). inl good)
        (λ (bad : (at : ℕ) × IsBadEntryAt bytes at). inr (bad.0, inr (inr (omega (arith, bad.1.place, length-append copy_mark (chain first_link bad.1.pieces)), begun, bad.1))))
        (walked (length (drop 9 bytes)) bytes [] (drop 9 bytes) (omega arith) (All-drop (λ b. b < 2 ^ 8) 9 bytes are) tt (marked_first bytes begun mark) (omega arith))

    begun_or_bad : IsBegun bytes → ((pieces : List (List ℕ)) × IsCopy bytes pieces (length (copied pieces))) ⊎ ((at : ℕ) × IsBadCopyAt bytes at)
    begun_or_bad begun =
        ⊎_elim (λ (mark : HasMark bytes). marked begun mark) (λ (not : HasMark bytes → ⊥). inr (1, inr (inl (refl, begun, not)))) (lists_eq (take 8 (drop 1 bytes)) copy_mark)
