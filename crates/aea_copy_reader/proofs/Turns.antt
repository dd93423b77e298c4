-- A reader at a gate, and what it finds there.
use Rattle.std.proofs.Common.{◌≡◌, ◌≢◌, ◌↔◌, ◌⊎◌, ⊎_elim, inl, inr, ℕ, ◌+◌, ◌-◌, ◌<◌, ◌≤◌, ◌^◌, Bool, true, false, List, [], ◌∷◌, ◌++◌, length, take, drop, get_or, refl, sym, ap, ◌∙◌, subst, arith}
use Rattle.std.specs.Int.{w32, to_be_bytes, from_be_bytes}
use Rattle.std.proofs.lemmas.List.{length-take, length-drop, length-append, append_assoc, append-nil, drop-drop, take-take, drop-take, take_at, drop_at, get_or-take, get_or-drop, drop_more, get_or_past}
use Rattle.std.proofs.lemmas.Bool.{cases_lt}
use Rattle.std.proofs.lemmas.List.Elements.{All-take, All-drop, All-get_or}
use Rattle.std.proofs.lemmas.Nat.{be_bytes_4, from_be_bytes-to_be_bytes_4}
use Rattle.aea_records.specs.Format.{open_gate}
use Rattle.aea_disk.specs.Ends.{greatest_place}
use Rattle.aea_records.specs.TableLaws.{AreBytes}
use Rattle.aea_copies.specs.Format.{first_link, link_after, last_link, copy_entry, copy_mark, chain, copied, text_of}
use Rattle.aea_copies.specs.Grammar.{is_first, IsKind, IsBegun, HasMark, IsEntry, IsBadGate, IsCopy, IsBadCopyAt}
use Rattle.aea_copy_reader.specs.Heads.{IsSized, IsHead}
use Rattle.aea_copy_reader.specs.Taking.{HasPieceAt}
use Rattle.aea_copy_reader.specs.Judging.{HasRead, IsTurn}
use Rattle.aea_copy_reader.specs.declared.known.Standing.{Standing}
use Rattle.aea_copy_reader.specs.declared.known.Turn.{Turn}
use Rattle.aea_copies.proofs.Ranges.{rest_both}
use Rattle.aea_copy_reader.proofs.Parting.{front_part, take_sum}
use Rattle.aea_copies.proofs.Chains.{copied_push, last_link_push, are_pieces_push, first_push, text_push}
use Rattle.aea_copies.proofs.Entries.{length-entry, entry_shows, entry_spelled}

-- the piece of an entry has the length that its head says
pub entry_length : (pieces : List (List ℕ)) (place : ℕ) (rest piece after : List ℕ) (first : Bool) (len : ℕ) → IsEntry pieces place rest piece after → IsHead first (take 11 rest) len → length piece ≡ len
entry_length pieces place rest piece after first len entry head =
    let shows = entry_shows rest (last_link first_link pieces) piece after entry.spelling in
    sym (from_be_bytes-to_be_bytes_4 (length piece) entry.valid.short) ∙ ap (from_be_bytes w32) (sym shows.size) ∙ ap (from_be_bytes w32) (sym (front_part rest 11 1 4 (omega arith))) ∙ head.size

-- an entry has the head of one
pub entry_heads : (pieces : List (List ℕ)) (place : ℕ) (rest piece after : List ℕ) → IsEntry pieces place rest piece after → IsHead (is_first pieces) (take 11 rest) (length piece)
entry_heads pieces place rest piece after entry =
    let shows = entry_shows rest (last_link first_link pieces) piece after entry.spelling in
    let six : 6 ≤ length piece = six_there (is_first pieces) entry.valid.kind in
    record {
      long = omega (arith, length-take 11 rest, shows.long, six);
      gate = get_or-take 11 rest 0 0 (omega arith) ∙ shows.gate;
      size = ap (from_be_bytes w32) (front_part rest 11 1 4 (omega arith)) ∙ ap (from_be_bytes w32) shows.size ∙ from_be_bytes-to_be_bytes_4 (length piece) entry.valid.short;
      inner = get_or-take 11 rest 5 0 (omega arith) ∙ sym (get_or-drop 5 rest 0 0) ∙ sym (get_or-take (length piece) (drop 5 rest) 0 0 (omega (arith, six))) ∙ ap (λ (l : List ℕ). get_or l 0 0) shows.text ∙ gate_there (is_first pieces) entry.valid.kind;
      kind = sized (is_first pieces) entry.valid.kind shows.text six;
    }
  where
    six_there : (b : Bool) → IsKind b piece → 6 ≤ length piece
    six_there true kind = omega (arith, kind.long)
    six_there false kind = kind.long

    gate_there : (b : Bool) → IsKind b piece → get_or piece 0 0 ≡ open_gate
    gate_there true kind = kind.gate
    gate_there false kind = kind.gate

    sized : (b : Bool) → IsKind b piece → take (length piece) (drop 5 rest) ≡ piece → 6 ≤ length piece → IsSized b (take 11 rest) (length piece)
    sized true kind text six = kind.long
    sized false kind text six =
        let inner : take 4 (drop 2 piece) ≡ take 4 (drop 7 rest) =
        ap (λ (l : List ℕ). take 4 (drop 2 l)) (sym text) ∙ front_part (drop 5 rest) (length piece) 2 4 six ∙ ap (take 4) (drop-drop 2 5 rest) in
        ap (λ (l : List ℕ). from_be_bytes w32 l + 6) (front_part rest 11 7 4 (omega arith) ∙ sym inner) ∙ kind.size

bad_gate : (pieces : List (List ℕ)) (place : ℕ) (rest : List ℕ) → 1 ≤ length rest → get_or rest 0 0 ≡ open_gate → ((piece after : List ℕ) → IsEntry pieces place rest piece after → ⊥) → IsBadGate pieces place rest
bad_gate pieces place [] some gate none = tt
bad_gate pieces place (g ∷ behind) some gate none = inr (gate, none)

-- where no entry follows an open gate, the copy is bad there
pub bad_entry : (ledger bytes : List ℕ) (pieces : List (List ℕ)) (s : Standing) → HasRead ledger bytes pieces s → s.place ≤ greatest_place → (len : ℕ) → 1 ≤ length (take 11 (drop s.place bytes)) → get_or (take 11 (drop s.place bytes)) 0 0 ≡ open_gate
    → ((piece after : List ℕ) → IsEntry pieces s.place (drop s.place bytes) piece after → ⊥) → IsBadCopyAt bytes s.place
bad_entry ledger bytes pieces s stands within len some gate none =
    let rest = drop s.place bytes in
    inr (inr (
      omega (arith, stands.place, length-append copy_mark (chain first_link pieces)),
      stands.begun,
      record {
        pieces = pieces;
        valid = stands.valid;
        rest = rest;
        spelling = stands.spelling;
        place = stands.place;
        within = within;
        bad = bad_gate pieces s.place rest (omega (arith, some, length-take 11 rest)) (sym (get_or-take 11 rest 0 0 (omega arith)) ∙ gate) none;
      },
    ))

-- where the head begins none
pub bad_head : (ledger bytes : List ℕ) (pieces : List (List ℕ)) (s : Standing) (head : List ℕ) → HasRead ledger bytes pieces s → s.place ≤ greatest_place → head ≡ take 11 (drop s.place bytes) → 1 ≤ length head → get_or head 0 0 ≡ open_gate
    → ((len : ℕ) → IsHead s.first head len → ⊥) → IsBadCopyAt bytes s.place
bad_head ledger bytes pieces s head stands within same some gate none =
    let rest = drop s.place bytes in
    bad_entry ledger bytes pieces s stands within 0 (subst (λ (l : List ℕ). 1 ≤ length l) same some) (ap (λ (l : List ℕ). get_or l 0 0) (sym same) ∙ gate)
    (λ piece after entry.
    none (length piece)
    (subst (λ (l : List ℕ). IsHead s.first l (length piece)) (sym same)
    (subst (λ (b : Bool). IsHead b (take 11 rest) (length piece)) (sym stands.first) (entry_heads pieces s.place rest piece after entry))))

-- where the file ends within the piece
pub bad_end : (ledger bytes : List ℕ) (pieces : List (List ℕ)) (s : Standing) (len : ℕ) → HasRead ledger bytes pieces s → s.place ≤ greatest_place → IsHead s.first (take 11 (drop s.place bytes)) len → length bytes < s.place + 5 + len → IsBadCopyAt bytes s.place
bad_end ledger bytes pieces s len stands within head short =
    let rest = drop s.place bytes in
    bad_entry ledger bytes pieces s stands within len (omega (arith, head.long)) head.gate
    (λ piece after entry.
    let shows = entry_shows rest (last_link first_link pieces) piece after entry.spelling in
    let size = entry_length pieces s.place rest piece after s.first len entry head in
    omega (arith, shows.long, size, short, length-drop s.place bytes))

-- where another link is
pub bad_link : (ledger bytes : List ℕ) (pieces : List (List ℕ)) (s : Standing) (len end : ℕ) (link : List ℕ) → HasRead ledger bytes pieces s → s.place ≤ greatest_place → IsHead s.first (take 11 (drop s.place bytes)) len → end ≡ s.place + 37 + len
    → HasPieceAt bytes (s.place + 5) len s.link link → (take 32 (drop (end - 32) bytes) ≡ link → ⊥) → IsBadCopyAt bytes s.place
bad_link ledger bytes pieces s len end link stands within head place has other =
    let rest = drop s.place bytes in
    bad_entry ledger bytes pieces s stands within len (omega (arith, head.long)) head.gate
    (λ piece after entry.
    let shows = entry_shows rest (last_link first_link pieces) piece after entry.spelling in
    let size = entry_length pieces s.place rest piece after s.first len entry head in
    let same : piece ≡ take len (drop (s.place + 5) bytes) = sym shows.text ∙ ap (λ (k : ℕ). take k (drop 5 rest)) size ∙ ap (take len) (drop-drop 5 s.place bytes) in
    let at : s.place + (5 + length piece) ≡ end - 32 = omega (arith, size, place) in
    other (ap (λ (k : ℕ). take 32 (drop k bytes)) (sym at) ∙ ap (take 32) (sym (drop-drop (5 + length piece) s.place bytes)) ∙ shows.linked
    ∙ ap (λ (l : List ℕ). link_after l piece) (sym stands.link) ∙ ap (link_after s.link) same ∙ sym has.linked))

-- a text goes on in the ledger where both parts are there
text_on : (ledger text piece : List ℕ) (n m : ℕ) → length text ≡ n → length piece ≡ m → take (n + m) ledger ≡ text ++ piece ↔ ((take n ledger ≡ text) × (take m (drop n ledger) ≡ piece))
text_on ledger text piece n m long size = (
  λ whole. (
    sym (take-take n (n + m) ledger (omega arith)) ∙ ap (take n) whole ∙ take_at text piece n long,
    sym (drop-take n m ledger) ∙ ap (drop n) whole ∙ drop_at text piece n long,
  ),
  λ both. take_sum n m ledger ∙ ap (λ (l : List ℕ). l ++ take m (drop n ledger)) both.0 ∙ ap (λ (l : List ℕ). text ++ l) both.1,
)

-- where an entry is, the reader goes on after it
read_inner : (ledger bytes : List ℕ) (pieces : List (List ℕ)) (s t : Standing) (len : ℕ) → HasRead ledger bytes pieces s → len < 2 ^ 32 → IsHead s.first (take 11 (drop s.place bytes)) len → AreBytes (take 11 (drop s.place bytes))
    → HasPieceAt bytes (s.place + 5) len s.link t.link → take 32 (drop (t.place - 32) bytes) ≡ t.link → t.place ≡ s.place + 37 + len → t.text ≡ s.text + len → t.first ≡ false
    → (t.in_ledger ≡ true ↔ ((s.in_ledger ≡ true) × (take len (drop s.text ledger) ≡ take len (drop (s.place + 5) bytes)))) → HasRead ledger bytes (pieces ++ take len (drop 5 (drop s.place bytes)) ∷ []) t
read_inner ledger bytes pieces s t len stands small head are has linked place text first goes =
    let rest = drop s.place bytes in
    let piece = take len (drop 5 rest) in
    let same : piece ≡ take len (drop (s.place + 5) bytes) = ap (take len) (drop-drop 5 s.place bytes) in
    let long : length piece ≡ len = omega (arith, length-take len (drop 5 rest), length-drop 5 rest, length-drop s.place bytes, has.there) in
    let eleven : 11 ≤ length rest = omega (arith, head.long, length-take 11 rest) in
    let number : take 4 (drop 1 rest) ≡ to_be_bytes w32 len =
    let part : take 4 (drop 1 (take 11 rest)) ≡ take 4 (drop 1 rest) = front_part rest 11 1 4 (omega arith) in
    let four : length (take 4 (drop 1 rest)) ≡ 4 = omega (arith, length-take 4 (drop 1 rest), length-drop 1 rest, eleven) in
    let bytes4 : AreBytes (take 4 (drop 1 rest)) = subst AreBytes part (All-take (λ b. b < 2 ^ 8) 4 (drop 1 (take 11 rest)) (All-drop (λ b. b < 2 ^ 8) 1 (take 11 rest) are)) in
    sym (back (take 4 (drop 1 rest)) four bytes4) ∙ ap (λ (l : List ℕ). to_be_bytes w32 (from_be_bytes w32 l)) (sym part) ∙ ap (to_be_bytes w32) head.size in
    let at : s.place + (5 + len) ≡ t.place - 32 = omega (arith, place) in
    let link : take 32 (drop (5 + len) rest) ≡ link_after s.link piece =
    ap (take 32) (drop-drop (5 + len) s.place bytes) ∙ ap (λ (k : ℕ). take 32 (drop k bytes)) at ∙ linked ∙ has.linked ∙ ap (link_after s.link) (sym same) in
    let entry : rest ≡ copy_entry s.link piece ++ drop (37 + len) rest =
    entry_spelled rest s.link piece len (omega (arith, eleven)) (sym (get_or-take 11 rest 0 0 (omega arith)) ∙ head.gate) number refl long link in
    let on : drop (37 + len) rest ≡ drop t.place bytes = drop-drop (37 + len) s.place bytes ∙ ap (λ (k : ℕ). drop k bytes) (omega (arith, place)) in
    let spelled : copied (pieces ++ piece ∷ []) ≡ copied pieces ++ copy_entry s.link piece =
    copied_push pieces piece ∙ ap (λ (l : List ℕ). copied pieces ++ copy_entry l piece) (sym stands.link) in
    record {
      begun = stands.begun;
      valid = are_pieces_push pieces piece stands.valid (record {
        bytes = subst AreBytes (sym same) has.bytes;
        short = omega (arith, long, small);
        kind = kind_of (is_first pieces) rest len long (subst (λ (b : Bool). IsHead b (take 11 rest) len) stands.first head);
      });
      spelling =
          stands.spelling ∙ ap (λ (l : List ℕ). copied pieces ++ l) (entry ∙ ap (λ (l : List ℕ). copy_entry s.link piece ++ l) on)
          ∙ sym (append_assoc (copied pieces) (copy_entry s.link piece) (drop t.place bytes)) ∙ ap (λ (l : List ℕ). l ++ drop t.place bytes) (sym spelled);
      place = omega (arith, place, stands.place, ap length spelled, length-append (copied pieces) (copy_entry s.link piece), length-entry s.link piece, long);
      text = omega (arith, text, stands.text, ap length (text_push pieces piece), length-append (text_of pieces) piece, long);
      link = has.linked ∙ ap (link_after s.link) (sym same) ∙ ap (λ (l : List ℕ). link_after l piece) stands.link ∙ sym (last_link_push first_link pieces piece);
      first = first ∙ sym (first_push pieces piece);
      in_ledger =
          let at : t.text ≡ s.text + len = text in
          let both = text_on ledger (text_of pieces) piece s.text len (sym stands.text) long in
          let whole : text_of (pieces ++ piece ∷ []) ≡ text_of pieces ++ piece = text_push pieces piece in (
            λ yes. let is = goes.0 yes in ap (λ (k : ℕ). take k ledger) at ∙ both.1 (stands.in_ledger.0 is.0, is.1 ∙ sym same) ∙ sym whole,
            λ there. let is = both.0 (ap (λ (k : ℕ). take k ledger) (sym at) ∙ there ∙ whole) in goes.1 (stands.in_ledger.1 is.0, is.1 ∙ same),
          );
    }
  where
    back : (xs : List ℕ) → length xs ≡ 4 → AreBytes xs → to_be_bytes w32 (from_be_bytes w32 xs) ≡ xs
    back xs four fits = be_bytes_4 xs _ four (λ i. below xs fits i) refl
      where
        below : (ys : List ℕ) → AreBytes ys → (i : ℕ) → get_or ys i 0 < 256
        below ys fits i =
            elim (cases_lt i (length ys)) [
              | inl lt ↦ All-get_or (λ b. b < 2 ^ 8) ys i 0 lt fits
              | inr le ↦ rw (get_or_past ys i 0 le) (omega arith)
            ]

    kind_of : (b : Bool) (rest : List ℕ) (len : ℕ) → length (take len (drop 5 rest)) ≡ len → IsHead b (take 11 rest) len → IsKind b (take len (drop 5 rest))
    kind_of true rest len long head = record {
      long = long ∙ head.kind;
      gate = get_or-take len (drop 5 rest) 0 0 (omega (arith, head.kind)) ∙ get_or-drop 5 rest 0 0 ∙ sym (get_or-take 11 rest 5 0 (omega arith)) ∙ head.inner;
    }
    kind_of false rest len long head =
        let six : 6 ≤ len = omega (arith, head.kind) in
        record {
          long = omega (arith, long, six);
          gate = get_or-take len (drop 5 rest) 0 0 (omega (arith, six)) ∙ get_or-drop 5 rest 0 0 ∙ sym (get_or-take 11 rest 5 0 (omega arith)) ∙ head.inner;
          size =
              ap (λ (l : List ℕ). from_be_bytes w32 l + 6) (front_part (drop 5 rest) len 2 4 six ∙ ap (take 4) (drop-drop 2 5 rest) ∙ sym (front_part rest 11 7 4 (omega arith)))
              ∙ head.kind ∙ sym long;
        }

pub read_on : (ledger bytes : List ℕ) (pieces : List (List ℕ)) (s t : Standing) (len : ℕ) → HasRead ledger bytes pieces s → len < 2 ^ 32 → IsHead s.first (take 11 (drop s.place bytes)) len → AreBytes (take 11 (drop s.place bytes))
    → HasPieceAt bytes (s.place + 5) len s.link t.link → take 32 (drop (t.place - 32) bytes) ≡ t.link → t.place ≡ s.place + 37 + len → t.text ≡ s.text + len → t.first ≡ false
    → (t.in_ledger ≡ true ↔ ((s.in_ledger ≡ true) × (take len (drop s.text ledger) ≡ take len (drop (s.place + 5) bytes)))) → HasRead ledger bytes (pieces ++ take (t.text - s.text) (drop (s.place + 5) bytes) ∷ []) t
read_on ledger bytes pieces s t len stands small head are has linked place text first goes =
    let same : take len (drop 5 (drop s.place bytes)) ≡ take len (drop (s.place + 5) bytes) = ap (take len) (drop-drop 5 s.place bytes) in
    let size : len ≡ t.text - s.text = omega (arith, text) in
    subst (λ (l : List ℕ). HasRead ledger bytes (pieces ++ l ∷ []) t) (same ∙ ap (λ (k : ℕ). take k (drop (s.place + 5) bytes)) size)
    (read_inner ledger bytes pieces s t len stands small head are has linked place text first goes)

-- where the entries end
pub ends : (ledger bytes : List ℕ) (pieces : List (List ℕ)) (s : Standing) (head : List ℕ) → HasRead ledger bytes pieces s → s.place ≤ greatest_place → s.first ≡ false → head ≡ take 11 (drop s.place bytes) → 1 ≤ length head → get_or head 0 0 ≢ open_gate
    → IsCopy bytes pieces s.place
ends ledger bytes pieces s head stands within first same some closed =
    let rest = drop s.place bytes in
    let one : rest ≡ get_or rest 0 0 ∷ drop 1 rest = drop_more rest 0 0 (omega (arith, some, ap length same, length-take 11 rest)) in
    record {
      some = sym stands.first ∙ first;
      valid = stands.valid;
      gate = get_or rest 0 0;
      closed = λ open_. closed (ap (λ (l : List ℕ). get_or l 0 0) same ∙ get_or-take 11 rest 0 0 (omega arith) ∙ open_);
      after = drop 1 rest;
      spelling = stands.spelling ∙ ap (λ (l : List ℕ). copied pieces ++ l) one;
      place = stands.place;
      within = within;
    }

-- a gate without an entry before it, or none
pub bad_first : (ledger bytes : List ℕ) (pieces : List (List ℕ)) (s : Standing) (head : List ℕ) → HasRead ledger bytes pieces s → s.place ≤ greatest_place → head ≡ take 11 (drop s.place bytes)
    → (length head ≡ 0) ⊎ ((s.first ≡ true) × (1 ≤ length head) × (get_or head 0 0 ≢ open_gate)) → IsBadCopyAt bytes s.place
bad_first ledger bytes pieces s head stands within same why =
    let rest = drop s.place bytes in
    inr (inr (
      omega (arith, stands.place, length-append copy_mark (chain first_link pieces)),
      stands.begun,
      record {
        pieces = pieces;
        valid = stands.valid;
        rest = rest;
        spelling = stands.spelling;
        place = stands.place;
        within = within;
        bad = gate rest same why;
      },
    ))
  where
    gate : (rest : List ℕ) → head ≡ take 11 rest → (length head ≡ 0) ⊎ ((s.first ≡ true) × (1 ≤ length head) × (get_or head 0 0 ≢ open_gate)) → IsBadGate pieces s.place rest
    gate [] same why = tt
    gate (g ∷ behind) same why =
        ⊎_elim
        (λ none. absurd (omega (arith, none, ap length same, length-take 11 (g ∷ behind))))
        (λ closed. inl (λ open_. closed.2 (ap (λ (l : List ℕ). get_or l 0 0) same ∙ open_), sym stands.first ∙ closed.0)) why

-- a copy that is begun and has the mark, before its first entry
pub read_first : (ledger bytes link : List ℕ) (s : Standing) → IsBegun bytes × HasMark bytes → s.place ≡ 9 → s.text ≡ 0 → s.link ≡ first_link → s.first ≡ true → s.in_ledger ≡ true → HasRead ledger bytes [] s
read_first ledger bytes link s begins place text zeros first has =
    let one : bytes ≡ open_gate ∷ drop 1 bytes = drop_more bytes 0 0 (omega (arith, begins.0.long)) ∙ ap (λ (n : ℕ). n ∷ drop 1 bytes) begins.0.gate in
    let rest : drop 1 bytes ≡ copy_mark ++ drop 9 bytes = rest_both bytes 1 8 9 (omega arith) ∙ ap (λ (l : List ℕ). l ++ drop 9 bytes) begins.1 in
    record {
      begun = begins.0;
      valid = tt;
      spelling =
          one ∙ ap (λ (l : List ℕ). open_gate ∷ l) (rest ∙ ap (λ (l : List ℕ). l ++ drop 9 bytes) (sym (append-nil copy_mark))) ∙ ap (λ (k : ℕ). copied [] ++ drop k bytes) (sym place);
      place = place;
      text = text;
      link = zeros;
      first = first;
      in_ledger = (λ _. ap (λ (k : ℕ). take k ledger) text, λ _. has);
    }

-- where an entry would end too far
pub bad_far : (ledger bytes : List ℕ) (pieces : List (List ℕ)) (s : Standing) (len : ℕ) → HasRead ledger bytes pieces s → s.place ≤ greatest_place → IsHead s.first (take 11 (drop s.place bytes)) len → greatest_place < s.place + 37 + len → IsBadCopyAt bytes s.place
bad_far ledger bytes pieces s len stands within head far =
    bad_entry ledger bytes pieces s stands within len (omega (arith, head.long)) head.gate
    (λ piece after entry.
    let size = entry_length pieces s.place (drop s.place bytes) piece after s.first len entry head in
    omega (arith, entry.within, size, far))

-- what is found over files that read the same
pub turn_as : (ledger bytes other file : List ℕ) (pieces : List (List ℕ)) (s : Standing) (turn : Turn) → other ≡ ledger → file ≡ bytes → (HasRead other file pieces s → IsTurn other file pieces s turn) → HasRead ledger bytes pieces s → IsTurn ledger bytes pieces s turn
turn_as ledger bytes other file pieces s turn one two found =
    subst (λ (l : List ℕ). HasRead ledger l pieces s → IsTurn ledger l pieces s turn) two (subst (λ (l : List ℕ). HasRead l file pieces s → IsTurn l file pieces s turn) one found)
