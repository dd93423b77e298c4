-- The records of a ledger as pieces of a copy, and the pieces of a text as records.
use Rattle.std.proofs.Common.{◌≡◌, ℕ, zero, suc, ◌+◌, ◌-◌, ◌*◌, ◌<◌, ◌≤◌, ◌^◌, true, false, List, [], ◌∷◌, ◌++◌, length, take, drop, get_or, All, refl, sym, ap, ◌∙◌, subst, arith}
use Rattle.std.specs.Int.{w32, from_be_bytes}
use Rattle.std.proofs.lemmas.List.{length-append, length-take, length-drop, take-take, drop-drop, drop-take, get_or-drop, get_or-take, take_at, drop_at}
use Rattle.std.proofs.lemmas.List.Elements.{All-nil, All-cons, All-head, All-tail}
use Rattle.aea_disk.specs.Ends.{Reaches, IsWhole, behind, number_at, copied_end, greatest_place}
use Rattle.aea_records.specs.TableLaws.{AreBytes}
use Rattle.aea_copies.specs.Format.{link_after, copy_entry, copy_mark, first_link, chain, copied, text_of}
use Rattle.aea_copies.specs.Grammar.{IsPiece, ArePieces, is_first}
use Rattle.aea_copies.proofs.Entries.{length-entry}
use Rattle.aea_copies.proofs.Ranges.{range_both}
use Rattle.aea_copy_writer.specs.Entries.{IsShaped, AreShaped, HasPieces}
use Rattle.aea_mirror.specs.Guarding.{BeginsWith}
use Rattle.aea_mirror.specs.Mirrored.{HoldsText}

-- ---- how long copies are

-- a chain has 37 bytes for each piece, and the text
pub length-chain : (link : List ℕ) (ps : List (List ℕ)) → length (chain link ps) ≡ 37 * length ps + length (text_of ps)
length-chain link [] = omega arith
length-chain link (p ∷ ps) = omega (arith, length-append (copy_entry link p) (chain (link_after link p) ps), length-entry link p, length-chain (link_after link p) ps, length-append p (text_of ps))

pub length-copied : (ps : List (List ℕ)) → length (copied ps) ≡ copied_end (length ps) (length (text_of ps))
length-copied ps = omega (arith, length-append copy_mark (chain first_link ps), mark, length-chain first_link ps)
  where
    mark : length copy_mark ≡ 8
    mark = refl

-- ---- records as pieces

-- the record at a gate, as a piece
record IsRecordAt (bytes : List ℕ) (at : ℕ) (piece : List ℕ) : Type 0 where
  shaped : IsShaped false piece
  size : behind bytes at ≡ at + length piece
  there : take (length piece) (drop at bytes) ≡ piece

record_at : (bytes : List ℕ) (before at : ℕ) → IsWhole bytes before at → IsRecordAt bytes at (take (6 + number_at bytes (at + 2)) (drop at bytes))
record_at bytes before at whole =
    let n = 6 + number_at bytes (at + 2) in
    let rest = drop at bytes in
    let long : length (take n rest) ≡ n = omega (arith, length-take n rest, length-drop at bytes, whole.followed) in
    let number : take 4 (drop 2 (take n rest)) ≡ take 4 (drop (at + 2) bytes) =
    ap (take 4) (ap (λ (k : ℕ). drop 2 (take k rest)) (let e : n ≡ 2 + (n - 2) = omega arith in e) ∙ drop-take 2 (n - 2) rest) ∙ take-take 4 (n - 2) (drop 2 rest) (omega arith) ∙ ap (take 4) (drop-drop 2 at bytes) in
    record {
      shaped = record {
        short = omega (arith, long, whole.short);
        kind = record {
          long = omega (arith, long);
          gate = get_or-take n rest 0 0 (omega arith) ∙ get_or-drop at bytes 0 0 ∙ ap (λ (k : ℕ). get_or bytes k 0) (let e : at + 0 ≡ at = omega arith in e) ∙ whole.opened;
          size = ap (λ (l : List ℕ). from_be_bytes w32 l + 6) number ∙ omega (arith, long);
        };
      };
      size = omega (arith, long);
      there = ap (λ (k : ℕ). take k rest) long;
    }

-- so many records from one place up to another are as many pieces
pub records_are_pieces : (bytes : List ℕ) (before more from last : ℕ) → Reaches bytes before more from last → (ps : List (List ℕ)) × HasPieces false ps from last bytes × (length ps ≡ more)
records_are_pieces bytes before zero from last is = ([], record { shaped = tt; place = omega (arith, is); there = refl }, refl)
records_are_pieces bytes before (suc more) from last is =
    let piece = take (6 + number_at bytes (from + 2)) (drop from bytes) in
    let one = record_at bytes before from is.0 in
    let rest = records_are_pieces bytes (suc before) more (behind bytes from) last is.1 in (
      piece ∷ rest.0,
      record {
        shaped = (one.shaped, rest.1.shaped);
        place = omega (arith, rest.1.place, one.size, length-append piece (text_of rest.0));
        there =
            ap (λ (k : ℕ). take k (drop from bytes)) (length-append piece (text_of rest.0)) ∙ range_both bytes from (length piece) (length (text_of rest.0))
            ∙ ap (λ (l : List ℕ). l ++ take (length (text_of rest.0)) (drop (from + length piece) bytes)) one.there
            ∙ ap (λ (k : ℕ). piece ++ take (length (text_of rest.0)) (drop k bytes)) (sym one.size) ∙ ap (λ (l : List ℕ). piece ++ l) rest.1.there;
      },
      ap suc rest.2,
    )

-- what holds of all of two lists, one after the other, holds of all of each
pub All-left : (P : ℕ → Type 0) (xs ys : List ℕ) → All P (xs ++ ys) → All P xs
All-left P [] ys all = All-nil P
All-left P (x ∷ xs) ys all = All-cons P x xs (All-head P x (xs ++ ys) all) (All-left P xs ys (All-tail P x (xs ++ ys) all))

pub All-right : (P : ℕ → Type 0) (xs ys : List ℕ) → All P (xs ++ ys) → All P ys
All-right P [] ys all = all
All-right P (x ∷ xs) ys all = All-right P xs ys (All-tail P x (xs ++ ys) all)

-- pieces of records that are bytes are pieces of a copy
pub shaped_are_pieces : (ps : List (List ℕ)) → AreShaped false ps → AreBytes (text_of ps) → ArePieces false ps
shaped_are_pieces [] shaped bytes = tt
shaped_are_pieces (p ∷ ps) shaped bytes =
    (record { bytes = All-left (λ (b : ℕ). b < 2 ^ 8) p (text_of ps) bytes; short = shaped.0.short; kind = shaped.0.kind }, shaped_are_pieces ps shaped.1 (All-right (λ (b : ℕ). b < 2 ^ 8) p (text_of ps) bytes))

-- ---- pieces as records

-- where a record's piece is, a whole record is, if a byte follows it and its entry of the copy ends in time
whole_at : (bytes : List ℕ) (before at : ℕ) (piece : List ℕ) → IsPiece false piece → take (length piece) (drop at bytes) ≡ piece → at + length piece < length bytes → copied_end (before + 2) (at + length piece) ≤ greatest_place
    → IsWhole bytes before at × (behind bytes at ≡ at + length piece)
whole_at bytes before at piece is there more near =
    let kind = is.kind in
    let long = kind.long in
    let number : take 4 (drop (at + 2) bytes) ≡ take 4 (drop 2 piece) =
    ap (take 4) (sym (drop-drop 2 at bytes)) ∙ sym (take-take 4 (length piece - 2) (drop 2 (drop at bytes)) (omega (arith, long)))
    ∙ ap (take 4) (sym (drop-take 2 (length piece - 2) (drop at bytes)) ∙ ap (λ (k : ℕ). drop 2 (take k (drop at bytes))) (let e : 2 + (length piece - 2) ≡ length piece = omega (arith, long) in e) ∙ ap (drop 2) there) in
    let count : number_at bytes (at + 2) + 6 ≡ length piece = ap (λ (l : List ℕ). from_be_bytes w32 l + 6) number ∙ kind.size in
    let end : behind bytes at ≡ at + length piece = omega (arith, count) in (
      record {
        opened = ap (λ (k : ℕ). get_or bytes k 0) (let e : at ≡ at + 0 = omega arith in e) ∙ sym (get_or-drop at bytes 0 0) ∙ sym (get_or-take (length piece) (drop at bytes) 0 0 (omega (arith, long))) ∙ ap (λ (l : List ℕ). get_or l 0 0) there ∙ kind.gate;
        short = omega (arith, count, is.short);
        followed = omega (arith, end, more);
        near = subst (λ (n : ℕ). copied_end (before + 2) n ≤ greatest_place) (sym end) near;
      },
      end,
    )

-- pieces of records, one after the other, are as many records
pieces_reach : (bytes : List ℕ) (ps : List (List ℕ)) (before from : ℕ) → ArePieces false ps → take (length (text_of ps)) (drop from bytes) ≡ text_of ps → from + length (text_of ps) < length bytes
    → copied_end (before + 1 + length ps) (from + length (text_of ps)) ≤ greatest_place → Reaches bytes before (length ps) from (from + length (text_of ps))
pieces_reach bytes [] before from are there more near = omega arith
pieces_reach bytes (p ∷ ps) before from are there more near =
    let size = length-append p (text_of ps) in
    let both : take (length p) (drop from bytes) ++ take (length (text_of ps)) (drop (from + length p) bytes) ≡ p ++ text_of ps =
    sym (range_both bytes from (length p) (length (text_of ps))) ∙ ap (λ (k : ℕ). take k (drop from bytes)) (sym size) ∙ there in
    let fits : length (take (length p) (drop from bytes)) ≡ length p = omega (arith, length-take (length p) (drop from bytes), length-drop from bytes, more, size) in
    let here : take (length p) (drop from bytes) ≡ p = sym (take_at (take (length p) (drop from bytes)) (take (length (text_of ps)) (drop (from + length p) bytes)) (length p) fits) ∙ ap (take (length p)) both ∙ take_at p (text_of ps) (length p) refl in
    let rest : take (length (text_of ps)) (drop (from + length p) bytes) ≡ text_of ps =
    sym (drop_at (take (length p) (drop from bytes)) (take (length (text_of ps)) (drop (from + length p) bytes)) (length p) fits) ∙ ap (drop (length p)) both ∙ drop_at p (text_of ps) (length p) refl in
    let whole = whole_at bytes before from p are.0 here (omega (arith, more, size)) (omega (arith, near, size)) in
    let on = pieces_reach bytes ps (suc before) (from + length p) are.1 rest (omega (arith, more, size)) (omega (arith, near, size)) in (
      whole.0,
      subst (λ (g : ℕ). Reaches bytes (suc before) (length ps) g (from + length (p ++ text_of ps))) (sym whole.1)
          (subst (Reaches bytes (suc before) (length ps) (from + length p)) (omega (arith, size)) on),
    )

-- how many records are in a list of pieces, of which the first is the header
abbrev pub records_in : List (List ℕ) → ℕ
records_in ps = length ps - 1

-- A ledger that begins with the text of pieces holds it: the records of the pieces lead to its end.
pub text_holds : (pieces : List (List ℕ)) (ledger : List ℕ) → is_first pieces ≡ false → ArePieces true pieces → length (copied pieces) ≤ greatest_place → BeginsWith (text_of pieces) ledger
    → (h : HoldsText (length (text_of pieces)) ledger) × (h.records ≡ records_in pieces)
text_holds [] ledger some are within begins = absurd (cc)
text_holds (p ∷ ps) ledger some are within begins =
    let size = length-append p (text_of ps) in
    let header = are.0.kind in
    let seventeen : length p ≡ 17 = header.long in
    let long = begins.long in
    let whole : take (length p + length (text_of ps)) ledger ≡ p ++ text_of ps = ap (λ (k : ℕ). take k ledger) (sym size) ∙ begins.front in
    let front : take (length p) ledger ≡ p =
    sym (take-take (length p) (length p + length (text_of ps)) ledger (omega arith)) ∙ ap (take (length p)) whole ∙ take_at p (text_of ps) (length p) refl in
    let rest : take (length (text_of ps)) (drop 17 ledger) ≡ text_of ps =
    ap (λ (k : ℕ). take (length (text_of ps)) (drop k ledger)) (sym seventeen) ∙ sym (drop-take (length p) (length (text_of ps)) ledger) ∙ ap (drop (length p)) whole ∙ drop_at p (text_of ps) (length p) refl in
    let near : copied_end (0 + 1 + length ps) (17 + length (text_of ps)) ≤ greatest_place = omega (arith, within, length-copied (p ∷ ps), size, seventeen) in
    let reaches = pieces_reach ledger ps 0 17 are.1 rest (omega (arith, long, size, seventeen)) near in (
      record {
        header = sym (get_or-take (length p) ledger 0 0 (omega (arith, seventeen))) ∙ ap (λ (l : List ℕ). get_or l 0 0) front ∙ header.gate;
        long = omega (arith, long, size, seventeen);
        from = omega (arith, size, seventeen);
        records = length ps;
        reaches = subst (Reaches ledger 0 (length ps) 17) (omega (arith, size, seventeen)) reaches;
        there = long;
      },
      omega arith,
    )
