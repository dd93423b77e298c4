-- Whole copies, and the pieces of a ledger by where its records end.
use Rattle.std.proofs.Common.{◌≡◌, ◌≢◌, ℕ, zero, suc, ◌+◌, ◌<◌, ◌≤◌, ◌^◌, Bool, true, false, List, [], ◌∷◌, ◌++◌, length, take, drop, get_or, refl, sym, ap, ◌∙◌, subst, arith}
use Rattle.std.proofs.lemmas.List.{length-append, append_assoc, append_cancel_left, take_at, take-append-drop, get_or-take, length-take, drop_more}
use Rattle.aea_disk.specs.Ends.{EndsAt, Reaches, copied_end, greatest_place}
use Rattle.aea_records.specs.Format.{open_gate}
use Rattle.aea_records.specs.TableLaws.{AreBytes}
use Rattle.aea_copies.specs.Format.{first_link, link_after, copy_entry, copy_mark, chain, text_of, whole_copy}
use Rattle.aea_copies.specs.Grammar.{is_first, ArePieces}
use Rattle.aea_copies.specs.Kept.{IsGood, HasText}
use Rattle.aea_copies.proofs.Agreeing.{entry_agrees, copied_split}
use Rattle.aea_copies.proofs.Ranges.{range_both}
use Rattle.aea_copy_writer.specs.Anew.{CanMake}
use Rattle.aea_copy_writer.specs.Entries.{AreShaped}
use Rattle.aea_copy_writer.specs.Parts.{part_of}
use Rattle.aea_mirror.specs.Ending.{reaches_le}
use Rattle.aea_mirror.specs.Guarding.{BeginsWith}
use Rattle.aea_mirror.specs.Starting.{ArePiecesOf, WholeCopiesAreGood}
use Rattle.aea_mirror.proofs.Leading.{reaches_near}
use Rattle.aea_mirror.proofs.Records.{All-left, All-right, length-copied, records_are_pieces, shaped_are_pieces, text_holds}

-- ---- whole copies

pub whole_copies_are_good : WholeCopiesAreGood
whole_copies_are_good pieces can = record { some = can.some; valid = can.valid; gate = 0; closed = λ e. omega (arith, e); after = []; spelling = refl; place = refl; within = can.within }

-- a chain that begins as another one does, and ends there, has the same pieces
same_chain : (first : Bool) (link : List ℕ) (ps qs : List (List ℕ)) (gate : ℕ) (after : List ℕ) → AreShaped first ps → ArePieces first qs → gate ≢ open_gate → chain link ps ++ 0 ∷ [] ≡ chain link qs ++ gate ∷ after → ps ≡ qs
same_chain first link [] [] gate after are others closed same = refl
same_chain first link [] (q ∷ qs) gate after are others closed same = let h : 0 ≡ open_gate = ap (λ (l : List ℕ). get_or l 0 0) same in absurd (omega (arith, h))
same_chain first link (p ∷ ps) [] gate after are others closed same = absurd (closed (sym (ap (λ (l : List ℕ). get_or l 0 0) same)))
same_chain first link (p ∷ ps) (q ∷ qs) gate after are others closed same =
    let both : copy_entry link p ++ (chain (link_after link p) ps ++ 0 ∷ []) ≡ copy_entry link q ++ (chain (link_after link q) qs ++ gate ∷ after) =
    sym (append_assoc (copy_entry link p) (chain (link_after link p) ps) (0 ∷ [])) ∙ same ∙ append_assoc (copy_entry link q) (chain (link_after link q) qs) (gate ∷ after) in
    let heads = entry_agrees link p q (chain (link_after link p) ps ++ 0 ∷ []) (chain (link_after link q) qs ++ gate ∷ after) are.0.short others.0.short both in
    let rest : chain (link_after link p) ps ++ 0 ∷ [] ≡ chain (link_after link p) qs ++ gate ∷ after = heads.1 ∙ ap (λ (l : List ℕ). chain (link_after link l) qs ++ gate ∷ after) (sym heads.0) in
    ap (λ (l : List ℕ). l ∷ ps) heads.0 ∙ ap (λ (l : List (List ℕ)). q ∷ l) (same_chain false (link_after link p) ps qs gate after are.1 others.1 closed rest)

-- a whole copy is a good one of its own pieces alone
pub whole_has_one : (pieces others : List (List ℕ)) → AreShaped true pieces → IsGood others (whole_copy pieces) → pieces ≡ others
whole_has_one pieces others are good =
    same_chain true first_link pieces others good.gate good.after are good.valid good.closed
    (append_cancel_left (open_gate ∷ copy_mark) (chain first_link pieces ++ 0 ∷ []) (chain first_link others ++ good.gate ∷ good.after)
    (sym (copied_split pieces (0 ∷ [])) ∙ good.spelling ∙ copied_split others (good.gate ∷ good.after)))

-- ---- the pieces of a ledger

-- the header of a ledger whose records end, and its records, as pieces
pub ledger_pieces : (ledger : List ℕ) (last : ℕ) (ends : EndsAt ledger last) → (pieces : List (List ℕ)) × CanMake pieces last ledger × (length pieces ≡ ends.records + 1)
ledger_pieces ledger last ends =
    let rest = records_are_pieces ledger 0 ends.records 17 last ends.reaches in
    let from = reaches_le ledger 0 ends.records 17 last ends.reaches in
    let there = ends.there in
    let head = take 17 ledger in
    let long : length head ≡ 17 = omega (arith, length-take 17 ledger, from, there) in
    let size = length-append head (text_of rest.0) in (
      head ∷ rest.0,
      record {
        has = record {
          shaped = (record { short = omega (arith, long); kind = record { long = long; gate = get_or-take 17 ledger 0 0 (omega arith) ∙ ends.header } }, rest.1.shaped);
          place = omega (arith, size, long, rest.1.place);
          there =
              ap (λ (k : ℕ). take k ledger) (size ∙ ap (λ (k : ℕ). k + length (text_of rest.0)) long) ∙ range_both ledger 0 17 (length (text_of rest.0))
              ∙ ap (λ (l : List ℕ). head ++ l) rest.1.there;
        };
        some = refl;
        within = omega (arith, length-copied (head ∷ rest.0), size, long, rest.1.place, rest.2, near ends.records ends.reaches);
      },
      omega (arith, rest.2),
    )
  where
    near : (k : ℕ) → Reaches ledger 0 k 17 last → copied_end (k + 1) last ≤ greatest_place
    near zero is = omega (arith, is)
    near (suc k) is = let end = reaches_near ledger 0 k 17 last is in omega (arith, end)

-- pieces that are bytes can be copied
shaped_are_all : (ps : List (List ℕ)) → is_first ps ≡ false → AreShaped true ps → AreBytes (text_of ps) → ArePieces true ps
shaped_are_all [] some shaped bytes = absurd (cc)
shaped_are_all (p ∷ ps) some shaped bytes =
    (record { bytes = All-left (λ (b : ℕ). b < 2 ^ 8) p (text_of ps) bytes; short = shaped.0.short; kind = shaped.0.kind }, shaped_are_pieces ps shaped.1 (All-right (λ (b : ℕ). b < 2 ^ 8) p (text_of ps) bytes))

pub pieces_are : (ledger : List ℕ) (last : ℕ) (pieces : List (List ℕ)) → EndsAt ledger last → CanMake pieces last ledger → AreBytes (part_of ledger 0 last) → ArePiecesOf ledger pieces
pieces_are ledger last pieces ends can bytes =
    let size : last ≡ length (text_of pieces) = omega (arith, can.has.place) in
    let front : take last ledger ≡ text_of pieces = ap (λ (k : ℕ). take k ledger) size ∙ can.has.there in
    record {
      can = record { some = can.some; valid = shaped_are_all pieces can.some can.has.shaped (subst AreBytes front bytes); within = can.within };
      text = record {
        gate = get_or ledger last 0;
        closed = ends.shut;
        after = drop (last + 1) ledger;
        spelling = sym (take-append-drop last ledger) ∙ ap (λ (l : List ℕ). l ++ drop last ledger) front ∙ ap (λ (l : List ℕ). text_of pieces ++ l) (drop_more ledger last 0 ends.there);
      };
    }

-- a text with a gate after it is the front of the bytes
pub text_begins : (text ledger : List ℕ) → HasText text ledger → BeginsWith text ledger
text_begins text ledger has = record {
  long = omega (arith, ap length has.spelling, length-append text (has.gate ∷ has.after));
  front = ap (take (length text)) has.spelling ∙ take_at text (has.gate ∷ has.after) (length text) refl;
}

pub text_shut : (text ledger : List ℕ) → HasText text ledger → get_or ledger (length text) 0 ≢ open_gate
text_shut text ledger has is =
    has.closed (sym (at_end text (has.gate ∷ has.after)) ∙ ap (λ (l : List ℕ). get_or l (length text) 0) (sym has.spelling) ∙ is)
  where
    at_end : (xs ys : List ℕ) → get_or (xs ++ ys) (length xs) 0 ≡ get_or ys 0 0
    at_end [] ys = refl
    at_end (x ∷ xs) ys = at_end xs ys

shaped_of : (first : Bool) (ps : List (List ℕ)) → ArePieces first ps → AreShaped first ps
shaped_of first [] are = tt
shaped_of first (p ∷ ps) are = (record { short = are.0.short; kind = are.0.kind }, shaped_of false ps are.1)

-- where the pieces of a ledger end, its records do, and a copy can have them
pub pieces_end : (ledger : List ℕ) (pieces : List (List ℕ)) → ArePiecesOf ledger pieces → EndsAt ledger (length (text_of pieces)) × CanMake pieces (length (text_of pieces)) ledger
pieces_end ledger pieces are =
    let begins = text_begins (text_of pieces) ledger are.text in
    let holds = text_holds pieces ledger are.can.some are.can.valid are.can.within begins in (
      record { header = holds.0.header; records = holds.0.records; reaches = holds.0.reaches; there = begins.long; shut = text_shut (text_of pieces) ledger are.text },
      record {
        has = record { shaped = shaped_of true pieces are.can.valid; place = omega arith; there = begins.front };
        some = are.can.some;
        within = are.can.within;
      },
    )
