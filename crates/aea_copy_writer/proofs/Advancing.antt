-- Entries that were written so far, and one more.
use Rattle.std.proofs.Common.{◌≡◌, ℕ, ◌+◌, ◌-◌, ◌<◌, ◌≤◌, Bool, true, false, eqb, ltb, List, [], ◌∷◌, ◌++◌, length, take, drop, refl, sym, ap, ◌∙◌, subst, arith}
use Rattle.std.proofs.lemmas.List.{append_assoc, append-nil, length-append, length-drop, drop_at, drop-take, drop-drop, drop-append-le, flat_map_more}
use Rattle.std.proofs.lemmas.Bool.{lt-ltb, le-ltb}
use Rattle.aea_disk.specs.Files.{Files, ChangesFile, Holds}
use Rattle.aea_records.specs.Format.{open_gate}
use Rattle.aea_copies.specs.Format.{link_after, last_link, copy_entry, chain, text_of}
use Rattle.aea_copies.proofs.Chains.{chain_push, last_link_push}
use Rattle.aea_copies.proofs.Entries.{length-entry}
use Rattle.aea_copy_writer.specs.declared.entries.Written.{Written}
use Rattle.aea_copy_writer.specs.declared.entries.Next.{Next}
use Rattle.aea_disk.specs.State.{State, Passes}
use Rattle.aea_copy_writer.specs.declared.entry.Piece.{Piece}
use Rattle.aea_copy_writer.specs.Pieces.{HasWhole}
use Rattle.aea_copy_writer.specs.Entries.{HasPieces, AreShaped, HasNext, HasWritten, IsOn, FitsEntries, FitsNext, gate_after, after_gate}
use Rattle.aea_copy_writer.proofs.Stretches.{fits_later}
use Rattle.aea_copy_writer.specs.Parts.{part_of, gate_byte}
use Rattle.aea_copy_writer.proofs.Pieces.{some_bytes, not_zero}
use Rattle.aea_copy_writer.proofs.Writing.{overwritten_none, change_then}

pub text_push : (pieces : List (List ℕ)) (piece : List ℕ) → text_of (pieces ++ piece ∷ []) ≡ text_of pieces ++ piece
text_push pieces piece = sym (flat_map_more (λ p. p) [] pieces piece)

-- after the first piece no other is first
pub rest_pieces : (at until : ℕ) (p : List ℕ) (ps : List (List ℕ)) (bytes : List ℕ) → HasPieces (eqb at 0) (p ∷ ps) at until bytes → HasPieces (eqb (at + length p) 0) ps (at + length p) until bytes
rest_pieces at until p ps bytes has =
    let some : 6 ≤ length p = some_bytes (eqb at 0) p has.shaped.0 in
    let no : eqb (at + length p) 0 ≡ false = not_zero (at + length p) (λ is. omega (arith, is, some)) in
    record {
      shaped = subst (λ (b : Bool). AreShaped b ps) (sym no) has.shaped.1;
      place = omega (arith, has.place, length-append p (text_of ps));
      there =
          ap (take (length (text_of ps))) (sym (drop-drop (length p) at bytes))
          ∙ sym (drop-take (length p) (length (text_of ps)) (drop at bytes))
          ∙ ap (λ (n : ℕ). drop (length p) (take n (drop at bytes))) (sym (length-append p (text_of ps)))
          ∙ ap (drop (length p)) has.there ∙ drop_at p (text_of ps) (length p) refl;
    }

-- where all is read, no pieces are left; and before that there is one
pub none_left : (first : Bool) (more : List (List ℕ)) (at until : ℕ) (bytes : List ℕ) → until ≤ at → HasPieces first more at until bytes → more ≡ []
none_left first [] at until bytes end has = refl
none_left first (p ∷ ps) at until bytes end has = absurd (omega (arith, end, has.place, length-append p (text_of ps), some_bytes first p has.shaped.0))

pub record OneMore (more : List (List ℕ)) : Type 0 where
  pub piece : List ℕ
  pub others : List (List ℕ)
  pub is : more ≡ piece ∷ others

pub one_left : (first : Bool) (more : List (List ℕ)) (at until : ℕ) (bytes : List ℕ) → at < until → HasPieces first more at until bytes → OneMore more
one_left first [] at until bytes less has = absurd (omega (arith, less, has.place))
one_left first (p ∷ ps) at until bytes less has = record { piece = p; others = ps; is = refl }

-- what was written before, and the entry after it
pub entries_push : (link : List ℕ) (done : List (List ℕ)) (p : List ℕ) (g : ℕ)
    → drop 1 (chain link done ++ open_gate ∷ []) ++ (drop 1 (copy_entry (last_link link done) p) ++ g ∷ []) ≡ drop 1 (chain link (done ++ p ∷ []) ++ g ∷ [])
entries_push link done p g =
    let front = chain link done ++ open_gate ∷ [] in
    let tail = drop 1 (copy_entry (last_link link done) p) in
    sym (drop-append-le 1 front (tail ++ g ∷ []) (omega (arith, length-append (chain link done) (open_gate ∷ []))))
    ∙ ap (drop 1)
    (append_assoc (chain link done) (open_gate ∷ []) (tail ++ g ∷ []) ∙ sym (append_assoc (chain link done) (copy_entry (last_link link done) p) (g ∷ []))
    ∙ ap (λ (l : List ℕ). l ++ g ∷ []) (sym (chain_push link done p)))

pub on_start : (file gate : ℕ) (link : List ℕ) (pieces : List (List ℕ)) (from until : ℕ) (last : Written) (c : Files) → gate + 1 ≤ length (c file) → last.gate ≡ gate → last.link ≡ link
    → HasPieces (eqb from 0) pieces from until (c 0) → IsOn file gate link pieces from until from last c c
on_start file gate link pieces from until last c within is linked has = record {
  done = [];
  more = pieces;
  split = refl;
  text = omega arith;
  place = omega (arith, is);
  linked = linked;
  step = record { here = sym (overwritten_none (c file) (gate + 1) within); others = λ f other. refl };
  rest = has;
}

-- one more
pub on_more : (file gate : ℕ) (link : List ℕ) (pieces : List (List ℕ)) (from until at : ℕ) (last : Written) (next : Next) (c d e : Files) (on : IsOn file gate link pieces from until at last c d) (p : List ℕ) (ps : List (List ℕ)) → 1 ≤ file → at < until
    → on.more ≡ p ∷ ps → HasNext file at until last p next d e → IsOn file gate link pieces from until next.at next.last c e
on_more file gate link pieces from until at last next c d e on p ps some less is has =
    let rest : HasPieces (eqb at 0) (p ∷ ps) at until (c 0) = subst (λ (l : List (List ℕ)). HasPieces (eqb at 0) l at until (c 0)) is on.rest in
    let gates : gate_after at until ≡ open_gate = ap gate_byte (less_true at until less) in
    let linked : last_link link on.done ≡ last.link = sym on.linked in
    let long : length (chain link (on.done ++ p ∷ [])) ≡ length (chain link on.done) + (37 + length p) =
    omega (arith, ap length (chain_push link on.done p), length-append (chain link on.done) (copy_entry (last_link link on.done) p), length-entry (last_link link on.done) p) in
    record {
      done = on.done ++ p ∷ [];
      more = ps;
      split = on.split ∙ ap (λ (l : List (List ℕ)). on.done ++ l) is ∙ sym (append_assoc on.done (p ∷ []) ps);
      text = omega (arith, has.begins, on.text, ap length (text_push on.done p), length-append (text_of on.done) p);
      place = omega (arith, has.gate, on.place, long);
      linked = has.link ∙ ap (λ (l : List ℕ). link_after l p) on.linked ∙ sym (last_link_push link on.done p);
      step = subst (λ (l : List ℕ). ChangesFile file (Holds (gate + 1) l) c e)
          (ap (λ (g : ℕ). drop 1 (chain link on.done ++ g ∷ []) ++ (drop 1 (copy_entry last.link p) ++ gate_after (at + length p) until ∷ [])) gates
          ∙ ap (λ (l : List ℕ). drop 1 (chain link on.done ++ open_gate ∷ []) ++ (drop 1 (copy_entry l p) ++ gate_after (at + length p) until ∷ [])) on.linked
          ∙ entries_push link on.done p (gate_after (at + length p) until)
          ∙ ap (λ (n : ℕ). drop 1 (chain link (on.done ++ p ∷ []) ++ gate_after n until ∷ [])) (sym has.begins))
          (change_then file (gate + 1) (last.gate + 1) (drop 1 (chain link on.done ++ gate_after at until ∷ [])) (drop 1 (copy_entry last.link p) ++ gate_after (at + length p) until ∷ []) c d e
          (omega (arith, on.place, length-drop 1 (chain link on.done ++ gate_after at until ∷ []), length-append (chain link on.done) (gate_after at until ∷ []))) on.step has.step);
      rest = subst (λ (n : ℕ). HasPieces (eqb n 0) ps n until (c 0)) (sym has.begins) (rest_pieces at until p ps (c 0) rest);
    }
  where
    less_true : (a b : ℕ) → a < b → ltb a b ≡ true
    less_true a b less = lt-ltb a b less

-- all
pub on_end : (file gate : ℕ) (link : List ℕ) (pieces : List (List ℕ)) (from until at : ℕ) (last : Written) (c d : Files) → until ≤ at → (on : IsOn file gate link pieces from until at last c d) → on.more ≡ [] → HasWritten file gate link pieces last c d
on_end file gate link pieces from until at last c d end on none =
    let all : pieces ≡ on.done = on.split ∙ ap (λ (l : List (List ℕ)). on.done ++ l) none ∙ append-nil on.done in
    record {
      place = on.place ∙ ap (λ (l : List (List ℕ)). gate + length (chain link l)) (sym all);
      last = on.linked ∙ ap (last_link link) (sym all);
      step = subst (λ (l : List ℕ). ChangesFile file (Holds (gate + 1) l) c d)
          (ap (λ (g : ℕ). drop 1 (chain link on.done ++ g ∷ [])) (ap gate_byte (not_less at until end)) ∙ ap (after_gate link) (sym all))
          on.step;
    }
  where
    not_less : (a b : ℕ) → b ≤ a → ltb a b ≡ false
    not_less a b le = le-ltb a b le

-- what is written of the next piece
pub next_has : (file at until : ℕ) (last : Written) (p link : List ℕ) (piece : Piece) (next : Next) (size : ℕ) (c d e : Files) → piece.at ≡ at → piece.len ≡ length p → size ≡ piece.len → piece.more ≡ ltb (at + size) until → d ≡ c
    → take (length p) (drop at (c 0)) ≡ p → next.at ≡ at + size → next.last.gate ≡ last.gate + 37 + size → next.last.link ≡ link → HasWhole file last piece link d e → HasNext file at until last p next c e
next_has file at until last p link piece next size c d e here long is more same there begins place linked has =
    let q = part_of (d 0) piece.at piece.len in
    let all : q ≡ p =
    ap (λ (f : Files). part_of (f 0) piece.at piece.len) same ∙ ap (λ (n : ℕ). part_of (c 0) n piece.len) here ∙ ap (part_of (c 0) at) long ∙ there in
    let gates : gate_byte piece.more ≡ gate_after (at + length p) until = ap gate_byte (more ∙ ap (λ (n : ℕ). ltb (at + n) until) (is ∙ long)) in
    record {
      begins = omega (arith, begins, is, long);
      gate = omega (arith, place, is, long);
      link = linked ∙ has.digest ∙ ap (link_after last.link) all;
      step = subst (λ (f : Files). ChangesFile file (Holds (last.gate + 1) (drop 1 (copy_entry last.link p) ++ gate_after (at + length p) until ∷ [])) f e) same
          (subst (λ (l : List ℕ). ChangesFile file (Holds (last.gate + 1) l) d e)
          (ap (λ (l : List ℕ). drop 1 (copy_entry last.link l) ++ gate_byte piece.more ∷ []) all ∙ ap (λ (g : ℕ). drop 1 (copy_entry last.link p) ++ g ∷ []) gates)
          has.step);
    }

-- how long entries are, and more after them
pub chain_more : (link : List ℕ) (done more : List (List ℕ)) → length (chain link (done ++ more)) ≡ length (chain link done) + length (chain (last_link link done) more)
chain_more link [] more = omega arith
chain_more link (p ∷ done) more =
    omega (arith, length-append (copy_entry link p) (chain (link_after link p) (done ++ more)), chain_more (link_after link p) done more, length-append (copy_entry link p) (chain (link_after link p) done))

-- the next entry ends before all do
pub on_fits : (file gate : ℕ) (link : List ℕ) (pieces : List (List ℕ)) (from until at : ℕ) (last : Written) (c d : Files) (on : IsOn file gate link pieces from until at last c d) (p : List ℕ) (ps : List (List ℕ)) → on.more ≡ p ∷ ps
    → last.gate + (37 + length p) ≤ gate + length (chain link pieces)
on_fits file gate link pieces from until at last c d on p ps is =
    let all : length (chain link pieces) ≡ length (chain link on.done) + length (chain (last_link link on.done) (p ∷ ps)) =
    ap (λ (l : List (List ℕ)). length (chain link l)) (on.split ∙ ap (λ (l : List (List ℕ)). on.done ++ l) is) ∙ chain_more link on.done (p ∷ ps) in
    omega (arith, all, on.place, length-append (copy_entry (last_link link on.done) p) (chain (link_after (last_link link on.done) p) ps), length-entry (last_link link on.done) p)

-- and there is space for it
pub next_fits : (old mid : State) (file gate : ℕ) (link : List ℕ) (from until at : ℕ) (last : Written) → ((f i j : ℕ) → i ≤ j → mid.room f j → mid.room f i) → 1 ≤ file → at < until
    → ((pieces : List (List ℕ)) → HasPieces (eqb from 0) pieces from until (old.files 0) → IsOn file gate link pieces from until at last old.files mid.files)
    → Passes old mid → FitsEntries old file gate link from until → FitsNext mid file at until last.gate
next_fits old mid file gate link from until at last smaller some less on passes fit =
    let here = on fit.pieces fit.has in
    let one = one_left (eqb at 0) here.more at until (old.files 0) less here.rest in
    let same : mid.files 0 ≡ old.files 0 = here.step.others 0 (λ (no : 0 ≡ file). omega (arith, no, some)) in
    record {
      piece = one.piece;
      others = one.others;
      has = subst (λ (l : List ℕ). HasPieces (eqb at 0) (one.piece ∷ one.others) at until l) (sym same) (subst (λ (l : List (List ℕ)). HasPieces (eqb at 0) l at until (old.files 0)) one.is here.rest);
      change = fits_later old mid file (gate + length (chain link fit.pieces) + 1) (last.gate + (37 + length one.piece) + 1) smaller
          (omega (arith, on_fits file gate link fit.pieces from until at last old.files mid.files here one.piece one.others one.is)) here.step.others passes fit.change;
    }
