use Rattle.std.proofs.Common.{◌≡◌, ◌+◌, ◌-◌, ◌≤◌, ◌<◌, ℕ, true, false, List, ◌∷◌, ◌++◌, length, drop, refl, sym, ap, ◌∙◌, subst, arith}
use Rattle.aea_disk.specs.Ends.{greatest_place}
use Rattle.aea_disk.specs.Files.{Files, ChangesFile, Holds, Torn}
use Rattle.aea_copies.specs.Grammar.{ArePieces}
use Rattle.aea_copy_writer.specs.declared.ledger.At.{At}
use Rattle.aea_disk.specs.Steps.{changes_none}
use Rattle.aea_disk.proofs.Frames.{writes_none, writes_as, writes_faulted, ok_fine}
use Rattle.aea_copies.specs.Format.{text_of, link_after, last_link, first_link, chain}
use Rattle.aea_copies.specs.Kept.{IsGood}
use Rattle.aea_copy_writer.specs.Changes.{KeepsFront, FitsChange}
use Rattle.aea_copy_writer.specs.Pieces.{IsFilled, IsTextAt}
use Rattle.aea_copy_writer.proofs.Filling.{next_there, next_near, fill_start, fill_more, piece_left, text_fits, all_done, text_some, fill_end}
use Rattle.aea_copy_writer.proofs.Pieces.{copy_some}
use Rattle.aea_copy_writer.proofs.Stretches.{then_more, front_none, front_same, front_torn}
use Rattle.aea_copy_writer.proofs.ledger.fill_ledger.Goals as goal

pub pieces-init : goal.pieces-init
pieces-init g c =
    let first = g.D.Disk.state c.args.disk.now in
    record {
      near = omega arith;
      until = omega arith;
      buffer = refl;
      some = λ revealed. omega (arith, ap length (c.requires.begun revealed));
      there = λ revealed. omega arith;
      on = λ revealed pieces good is. fill_start c.args.source pieces _ first.files refl refl (c.requires.begun revealed);
      writes = writes_none g.D.Disk.reveals first.free (FitsChange first 0 (c.args.until + 1)) (ChangesFile 0 (KeepsFront 1)) first (λ d. changes_none 0 (KeepsFront 1) d (front_none 1 (d 0)));
    }

-- what `move_piece` asks of the entry at the gate
record Asked (source until : ℕ) (at : At) (d : Files) (more : List (List ℕ)) : Type 0 where
  piece : List ℕ
  others : List (List ℕ)
  is : more ≡ piece ∷ others
  rest : List ℕ
  there : IsTextAt (d source) at piece rest
  few : at.text + length piece ≤ until
  near : at.place + (37 + length piece) ≤ greatest_place

entry_here : (source until : ℕ) (pieces : List (List ℕ)) (c d : Files) → 1 ≤ source → until ≡ length (text_of pieces) → IsGood pieces (c source) → (at : At) (on : IsFilled source pieces at c d) → at.text < until → Asked source until at d on.more
entry_here source until pieces c d some is good at on less =
    let good_there : IsGood (on.done ++ on.more) (d source) = subst (IsGood (on.done ++ on.more)) (sym (on.step.others source (λ (no : source ≡ 0). omega (arith, no, some)))) (subst (λ (l : List (List ℕ)). IsGood l (c source)) on.split good) in
    let all : until ≡ length (text_of (on.done ++ on.more)) = is ∙ ap (λ (l : List (List ℕ)). length (text_of l)) on.split in
    let one = piece_left on.done on.more at.text on.text (omega (arith, all, less)) in
    let here : IsGood (on.done ++ one.piece ∷ one.others) (d source) = subst (λ (l : List (List ℕ)). IsGood (on.done ++ l) (d source)) one.is good_there in
    let fits : length (text_of on.done) + length one.piece ≤ length (text_of (on.done ++ one.piece ∷ one.others)) = text_fits on.done one.piece one.others in
    record {
      piece = one.piece;
      others = one.others;
      is = one.is;
      rest = link_after (last_link first_link on.done) one.piece ++ (chain (link_after (last_link first_link on.done) one.piece) one.others ++ here.gate ∷ here.after);
      there = next_there (d source) on.done one.piece one.others at here on.place;
      few = omega (arith, all, on.text, fits, ap (λ (l : List (List ℕ)). length (text_of (on.done ++ l))) one.is);
      near = next_near (d source) on.done one.piece one.others at.place here on.place;
    }

pub returns-in_err-next-clause-writes : goal.returns-in_err-next-clause-writes
returns-in_err-next-clause-writes g c =
    let first = g.D.Disk.state c.args.disk.now in
    let second = g.D.Disk.state c.pieces.disk in
    let third = g.D.Disk.state c.move_piece.new.disk in
    then_more g.D.Disk.reveals ⊥ _ 0 (c.args.until + 1) (c.args.until + 1) (KeepsFront 1) (KeepsFront 1) (KeepsFront 1) first second third (λ none. none) (λ x y one. one) (λ x y z. front_same 1 x y z) (g.met.D.Disk.smaller_fits c.pieces.disk) (omega arith)
    c.pieces.invariant.writes (writes_faulted g.D.Disk.reveals second.free (FitsChange second 0 (c.args.until + 1)) _ _ (ChangesFile 0 (KeepsFront 1)) second third c.in_err-next.ensures.writes refl (cc))

pub returns-in_default-clause-writes : goal.returns-in_default-clause-writes
returns-in_default-clause-writes g c =
    let first = g.D.Disk.state c.args.disk.now in
    let second = g.D.Disk.state c.pieces.disk in
    let third = g.D.Disk.state c.move_piece.new.disk in
    then_more g.D.Disk.reveals ⊥ _ 0 (c.args.until + 1) (c.args.until + 1) (KeepsFront 1) (KeepsFront 1) (KeepsFront 1) first second third (λ none. none) (λ x y one. one) (λ x y z. front_same 1 x y z) (g.met.D.Disk.smaller_fits c.pieces.disk) (omega arith)
    c.pieces.invariant.writes c.in_ok-next.ensures.writes

pub returns-in_default-clause-filled : goal.returns-in_default-clause-filled
returns-in_default-clause-filled g c = λ revealed pieces good is.
    let first = g.D.Disk.state c.args.disk.now in
    let second = g.D.Disk.state c.pieces.disk in
    let on = c.pieces.invariant.on revealed pieces good is in
    let asked = entry_here c.args.source c.args.until pieces first.files second.files (copy_some c.args.source c.requires.source) is good c.pieces.at on c.pieces-test.true in
    let none = rw c.in_default.is at c.in_ok-next.ensures.moved in
    absurd (none revealed asked.piece asked.rest asked.there asked.few asked.near)

pub returns-then-until-eq0-clause-filled : goal.returns-then-until-eq0-clause-filled
returns-then-until-eq0-clause-filled g c = λ revealed pieces good is. absurd (omega (arith, is, c.if-until-eq0.true, text_some pieces good.valid good.some))

pub returns-then-until-eq0-clause-writes : goal.returns-then-until-eq0-clause-writes
returns-then-until-eq0-clause-writes g c =
    let first = g.D.Disk.state c.args.disk.now in
    let second = g.D.Disk.state c.pieces.disk in
    writes_as g.D.Disk.reveals first.free (FitsChange first 0 (c.args.until + 1)) ⊥ _ (ChangesFile 0 (KeepsFront 1)) first second (λ is. cc) (λ none. absurd none) c.pieces.invariant.writes

pub returns-in_err-write_through-clause-writes : goal.returns-in_err-write_through-clause-writes
returns-in_err-write_through-clause-writes g c =
    let first = g.D.Disk.state c.args.disk.now in
    let second = g.D.Disk.state c.pieces.disk in
    let third = g.D.Disk.state c.write_through.new.disk in
    then_more g.D.Disk.reveals ⊥ _ 0 (c.args.until + 1) (c.args.until + 1) (KeepsFront 1) (Torn c.args.until 1) (KeepsFront 1) first second third (λ none. none) (λ x y one. one)
    (λ x y z one two. front_same 1 x y z one (front_torn 1 c.args.until 1 y z (omega (arith, c.if-until-eq0.false)) two)) (g.met.D.Disk.smaller_fits c.pieces.disk) (omega arith)
    c.pieces.invariant.writes (writes_faulted g.D.Disk.reveals second.free (FitsChange second 0 (c.args.until + 1)) _ _ (ChangesFile 0 (Torn c.args.until 1)) second third c.in_err-write_through.ensures.writes refl (cc))

pub returns-clause-writes : goal.returns-clause-writes
returns-clause-writes g c =
    let first = g.D.Disk.state c.args.disk.now in
    let second = g.D.Disk.state c.pieces.disk in
    let third = g.D.Disk.state c.write_through.new.disk in
    then_more g.D.Disk.reveals ⊥ _ 0 (c.args.until + 1) (c.args.until + 1) (KeepsFront 1) (Torn c.args.until 1) (KeepsFront 1) first second third (λ none. none) (λ x y one. one)
    (λ x y z one two. front_same 1 x y z one (front_torn 1 c.args.until 1 y z (omega (arith, c.if-until-eq0.false)) two)) (g.met.D.Disk.smaller_fits c.pieces.disk) (omega arith)
    c.pieces.invariant.writes c.in_ok-write_through.ensures.writes

pub returns-clause-filled : goal.returns-clause-filled
returns-clause-filled g c = λ revealed pieces good is.
    let first = g.D.Disk.state c.args.disk.now in
    let second = g.D.Disk.state c.pieces.disk in
    let third = g.D.Disk.state c.write_through.new.disk in
    let on = c.pieces.invariant.on revealed pieces good is in
    let all : pieces ≡ on.done =
    on.split ∙ all_done on.done on.more c.pieces.at.text (subst (ArePieces true) on.split good.valid) on.text (omega (arith, c.pieces-test.false, is, ap (λ (l : List (List ℕ)). length (text_of l)) on.split)) in (
      refl,
      fill_end pieces c.args.until (first.files 0) (second.files 0) (third.files 0) (omega (arith, text_some pieces good.valid good.some)) is (c.requires.begun revealed)
          (subst (λ (l : List (List ℕ)). Holds 1 (drop 1 (text_of l)) (first.files 0) (second.files 0)) (sym all) on.step.here) (c.in_ok-write_through.ensures.written revealed).here,
    )

pub pieces-preserved : goal.pieces-preserved
pieces-preserved g c =
    let first = g.D.Disk.state c.args.disk.now in
    let second = g.D.Disk.state c.pieces.disk in
    let third = g.D.Disk.state c.move_piece.new.disk in
    let i = c.pieces.invariant in
    let on = rw c.in-Some.is at c.in_ok-next.ensures.on in
    let there = rw c.in-Some.is at c.in_ok-next.ensures.there in
    let moved = rw c.in-Some.is at c.in_ok-next.ensures.moved in
    record {
      near = on.2;
      until = on.1;
      buffer = c.in_ok-next.ensures.buffer;
      some = λ revealed. (there revealed).0;
      there = λ revealed. (there revealed).1;
      on = λ revealed pieces good is.
          let here = i.on revealed pieces good is in
          let asked = entry_here c.args.source c.args.until pieces first.files second.files (copy_some c.args.source c.requires.source) is good c.pieces.at here c.pieces-test.true in
          fill_more c.args.source pieces c.pieces.at c.in-Some.next first.files second.files third.files here asked.piece asked.others asked.is (moved revealed asked.piece asked.rest asked.there asked.few asked.near);
      writes = then_more g.D.Disk.reveals ⊥ ⊥ 0 (c.args.until + 1) (c.args.until + 1) (KeepsFront 1) (KeepsFront 1) (KeepsFront 1) first second third (λ none. none) (λ x y one. one) (λ x y z. front_same 1 x y z) (g.met.D.Disk.smaller_fits c.pieces.disk) (omega arith)
          i.writes
          (writes_as g.D.Disk.reveals second.free (FitsChange second 0 (c.args.until + 1)) _ ⊥ (ChangesFile 0 (KeepsFront 1)) second third (λ none. absurd none) (λ failed. absurd (ok_fine (c.in_ok-next.was) failed)) c.move_piece.ensures.writes);
    }
