use Rattle.std.proofs.Common.{◌≡◌, ◌+◌, ◌-◌, ℕ, eqb, List, ◌∷◌, refl, sym, subst, arith}
use Rattle.aea_disk.specs.Files.{ChangesFile}
use Rattle.aea_disk.specs.Steps.{changes_none}
use Rattle.aea_disk.proofs.Frames.{writes_none, writes_as, writes_faulted, ok_fine}
use Rattle.aea_records.specs.TableLaws.{AreBytes}
use Rattle.aea_copy_writer.specs.Changes.{KeepsFront}
use Rattle.aea_copy_writer.specs.Entries.{HasPieces, FitsEntries, FitsNext}
use Rattle.aea_copy_writer.specs.Parts.{part_of, IsThere}
use Rattle.aea_copy_writer.proofs.Stretches.{then_fits, front_none, front_same, front_less}
use Rattle.aea_copy_writer.proofs.Writing.{there_none, there_both}
use Rattle.aea_copy_writer.proofs.Advancing.{none_left, one_left, on_start, on_more, on_end, on_fits, next_fits}
use Rattle.aea_copy_writer.proofs.Pieces.{copy_some}
use Rattle.aea_copy_writer.proofs.entries.write_entries.Goals as goal

pub entries-init : goal.entries-init
entries-init g c =
    let first = g.D.Disk.state c.args.disk.now in
    let file = c.args.file in
    record {
      from = omega arith;
      until = c.requires.places.0;
      gate = omega arith;
      near = c.requires.gate;
      buffer = refl;
      there = λ revealed. subst (IsThere (first.files 0) c.args.from) (omega arith) (there_none (first.files 0) c.args.from);
      on = λ revealed pieces has. on_start file c.args.gate c.args.link.now pieces c.args.from c.args.until _ first.files (let there = c.requires.there revealed in omega (arith, there)) refl refl has;
      writes = writes_none g.D.Disk.reveals first.free (FitsEntries first file c.args.gate c.args.link.now c.args.from c.args.until) (ChangesFile file (KeepsFront (c.args.gate + 1))) first (λ d. changes_none file (KeepsFront (c.args.gate + 1)) d (front_none (c.args.gate + 1) (d file)));
    }

pub returns-in_err-next-clause-writes : goal.returns-in_err-next-clause-writes
returns-in_err-next-clause-writes g c =
    let reveals = g.D.Disk.reveals in
    let file = c.args.file in
    let gate = c.args.gate in
    let first = g.D.Disk.state c.args.disk.now in
    let second = g.D.Disk.state c.entries.disk in
    let third = g.D.Disk.state c.write_next.new.disk in
    let last = c.entries.last in
    let i = c.entries.invariant in
    then_fits reveals ⊥ _ (FitsEntries first file gate c.args.link.now c.args.from c.args.until) (FitsNext second file c.entries.at c.args.until last.gate) file (KeepsFront (gate + 1)) (KeepsFront (last.gate + 1)) (KeepsFront (gate + 1)) first second third
    (λ none. none) (λ x y one. one) (λ x y z one two. front_same (gate + 1) x y z one (front_less (gate + 1) (last.gate + 1) y z (omega (arith, i.gate)) two))
    (λ revealed fit step passes. next_fits first second file gate c.args.link.now c.args.from c.args.until c.entries.at last (g.met.D.Disk.smaller_fits c.entries.disk) (copy_some file c.requires.file) c.entries-test.true (i.on revealed) passes fit)
    i.writes (writes_faulted reveals second.free (FitsNext second file c.entries.at c.args.until last.gate) _ _ (ChangesFile file (KeepsFront (last.gate + 1))) second third c.in_err-next.ensures.writes refl (cc))

pub returns-in_default-clause-writes : goal.returns-in_default-clause-writes
returns-in_default-clause-writes g c =
    let reveals = g.D.Disk.reveals in
    let file = c.args.file in
    let gate = c.args.gate in
    let first = g.D.Disk.state c.args.disk.now in
    let second = g.D.Disk.state c.entries.disk in
    let third = g.D.Disk.state c.write_next.new.disk in
    let last = c.entries.last in
    let i = c.entries.invariant in
    then_fits reveals ⊥ _ (FitsEntries first file gate c.args.link.now c.args.from c.args.until) (FitsNext second file c.entries.at c.args.until last.gate) file (KeepsFront (gate + 1)) (KeepsFront (last.gate + 1)) (KeepsFront (gate + 1)) first second third
    (λ none. none) (λ x y one. one) (λ x y z one two. front_same (gate + 1) x y z one (front_less (gate + 1) (last.gate + 1) y z (omega (arith, i.gate)) two))
    (λ revealed fit step passes. next_fits first second file gate c.args.link.now c.args.from c.args.until c.entries.at last (g.met.D.Disk.smaller_fits c.entries.disk) (copy_some file c.requires.file) c.entries-test.true (i.on revealed) passes fit)
    i.writes c.in_ok-next.ensures.writes

pub returns-in_default-clause-written : goal.returns-in_default-clause-written
returns-in_default-clause-written g c = λ revealed pieces has fits.
    let file = c.args.file in
    let first = g.D.Disk.state c.args.disk.now in
    let second = g.D.Disk.state c.entries.disk in
    let at = c.entries.at in
    let on = c.entries.invariant.on revealed pieces has in
    let one = one_left (eqb at 0) on.more at c.args.until (first.files 0) c.entries-test.true on.rest in
    let same : second.files 0 ≡ first.files 0 = on.step.others 0 (λ (no : 0 ≡ file). omega (arith, no, copy_some file c.requires.file)) in
    let there : HasPieces (eqb at 0) (one.piece ∷ one.others) at c.args.until (second.files 0) =
    subst (λ (l : List ℕ). HasPieces (eqb at 0) (one.piece ∷ one.others) at c.args.until l) (sym same) (subst (λ (l : List (List ℕ)). HasPieces (eqb at 0) l at c.args.until (first.files 0)) one.is on.rest) in
    let none = rw c.in_default.is at c.in_ok-next.ensures.next in
    let ends = on_fits file c.args.gate c.args.link.now pieces c.args.from c.args.until at c.entries.last first.files second.files on one.piece one.others one.is in
    none revealed one.piece one.others there (omega (arith, ends, fits))

pub returns-clause-written : goal.returns-clause-written
returns-clause-written g c = λ revealed pieces has fits.
    let first = g.D.Disk.state c.args.disk.now in
    let second = g.D.Disk.state c.entries.disk in
    let on = c.entries.invariant.on revealed pieces has in
    on_end c.args.file c.args.gate c.args.link.now pieces c.args.from c.args.until c.entries.at c.entries.last first.files second.files c.entries-test.false on
    (none_left (eqb c.entries.at 0) on.more c.entries.at c.args.until (first.files 0) c.entries-test.false on.rest)

pub returns-clause-bytes : goal.returns-clause-bytes
returns-clause-bytes g c = λ revealed.
    let all : c.entries.at - c.args.from ≡ c.args.until - c.args.from = omega (arith, c.entries-test.false, c.entries.invariant.until) in
    subst (λ (n : ℕ). AreBytes (part_of ((g.D.Disk.state c.args.disk.now).files 0) c.args.from n)) all (c.entries.invariant.there revealed).are

pub returns-clause-writes : goal.returns-clause-writes
returns-clause-writes g c =
    let file = c.args.file in
    let first = g.D.Disk.state c.args.disk.now in
    let second = g.D.Disk.state c.entries.disk in
    writes_as g.D.Disk.reveals first.free (FitsEntries first file c.args.gate c.args.link.now c.args.from c.args.until) ⊥ _ (ChangesFile file (KeepsFront (c.args.gate + 1))) first second (λ is. cc) (λ none. absurd none) c.entries.invariant.writes

pub entries-preserved : goal.entries-preserved
entries-preserved g c =
    let reveals = g.D.Disk.reveals in
    let file = c.args.file in
    let gate = c.args.gate in
    let link = c.args.link.now in
    let first = g.D.Disk.state c.args.disk.now in
    let second = g.D.Disk.state c.entries.disk in
    let third = g.D.Disk.state c.write_next.new.disk in
    let at = c.entries.at in
    let last = c.entries.last in
    let next = c.in-Some.next in
    let i = c.entries.invariant in
    let some = copy_some file c.requires.file in
    let on = rw c.in-Some.is at c.in_ok-next.ensures.on in
    let there = rw c.in-Some.is at c.in_ok-next.ensures.there in
    let buffer = rw c.in-Some.is at c.in_ok-next.ensures.buffer in
    let has = rw c.in-Some.is at c.in_ok-next.ensures.next in
    record {
      from = omega (arith, i.from, on);
      until = on.1;
      gate = omega (arith, i.gate, on);
      near = on.3;
      buffer = buffer;
      there = λ revealed.
          subst (IsThere (first.files 0) c.args.from) (omega (arith, i.from, on))
          (there_both (first.files 0) c.args.from (at - c.args.from) (next.at - at) at (omega (arith, i.from)) (i.there revealed)
          (subst (λ (l : List ℕ). IsThere l at (next.at - at)) ((i.writes.contents revealed).others 0 (λ (no : 0 ≡ file). omega (arith, no, some))) (there revealed)));
      on = λ revealed pieces whole.
          let here = i.on revealed pieces whole in
          let one = one_left (eqb at 0) here.more at c.args.until (first.files 0) c.entries-test.true here.rest in
          let same : second.files 0 ≡ first.files 0 = here.step.others 0 (λ (no : 0 ≡ file). omega (arith, no, some)) in
          let rest : HasPieces (eqb at 0) (one.piece ∷ one.others) at c.args.until (second.files 0) =
          subst (λ (l : List ℕ). HasPieces (eqb at 0) (one.piece ∷ one.others) at c.args.until l) (sym same) (subst (λ (l : List (List ℕ)). HasPieces (eqb at 0) l at c.args.until (first.files 0)) one.is here.rest) in
          on_more file gate link pieces c.args.from c.args.until at last next first.files second.files third.files here one.piece one.others some c.entries-test.true one.is (has revealed one.piece one.others rest);
      writes = then_fits reveals ⊥ ⊥ (FitsEntries first file gate link c.args.from c.args.until) (FitsNext second file at c.args.until last.gate) file (KeepsFront (gate + 1)) (KeepsFront (last.gate + 1)) (KeepsFront (gate + 1)) first second third
          (λ none. none) (λ x y one. one) (λ x y z one two. front_same (gate + 1) x y z one (front_less (gate + 1) (last.gate + 1) y z (omega (arith, i.gate)) two))
          (λ revealed fit step passes. next_fits first second file gate link c.args.from c.args.until at last (g.met.D.Disk.smaller_fits c.entries.disk) some c.entries-test.true (i.on revealed) passes fit)
          i.writes
          (writes_as reveals second.free (FitsNext second file at c.args.until last.gate) _ ⊥ (ChangesFile file (KeepsFront (last.gate + 1))) second third (λ none. absurd none) (λ failed. absurd (ok_fine (c.in_ok-next.was) failed)) c.write_next.ensures.writes);
    }
