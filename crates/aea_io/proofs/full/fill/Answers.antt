use Rattle.std.proofs.Common.{length, ◌≡◌, ◌-◌, ◌≤◌, take, drop, sym, ◌∙◌, subst, arith}
use Rattle.std.proofs.lemmas.List.{length-drop, length-take-le}
use Rattle.std.specs.Io.KnownBytes.{Consumes}
use Rattle.std.proofs.KnownBytes.{Consumes-trans}
use borrow.Rule.Slice.PartMut.{put_mid, same_len_mid}
use Rattle.aea_io.proofs.Pieces.{filled-more}
use Rattle.aea_io.proofs.full.fill.Goals as goal

pub loop-done-preserved : goal.loop-done-preserved
loop-done-preserved g c =
    let s = c.loop-done in
    let old = (g.S.Source.state c.args.source.now).left in
    let new = (g.S.Source.state c.read.new.self).left in
    let rest = length s.buf - s.done in
    let part : length (take rest (drop s.done s.buf)) ≡ rest = length-take-le rest (drop s.done s.buf) (omega (arith, length-drop s.done s.buf)) in
    let few : c.in-Ok.count ≤ length c.read.new.buf = c.in-Ok.ensures.bound.0 in
    let size : length c.read.new.buf ≡ rest = omega (arith, c.read.auto.buf, part) in
    let same : length (put_mid s.done rest s.buf c.read.new.buf) ≡ length s.buf = same_len_mid s.done rest s.buf c.read.new.buf (size ∙ sym part) in
    record {
      within = omega arith;
      long = same ∙ s.invariant.long;
      taken = subst (Consumes old new) (sym (filled-more s.buf c.read.new.buf s.done rest c.in-Ok.count s.invariant.within few))
          (Consumes-trans old _ new _ _ s.invariant.taken c.in-Ok.ensures.bytes.0);
      still = c.in-Ok.ensures.cause.still ∙ s.invariant.still;
      counted = omega (arith, s.invariant.counted);
    }
