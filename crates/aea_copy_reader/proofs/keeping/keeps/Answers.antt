use Rattle.std.proofs.Common.{rules, ◌≡◌, ◌+◌, ◌-◌, ℕ, List, length, take, drop, refl, sym, ap, ◌∙◌, subst, arith}
use Rattle.std.proofs.lemmas.List.{take_all, length-take, length-drop}
use Rattle.aea_disk.proofs.Frames.{reads_none, reads_both, reads_as}
use Rattle.aea_copy_reader.proofs.Seeing.{seen_over, other_later, same_later}
use Rattle.aea_copy_reader.proofs.keeping.keeps.Goals as goal

pub parts-init : goal.parts-init
parts-init g c = (omega arith, c.requires.seen, λ reveals. refl, reads_none g.D.Disk.reveals ⊥ (g.D.Disk.state c.args.disk.now) (λ none. none))

pub returns-then-not-had-clause-reads : goal.returns-then-not-had-clause-reads
returns-then-not-had-clause-reads g c = reads_none g.D.Disk.reveals _ (g.D.Disk.state c.args.disk.now) (λ is. cc)

pub next_kept-requires-clause-seen : goal.next_kept-requires-clause-seen
next_kept-requires-clause-seen g c = λ reveals.
    seen_over (g.D.Disk.state c.args.disk.now).files (g.D.Disk.state c.parts.disk).files c.args.file c.parts.window (c.parts.invariant.3.contents reveals) (c.parts.invariant.1 reveals)

pub returns-in_err-size-clause-reads : goal.returns-in_err-size-clause-reads
returns-in_err-size-clause-reads g c =
    reads_both g.D.Disk.reveals ⊥ _ (g.D.Disk.state c.args.disk.now) (g.D.Disk.state c.parts.disk) (g.D.Disk.state c.next_kept.new.disk) (λ none. none) c.parts.invariant.3
    (reads_as g.D.Disk.reveals _ _ _ _ (λ e. search rules) (λ e. search rules) c.in_err-size.ensures.reads)

pub returns-then-size-eq0-clause-reads : goal.returns-then-size-eq0-clause-reads
returns-then-size-eq0-clause-reads g c =
    reads_both g.D.Disk.reveals ⊥ _ (g.D.Disk.state c.args.disk.now) (g.D.Disk.state c.parts.disk) (g.D.Disk.state c.next_kept.new.disk) (λ none. none) c.parts.invariant.3
    (reads_as g.D.Disk.reveals _ _ _ _ (λ e. absurd (cc)) (λ e. absurd (cc)) c.in_ok-size.ensures.reads)

pub returns-then-size-eq0-clause-seen : goal.returns-then-size-eq0-clause-seen
returns-then-size-eq0-clause-seen g c = λ reveals.
    seen_over (g.D.Disk.state c.parts.disk).files (g.D.Disk.state c.args.disk.now).files c.args.file _ (sym (c.parts.invariant.3.contents reveals)) (c.in_ok-size.ensures.seen reveals)

pub returns-then-size-eq0-clause-is : goal.returns-then-size-eq0-clause-is
returns-then-size-eq0-clause-is g c = λ reveals.
    let old = (g.D.Disk.state c.args.disk.now).files c.args.file in
    let mid = (g.D.Disk.state c.parts.disk).files c.args.file in
    let same = ap (λ (f : ℕ → List ℕ). f c.args.file) (c.parts.invariant.3.contents reveals) in
    let rest = drop c.parts.done c.args.part.now in
    let is : take (length c.args.part.now - c.parts.done) rest ≡ rest = take_all (length c.args.part.now - c.parts.done) rest (omega (arith, length-drop c.parts.done c.args.part.now)) in
    let here = subst (λ (l : List ℕ). take (length l) (drop (c.args.at + c.parts.done) mid) ≡ l → ⊥) is (c.in_ok-size.ensures.none c.if-size-eq0.true reveals) in
    let other = subst (λ (l : List ℕ). take (length rest) (drop (c.args.at + c.parts.done) l) ≡ rest → ⊥) same here in
    (λ is. absurd (cc), λ both. absurd (other_later old c.args.part.now c.args.at c.parts.done (length c.args.part.now) refl (c.parts.invariant.2 reveals) c.parts.invariant.0 other both.1))

pub returns-then-done-part-clause-is : goal.returns-then-done-part-clause-is
returns-then-done-part-clause-is g c = λ reveals.
    let old = (g.D.Disk.state c.args.disk.now).files c.args.file in
    let done : c.parts.done ≡ length c.args.part.now = c.if-done-part.true in
    let whole : take (length c.args.part.now) (drop c.args.at old) ≡ c.args.part.now =
    subst (λ (k : ℕ). take k (drop c.args.at old) ≡ take k c.args.part.now) done (c.parts.invariant.2 reveals) ∙ take_all (length c.args.part.now) c.args.part.now (omega arith) in
    (λ is. (c.if-not-had.false, whole), λ both. refl)

pub parts-preserved : goal.parts-preserved
parts-preserved g c =
    let old = (g.D.Disk.state c.args.disk.now).files in
    let mid = (g.D.Disk.state c.parts.disk).files in
    let e = c.in_ok-size.ensures in (
      omega (arith, e.bound, length-take (length c.args.part.now - c.parts.done) (drop c.parts.done c.args.part.now), length-drop c.parts.done c.args.part.now, c.parts.invariant.0),
      λ reveals. seen_over mid old c.args.file _ (sym (c.parts.invariant.3.contents reveals)) (e.seen reveals),
      λ reveals.
          let rest = drop c.parts.done c.args.part.now in
          let is : take (length c.args.part.now - c.parts.done) rest ≡ rest = take_all (length c.args.part.now - c.parts.done) rest (omega (arith, length-drop c.parts.done c.args.part.now)) in
          let here = subst (λ (l : List ℕ). take c.in_ok-size.size (drop (c.args.at + c.parts.done) (mid c.args.file)) ≡ take c.in_ok-size.size l) is (e.kept reveals) in
          let more = subst (λ (f : ℕ → List ℕ). take c.in_ok-size.size (drop (c.args.at + c.parts.done) (f c.args.file)) ≡ take c.in_ok-size.size rest) (c.parts.invariant.3.contents reveals) here in
          same_later (old c.args.file) c.args.part.now c.args.at c.parts.done c.in_ok-size.size (c.parts.invariant.2 reveals) more,
      reads_both g.D.Disk.reveals ⊥ ⊥ (g.D.Disk.state c.args.disk.now) (g.D.Disk.state c.parts.disk) (g.D.Disk.state c.next_kept.new.disk) (λ none. none) c.parts.invariant.3
          (reads_as g.D.Disk.reveals _ ⊥ _ _ (λ none. absurd none) (λ none. absurd (cc)) e.reads),
    )
