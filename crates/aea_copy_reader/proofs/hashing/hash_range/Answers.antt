use Rattle.std.proofs.Common.{rules, ◌+◌, ℕ, List, length, refl, sym, ap, subst, arith}
use Rattle.aea_disk.proofs.Frames.{reads_none, reads_both, reads_as}
use Rattle.aea_copy_reader.specs.Seen.{GoAlong}
use Rattle.aea_copy_reader.proofs.Seeing.{are_seen_over, along_none, along_both}
use Rattle.aea_copy_reader.proofs.Taking.{taken_none, taken_next}
use Rattle.aea_copy_reader.proofs.hashing.hash_range.Goals as goal

pub parts-init : goal.parts-init
parts-init g c =
    let old = (g.D.Disk.state c.args.disk.now).files in (
      omega arith,
      c.requires.seen,
      λ reveals. taken_none (old c.args.range.file) c.args.range.at c.args.hasher.now,
      λ reveals. along_none (old c.args.range.file) (old c.args.range.other) (old 0) c.args.range.at c.args.range.from c.args.along.now,
      reads_none g.D.Disk.reveals ⊥ (g.D.Disk.state c.args.disk.now) (λ none. none),
    )

pub hash_next-requires-clause-seen : goal.hash_next-requires-clause-seen
hash_next-requires-clause-seen g c = λ reveals.
    are_seen_over (g.D.Disk.state c.args.disk.now).files (g.D.Disk.state c.parts.disk).files c.args.range.file c.args.range.other c.parts.own c.parts.twin c.parts.ledger (c.parts.invariant.4.contents reveals) (c.parts.invariant.1 reveals)

pub returns-in_err-size-clause-reads : goal.returns-in_err-size-clause-reads
returns-in_err-size-clause-reads g c =
    reads_both g.D.Disk.reveals ⊥ _ (g.D.Disk.state c.args.disk.now) (g.D.Disk.state c.parts.disk) (g.D.Disk.state c.hash_next.new.disk) (λ none. none) c.parts.invariant.4
    (reads_as g.D.Disk.reveals _ _ _ _ (λ e. search rules) (λ e. search rules) c.in_err-size.ensures.reads)

pub returns-then-size-eq0-clause-reads : goal.returns-then-size-eq0-clause-reads
returns-then-size-eq0-clause-reads g c =
    reads_both g.D.Disk.reveals ⊥ _ (g.D.Disk.state c.args.disk.now) (g.D.Disk.state c.parts.disk) (g.D.Disk.state c.hash_next.new.disk) (λ none. none) c.parts.invariant.4
    (reads_as g.D.Disk.reveals _ _ _ _ (λ e. absurd (cc)) (λ e. absurd (cc)) c.in_ok-size.ensures.reads)

pub returns-then-size-eq0-clause-seen : goal.returns-then-size-eq0-clause-seen
returns-then-size-eq0-clause-seen g c = λ reveals.
    are_seen_over (g.D.Disk.state c.parts.disk).files (g.D.Disk.state c.args.disk.now).files c.args.range.file c.args.range.other _ _ _ (sym (c.parts.invariant.4.contents reveals)) (c.in_ok-size.ensures.seen reveals)

pub returns-then-size-eq0-clause-short : goal.returns-then-size-eq0-clause-short
returns-then-size-eq0-clause-short g c = λ _ reveals.
    let same = ap (λ (f : ℕ → List ℕ). length (f c.args.range.file)) (c.parts.invariant.4.contents reveals) in
    let end = c.in_ok-size.ensures.short c.if-size-eq0.true reveals in
    omega (arith, same, end, c.parts.invariant.0, c.if-done-range.false)

pub parts-preserved : goal.parts-preserved
parts-preserved g c =
    let old = (g.D.Disk.state c.args.disk.now).files in
    let mid = (g.D.Disk.state c.parts.disk).files in
    let e = c.in_ok-size.ensures in (
      omega (arith, e.bound, c.parts.invariant.0),
      λ reveals. are_seen_over mid old c.args.range.file c.args.range.other _ _ _ (sym (c.parts.invariant.4.contents reveals)) (e.seen reveals),
      λ reveals. taken_next (old c.args.range.file) (mid c.args.range.file) c.args.range.at c.parts.done c.in_ok-size.size c.in_ok-size.size c.args.hasher.now c.parts.hasher c.hash_next.new.hasher
          (ap (λ (f : ℕ → List ℕ). f c.args.range.file) (c.parts.invariant.4.contents reveals)) refl (c.parts.invariant.2 reveals) (e.taken reveals),
      λ reveals. along_both (old c.args.range.file) (old c.args.range.other) (old 0) c.args.range.at c.args.range.from c.parts.done c.in_ok-size.size c.args.along.now c.parts.along c.hash_next.new.along (c.parts.invariant.3 reveals)
          (subst (λ (f : ℕ → List ℕ). GoAlong (f c.args.range.file) (f c.args.range.other) (f 0) (c.args.range.at + c.parts.done) (c.args.range.from + c.parts.done) c.in_ok-size.size c.parts.along c.hash_next.new.along) (c.parts.invariant.4.contents reveals) (e.along reveals)),
      reads_both g.D.Disk.reveals ⊥ ⊥ (g.D.Disk.state c.args.disk.now) (g.D.Disk.state c.parts.disk) (g.D.Disk.state c.hash_next.new.disk) (λ none. none) c.parts.invariant.4
          (reads_as g.D.Disk.reveals _ ⊥ _ _ (λ none. absurd none) (λ none. absurd (cc)) e.reads),
    )
