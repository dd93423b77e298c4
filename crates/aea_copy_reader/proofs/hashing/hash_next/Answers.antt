use Rattle.std.proofs.Common.{rules, ◌≡◌, ◌↔◌, ℕ, true, List, length, take, drop, sym, ◌∙◌, subst, arith}
use Rattle.aea_disk.proofs.Frames.{reads_both, reads_as}
use Rattle.aea_copy_reader.proofs.Seeing.{seen_there, seen_end, seen_over, along_next, taken_now}
use Rattle.aea_copy_reader.proofs.hashing.hash_next.Goals as goal

pub keeps-requires-clause-seen : goal.keeps-requires-clause-seen
keeps-requires-clause-seen g c = λ reveals.
    seen_over (g.D.Disk.state c.args.disk.now).files (g.D.Disk.state c.reach.new.disk).files c.args.range.other c.args.twin.now (c.in_ok-reach.ensures.reads.contents reveals) (c.requires.seen reveals).twin

pub keeps-requires-2-clause-seen : goal.keeps-requires-2-clause-seen
keeps-requires-2-clause-seen g c = λ reveals.
    seen_over (g.D.Disk.state c.args.disk.now).files (g.D.Disk.state c.keeps.new.disk).files 0 c.args.ledger.now (c.in_ok-same.ensures.reads.contents reveals ∙ c.in_ok-reach.ensures.reads.contents reveals) (c.requires.seen reveals).ledger

pub returns-in_err-same-clause-reads : goal.returns-in_err-same-clause-reads
returns-in_err-same-clause-reads g c =
    reads_both g.D.Disk.reveals ⊥ _ (g.D.Disk.state c.args.disk.now) (g.D.Disk.state c.reach.new.disk) (g.D.Disk.state c.keeps.new.disk) (λ none. none)
    (reads_as g.D.Disk.reveals _ ⊥ _ _ (λ none. absurd none) (λ none. absurd (cc)) c.in_ok-reach.ensures.reads)
    (reads_as g.D.Disk.reveals _ _ _ _ (λ e. search rules) (λ e. search rules) c.in_err-same.ensures.reads)

pub returns-in_err-in_ledger-clause-reads : goal.returns-in_err-in_ledger-clause-reads
returns-in_err-in_ledger-clause-reads g c =
    reads_both g.D.Disk.reveals ⊥ _ (g.D.Disk.state c.args.disk.now) (g.D.Disk.state c.reach.new.disk) (g.D.Disk.state c.keeps-2.new.disk) (λ none. none)
    (reads_as g.D.Disk.reveals _ ⊥ _ _ (λ none. absurd none) (λ none. absurd (cc)) c.in_ok-reach.ensures.reads)
    (reads_both g.D.Disk.reveals ⊥ _ (g.D.Disk.state c.reach.new.disk) (g.D.Disk.state c.keeps.new.disk) (g.D.Disk.state c.keeps-2.new.disk) (λ none. none)
    (reads_as g.D.Disk.reveals _ ⊥ _ _ (λ none. absurd none) (λ none. absurd (cc)) c.in_ok-same.ensures.reads)
    (reads_as g.D.Disk.reveals _ _ _ _ (λ e. search rules) (λ e. search rules) c.in_err-in_ledger.ensures.reads))

pub returns-clause-reads : goal.returns-clause-reads
returns-clause-reads g c =
    reads_both g.D.Disk.reveals ⊥ _ (g.D.Disk.state c.args.disk.now) (g.D.Disk.state c.reach.new.disk) (g.D.Disk.state c.keeps-2.new.disk) (λ none. none)
    (reads_as g.D.Disk.reveals _ ⊥ _ _ (λ none. absurd none) (λ none. absurd (cc)) c.in_ok-reach.ensures.reads)
    (reads_both g.D.Disk.reveals ⊥ _ (g.D.Disk.state c.reach.new.disk) (g.D.Disk.state c.keeps.new.disk) (g.D.Disk.state c.keeps-2.new.disk) (λ none. none)
    (reads_as g.D.Disk.reveals _ ⊥ _ _ (λ none. absurd none) (λ none. absurd (cc)) c.in_ok-same.ensures.reads)
    (reads_as g.D.Disk.reveals _ _ _ _ (λ e. absurd (cc)) (λ e. absurd (cc)) c.in_ok-in_ledger.ensures.reads))

pub returns-clause-seen : goal.returns-clause-seen
returns-clause-seen g c = λ reveals.
    let old = (g.D.Disk.state c.args.disk.now).files in
    let one = c.in_ok-reach.ensures.reads.contents reveals in
    let two = c.in_ok-same.ensures.reads.contents reveals ∙ one in
    record {
      own = c.in_ok-reach.ensures.seen reveals;
      twin = seen_over (g.D.Disk.state c.reach.new.disk).files old c.args.range.other _ (sym one) (c.in_ok-same.ensures.seen reveals);
      ledger = seen_over (g.D.Disk.state c.keeps.new.disk).files old 0 _ (sym two) (c.in_ok-in_ledger.ensures.seen reveals);
    }

pub returns-clause-taken : goal.returns-clause-taken
returns-clause-taken g c = λ reveals.
    let file = (g.D.Disk.state c.args.disk.now).files c.args.range.file in
    let e = c.in_ok-reach.ensures in
    taken_now file c.look-part.result.now c.args.range.at c.args.hasher.now c.update.new.self
    (seen_there file c.look-part.result.now c.reach.new.self c.args.range.at c.min.result (e.seen reveals) e.covers.from e.covers.within c.look-part.ensures.size c.look-part.ensures.part)
    c.are_bytes.ensures c.update.ensures

pub returns-clause-short : goal.returns-clause-short
returns-clause-short g c = λ none reveals.
    let file = (g.D.Disk.state c.args.disk.now).files c.args.range.file in
    let e = c.in_ok-reach.ensures in
    seen_end file c.reach.new.self c.args.range.at c.min.result (length c.look-part.result.now) (e.seen reveals) e.covers (omega (arith, c.min.ensures, c.requires.some)) c.look-part.ensures.size none

pub returns-clause-along : goal.returns-clause-along
returns-clause-along g c = λ reveals.
    let old = (g.D.Disk.state c.args.disk.now).files in
    let e = c.in_ok-reach.ensures in
    let part = c.look-part.result.now in
    let one = e.reads.contents reveals in
    let two = c.in_ok-same.ensures.reads.contents reveals ∙ one in
    along_next (old c.args.range.file) (old c.args.range.other) (old 0) part c.args.range.at c.args.range.from c.args.along.now _
    (seen_there (old c.args.range.file) part c.reach.new.self c.args.range.at c.min.result (e.seen reveals) e.covers.from e.covers.within c.look-part.ensures.size c.look-part.ensures.part)
    (subst (λ (f : ℕ → List ℕ). c.in_ok-same.same ≡ true ↔ ((c.args.along.now.same ≡ true) × (take (length part) (drop c.args.range.at (f c.args.range.other)) ≡ part))) one (c.in_ok-same.ensures.is reveals))
    (subst (λ (f : ℕ → List ℕ). c.in_ok-in_ledger.in_ledger ≡ true ↔ ((c.args.along.now.in_ledger ≡ true) × (take (length part) (drop c.args.range.from (f 0)) ≡ part))) two (c.in_ok-in_ledger.ensures.is reveals))
