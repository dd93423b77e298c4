use Rattle.std.proofs.Common.{rules, ℕ, List, sym, ◌∙◌, subst}
use Rattle.aea_disk.proofs.Frames.{reads_both, reads_as}
use Rattle.aea_copies.specs.Grammar.{IsBegun, HasMark, IsBadCopyAt}
use Rattle.aea_copy_reader.specs.Judging.{IsJudged}
use Rattle.aea_copy_reader.specs.Comparing.{IsCompared}
use Rattle.aea_copy_reader.proofs.Parting.{some_from, ok_from}
use Rattle.aea_copy_reader.proofs.Taking.{none_from}
use Rattle.aea_copy_reader.proofs.Seeing.{seen_over}
use Rattle.aea_copy_reader.proofs.judge.judge_copies.Goals as goal

pub begin-requires-clause-seen : goal.begin-requires-clause-seen
begin-requires-clause-seen g c = λ reveals. c.new-first.ensures ((g.D.Disk.state c.args.disk.now).files 65)

pub begin-requires-2-clause-seen : goal.begin-requires-2-clause-seen
begin-requires-2-clause-seen g c = λ reveals. c.new-second.ensures ((g.D.Disk.state c.begin.new.disk).files 66)

pub judge_begun-requires-clause-bad : goal.judge_begun-requires-clause-bad
judge_begun-requires-clause-bad g c =
    let one = c.in_ok-one.ensures in
    let two = c.in_ok-two.ensures in (
      some_from c.in_ok-one.one (λ at bad reveals. subst (λ (f : ℕ → List ℕ). IsBadCopyAt (f 65) at) (sym (two.reads.contents reveals ∙ one.reads.contents reveals)) (bad reveals)) one.bad,
      some_from c.in_ok-two.two (λ at bad reveals. subst (λ (f : ℕ → List ℕ). IsBadCopyAt (f 66) at) (sym (two.reads.contents reveals)) (bad reveals)) two.bad,
    )

pub judge_begun-requires-clause-good : goal.judge_begun-requires-clause-good
judge_begun-requires-clause-good g c =
    let one = c.in_ok-one.ensures in
    let two = c.in_ok-two.ensures in (
      none_from c.in_ok-one.one (λ good reveals. subst (λ (f : ℕ → List ℕ). IsBegun (f 65) × HasMark (f 65)) (sym (two.reads.contents reveals ∙ one.reads.contents reveals)) (good reveals)) one.good,
      none_from c.in_ok-two.two (λ good reveals. subst (λ (f : ℕ → List ℕ). IsBegun (f 66) × HasMark (f 66)) (sym (two.reads.contents reveals)) (good reveals)) two.good,
    )

pub judge_begun-requires-clause-seen : goal.judge_begun-requires-clause-seen
judge_begun-requires-clause-seen g c = λ reveals.
    let old = (g.D.Disk.state c.args.disk.now).files in
    let mid = (g.D.Disk.state c.begin.new.disk).files in
    let end = (g.D.Disk.state c.begin-2.new.disk).files in
    let one = c.in_ok-one.ensures in
    let two = c.in_ok-two.ensures in
    record {
      own = seen_over old end 65 _ (two.reads.contents reveals ∙ one.reads.contents reveals) (one.seen reveals);
      twin = seen_over mid end 66 _ (two.reads.contents reveals) (two.seen reveals);
      ledger = c.new-ledger.ensures (end 0);
    }

pub returns-in_err-two-clause-reads : goal.returns-in_err-two-clause-reads
returns-in_err-two-clause-reads g c =
    reads_both g.D.Disk.reveals ⊥ _ (g.D.Disk.state c.args.disk.now) (g.D.Disk.state c.begin.new.disk) (g.D.Disk.state c.begin-2.new.disk) (λ none. none)
    (reads_as g.D.Disk.reveals _ ⊥ _ _ (λ none. absurd none) (λ none. absurd (cc)) c.in_ok-one.ensures.reads)
    (reads_as g.D.Disk.reveals _ _ _ _ (λ e. search rules) (λ e. search rules) c.in_err-two.ensures.reads)

pub returns-clause-reads : goal.returns-clause-reads
returns-clause-reads g c =
    reads_both g.D.Disk.reveals ⊥ _ (g.D.Disk.state c.args.disk.now) (g.D.Disk.state c.begin.new.disk) (g.D.Disk.state c.judge_begun.new.disk) (λ none. none)
    (reads_as g.D.Disk.reveals _ ⊥ _ _ (λ none. absurd none) (λ none. absurd (cc)) c.in_ok-one.ensures.reads)
    (reads_both g.D.Disk.reveals ⊥ _ (g.D.Disk.state c.begin.new.disk) (g.D.Disk.state c.begin-2.new.disk) (g.D.Disk.state c.judge_begun.new.disk) (λ none. none)
    (reads_as g.D.Disk.reveals _ ⊥ _ _ (λ none. absurd none) (λ none. absurd (cc)) c.in_ok-two.ensures.reads)
    c.judge_begun.ensures.reads)

pub returns-clause-first : goal.returns-clause-first
returns-clause-first g c =
    ok_from c.judge_begun.result (λ j shown reveals. subst (λ (f : ℕ → List ℕ). IsJudged f 65 j.first) (c.in_ok-two.ensures.reads.contents reveals ∙ c.in_ok-one.ensures.reads.contents reveals) (shown reveals)) c.judge_begun.ensures.first

pub returns-clause-second : goal.returns-clause-second
returns-clause-second g c =
    ok_from c.judge_begun.result (λ j shown reveals. subst (λ (f : ℕ → List ℕ). IsJudged f 66 j.second) (c.in_ok-two.ensures.reads.contents reveals ∙ c.in_ok-one.ensures.reads.contents reveals) (shown reveals)) c.judge_begun.ensures.second

pub returns-clause-differ : goal.returns-clause-differ
returns-clause-differ g c =
    ok_from c.judge_begun.result (λ j shown reveals. subst (λ (f : ℕ → List ℕ). IsCompared f j) (c.in_ok-two.ensures.reads.contents reveals ∙ c.in_ok-one.ensures.reads.contents reveals) (shown reveals)) c.judge_begun.ensures.differ
