use Rattle.std.proofs.Common.{rules, ℕ, List, [], refl, sym, ◌∙◌, subst}
use Rattle.aea_disk.proofs.Frames.{reads_both, reads_as}
use Rattle.aea_copy_reader.specs.Judging.{HasRead, IsJudged}
use Rattle.aea_copy_reader.specs.Comparing.{IsComparedAs}
use Rattle.aea_copy_reader.specs.Walking.{HaveCommon}
use Rattle.aea_copy_reader.proofs.Seeing.{swapped_over}
use Rattle.aea_copy_reader.proofs.Turns.{read_first}
use Rattle.aea_copy_reader.proofs.judge.judge_both.Goals as goal

pub walk-requires-clause-read : goal.walk-requires-clause-read
walk-requires-clause-read g c = λ reveals.
    let b = c.beginning.ensures in
    let old = (g.D.Disk.state c.args.disk.now).files in
    ([], read_first (old 0) (old 65) [] c.beginning.result (c.requires.begun reveals).0 b.place.0 b.place.1 b.none.0 b.none.1 b.none.2)

-- what both have in common
pub walk-requires-2-clause-read : goal.walk-requires-2-clause-read
walk-requires-2-clause-read g c = λ reveals.
    let b = c.beginning.ensures in
    let old = (g.D.Disk.state c.args.disk.now).files in
    let all = c.in_ok-walked.ensures.reads.contents reveals in
    let one = read_first (old 0) (old 65) [] c.beginning.result (c.requires.begun reveals).0 b.place.0 b.place.1 b.none.0 b.none.1 b.none.2 in
    let two = read_first (old 0) (old 66) [] c.beginning.result (c.requires.begun reveals).1 b.place.0 b.place.1 b.none.0 b.none.1 b.none.2 in
    let common = c.in_ok-walked.ensures.common reveals refl [] one two in
    (common.pieces, subst (λ (f : ℕ → List ℕ). HasRead (f 0) (f 66) common.pieces c.in_ok-walked.walked.common) (sym all) common.two)

pub walk-requires-2-clause-seen : goal.walk-requires-2-clause-seen
walk-requires-2-clause-seen g c = λ reveals.
    swapped_over (g.D.Disk.state c.args.disk.now).files (g.D.Disk.state c.walk.new.disk).files 65 66 _ _ _ (c.in_ok-walked.ensures.reads.contents reveals) (c.in_ok-walked.ensures.seen reveals)

pub compare-requires-clause-common : goal.compare-requires-clause-common
compare-requires-clause-common g c = λ reveals.
    let b = c.beginning.ensures in
    let old = (g.D.Disk.state c.args.disk.now).files in
    let all = c.in_ok-other.ensures.reads.contents reveals ∙ c.in_ok-walked.ensures.reads.contents reveals in
    let one = read_first (old 0) (old 65) [] c.beginning.result (c.requires.begun reveals).0 b.place.0 b.place.1 b.none.0 b.none.1 b.none.2 in
    let two = read_first (old 0) (old 66) [] c.beginning.result (c.requires.begun reveals).1 b.place.0 b.place.1 b.none.0 b.none.1 b.none.2 in
    subst (λ (f : ℕ → List ℕ). HaveCommon (f 0) (f 65) (f 66) c.in_ok-walked.walked) (sym all) (c.in_ok-walked.ensures.common reveals refl [] one two)

pub compare-requires-clause-seen : goal.compare-requires-clause-seen
compare-requires-clause-seen g c = λ reveals.
    swapped_over (g.D.Disk.state c.walk.new.disk).files (g.D.Disk.state c.walk-2.new.disk).files 66 65 _ _ _ (c.in_ok-other.ensures.reads.contents reveals) (c.in_ok-other.ensures.seen reveals)

pub returns-in_err-other-clause-reads : goal.returns-in_err-other-clause-reads
returns-in_err-other-clause-reads g c =
    reads_both g.D.Disk.reveals ⊥ _ (g.D.Disk.state c.args.disk.now) (g.D.Disk.state c.walk.new.disk) (g.D.Disk.state c.walk-2.new.disk) (λ none. none)
    (reads_as g.D.Disk.reveals _ ⊥ _ _ (λ none. absurd none) (λ none. absurd (cc)) c.in_ok-walked.ensures.reads)
    (reads_as g.D.Disk.reveals _ _ _ _ (λ e. search rules) (λ e. search rules) c.in_err-other.ensures.reads)

pub returns-in_err-differ-clause-reads : goal.returns-in_err-differ-clause-reads
returns-in_err-differ-clause-reads g c =
    reads_both g.D.Disk.reveals ⊥ _ (g.D.Disk.state c.args.disk.now) (g.D.Disk.state c.walk.new.disk) (g.D.Disk.state c.compare.new.disk) (λ none. none)
    (reads_as g.D.Disk.reveals _ ⊥ _ _ (λ none. absurd none) (λ none. absurd (cc)) c.in_ok-walked.ensures.reads)
    (reads_both g.D.Disk.reveals ⊥ _ (g.D.Disk.state c.walk.new.disk) (g.D.Disk.state c.walk-2.new.disk) (g.D.Disk.state c.compare.new.disk) (λ none. none)
    (reads_as g.D.Disk.reveals _ ⊥ _ _ (λ none. absurd none) (λ none. absurd (cc)) c.in_ok-other.ensures.reads)
    (reads_as g.D.Disk.reveals _ _ _ _ (λ e. search rules) (λ e. search rules) c.in_err-differ.ensures.reads))

pub returns-clause-reads : goal.returns-clause-reads
returns-clause-reads g c =
    reads_both g.D.Disk.reveals ⊥ _ (g.D.Disk.state c.args.disk.now) (g.D.Disk.state c.walk.new.disk) (g.D.Disk.state c.compare.new.disk) (λ none. none)
    (reads_as g.D.Disk.reveals _ ⊥ _ _ (λ none. absurd none) (λ none. absurd (cc)) c.in_ok-walked.ensures.reads)
    (reads_both g.D.Disk.reveals ⊥ _ (g.D.Disk.state c.walk.new.disk) (g.D.Disk.state c.walk-2.new.disk) (g.D.Disk.state c.compare.new.disk) (λ none. none)
    (reads_as g.D.Disk.reveals _ ⊥ _ _ (λ none. absurd none) (λ none. absurd (cc)) c.in_ok-other.ensures.reads)
    (reads_as g.D.Disk.reveals _ _ _ _ (λ e. absurd (cc)) (λ e. absurd (cc)) c.in_ok-differ.ensures.reads))

pub returns-clause-second : goal.returns-clause-second
returns-clause-second g c = λ reveals.
    subst (λ (f : ℕ → List ℕ). IsJudged f 66 c.in_ok-other.other.judged) (c.in_ok-walked.ensures.reads.contents reveals) (c.in_ok-other.ensures.judged reveals)

pub returns-clause-differ : goal.returns-clause-differ
returns-clause-differ g c = λ reveals.
    subst (λ (f : ℕ → List ℕ). IsComparedAs f c.in_ok-walked.walked.judged c.in_ok-other.other.judged c.in_ok-differ.differ) (c.in_ok-other.ensures.reads.contents reveals ∙ c.in_ok-walked.ensures.reads.contents reveals) (c.in_ok-differ.ensures.differ reveals)
