use Rattle.std.proofs.Common.{◌≡◌, false, IfSome, IfNone, subst}
use Rattle.aea_lattice.specs.Blocks.{HasBlock}
use Rattle.aea_lattice.specs.Closure.{IsForcedBy}
use Rattle.aea_view.specs.Marked.{Marked, is_marked, IsSpent}
use Rattle.aea_peel.proofs.States.{marks-of}
use Rattle.aea_peel.proofs.worklist.single_unmarked.Goals as goal

pub returns-clause-forced : goal.returns-clause-forced
returns-clause-forced c =
    subst (λ (m : Marked). IfSome c.single_unmarked.result (λ b. IsForcedBy m.lattice (is_marked m) b c.args.e))
    (marks-of c.args.marks.now c.args.lattice.now c.requires.same) c.single_unmarked.ensures.forced

pub returns-clause-no_mark : goal.returns-clause-no_mark
returns-clause-no_mark c =
    subst (λ (m : Marked). IfSome c.single_unmarked.result (λ b. is_marked m b ≡ false))
    (marks-of c.args.marks.now c.args.lattice.now c.requires.same) c.single_unmarked.ensures.no_mark

pub returns-clause-inside : goal.returns-clause-inside
returns-clause-inside c =
    subst (λ (m : Marked). IfSome c.single_unmarked.result (HasBlock m.lattice))
    (marks-of c.args.marks.now c.args.lattice.now c.requires.same) c.single_unmarked.ensures.inside

pub returns-clause-spent : goal.returns-clause-spent
returns-clause-spent c =
    subst (λ (m : Marked). IfNone c.single_unmarked.result (IsSpent m c.args.e))
    (marks-of c.args.marks.now c.args.lattice.now c.requires.same) c.single_unmarked.ensures.spent
