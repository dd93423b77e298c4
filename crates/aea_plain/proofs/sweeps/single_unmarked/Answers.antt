use Rattle.std.proofs.Common.{◌≡◌, false, Option, Some, None, IfSome, IfNone, subst}
use Rattle.aea_lattice.specs.declared.blocks.BlockId.{BlockId}
use Rattle.aea_lattice.specs.Blocks.{HasBlock}
use Rattle.aea_lattice.specs.Closure.{IsForcedBy}
use Rattle.aea_view.specs.Marked.{Marked}
use Rattle.aea_view.specs.Marked as marked
use Rattle.aea_plain.specs.Marks.{is_marked, IsSpent}
use Rattle.aea_plain.proofs.Marks.{marks-of, forced-inside, spent-inside}
use Rattle.aea_plain.proofs.sweeps.single_unmarked.Goals as goal

some-more : (o : Option BlockId) (P Q : BlockId → Type 0) → ((b : BlockId) → P b → Q b) → IfSome o P → IfSome o Q
some-more None P Q more h = h
some-more (Some b) P Q more h = more b h

none-more : (o : Option BlockId) (P Q : Type 0) → (P → Q) → IfNone o P → IfNone o Q
none-more None P Q more h = more h
none-more (Some b) P Q more h = h

pub returns-clause-forced : goal.returns-clause-forced
returns-clause-forced c =
    let l = c.args.lattice.now in
    let marks = c.args.marks.now.marks in
    some-more c.single_unmarked.result
    (λ b. IsForcedBy l (marked.is_marked (record { lattice = l; marks = marks })) b c.args.e)
    (λ b. IsForcedBy l (is_marked l marks) b c.args.e)
    (λ b h. forced-inside l marks b c.args.e h)
    (subst (λ (m : Marked). IfSome c.single_unmarked.result (λ b. IsForcedBy m.lattice (marked.is_marked m) b c.args.e))
    (marks-of c.args.marks.now l c.requires.same) c.single_unmarked.ensures.forced)

pub returns-clause-inside : goal.returns-clause-inside
returns-clause-inside c =
    subst (λ (m : Marked). IfSome c.single_unmarked.result (HasBlock m.lattice))
    (marks-of c.args.marks.now c.args.lattice.now c.requires.same) c.single_unmarked.ensures.inside

pub returns-clause-no_mark : goal.returns-clause-no_mark
returns-clause-no_mark c =
    subst (λ (m : Marked). IfSome c.single_unmarked.result (λ b. marked.is_marked m b ≡ false))
    (marks-of c.args.marks.now c.args.lattice.now c.requires.same) c.single_unmarked.ensures.no_mark

pub returns-clause-spent : goal.returns-clause-spent
returns-clause-spent c =
    let l = c.args.lattice.now in
    let marks = c.args.marks.now.marks in
    none-more c.single_unmarked.result
    (marked.IsSpent (record { lattice = l; marks = marks }) c.args.e)
    (IsSpent l marks c.args.e)
    (spent-inside l marks c.args.e)
    (subst (λ (m : Marked). IfNone c.single_unmarked.result (marked.IsSpent m c.args.e))
    (marks-of c.args.marks.now l c.requires.same) c.single_unmarked.ensures.spent)
