use Rattle.std.proofs.Common.{ℕ, Option, sym, subst}
use Rattle.aea_view.specs.Marked.{is_marked}
use Rattle.aea_verify.specs.Judged.{HeadSays}
use Rattle.aea_verify.proofs.reading.verdict_with.Goals as goal

pub returns-in-Some : goal.returns-in-Some
returns-in-Some c seal lines says tally =
    sym ((subst (λ (o : Option ℕ). HeadSays c.args.marks.now.lattice seal c.args.head.now o) c.in-Some.is says) (is_marked c.args.marks.now) lines)

pub returns-in-None : goal.returns-in-None
returns-in-None c seal lines says tally =
    let kept = subst (λ (o : Option ℕ). HeadSays c.args.marks.now.lattice seal c.args.head.now o) c.in-None.is says in
    c.verdict.ensures seal lines (tally c.in-None.is) kept.0 kept.1
