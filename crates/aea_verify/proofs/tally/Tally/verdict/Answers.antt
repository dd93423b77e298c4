use Rattle.std.proofs.Common.{sym, ap, ◌∙◌}
use Rattle.aea_view.specs.Marked.{is_marked}
use Rattle.aea_verify.specs.Rules.{verdict_by}
use Rattle.aea_verify.proofs.Tallied.{tally-broken}
use Rattle.aea_verify.proofs.tally.Tally.verdict.Goals as goal

pub returns : goal.returns
returns c seal lines is lattice sealed =
    c.verdict_by.ensures
    ∙ ap verdict_by c.first_broken-broken.ensures
    ∙ sym (tally-broken c.args.marks.now.lattice seal (is_marked c.args.marks.now) c.args.head.now lines c.args.self.now is lattice sealed)
