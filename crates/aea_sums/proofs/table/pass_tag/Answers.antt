use Rattle.std.proofs.Common.{◌≡◌, ℕ, sym, subst, arith}
use Rattle.aea_sums.specs.Passes.{PassesTagged}
use Rattle.aea_sums.proofs.Tables.{tagged-slots}
use Rattle.aea_sums.proofs.Fitting.{passed_tag, passed_untagged}
use Rattle.aea_sums.proofs.table.pass_tag.Goals as goal

pub returns-clause-slots : goal.returns-clause-slots
returns-clause-slots c = tagged-slots c.args.place c.tagged.result c.args.rows.now c.add_where.new.rows c.tagged.ensures.none c.requires.slots c.requires.place c.add_where.ensures

pub returns-clause-passes : goal.returns-clause-passes
returns-clause-passes c = passed_tag c.args.place c.args.tags c.tagged.result c.args.rows.now c.add_where.new.rows c.requires.place c.tagged.ensures.none c.tagged.ensures.tags c.add_where.ensures

pub returns-then-tags-eq0-clause-passes : goal.returns-then-tags-eq0-clause-passes
returns-then-tags-eq0-clause-passes c =
    let none : c.args.tags ≡ 0 = (let h = c.if-tags-eq0.true in omega arith) in
    subst (λ (x : ℕ). PassesTagged c.args.place x c.args.rows.now c.args.rows.now) (sym none) (passed_untagged c.args.place c.args.rows.now c.requires.place)
