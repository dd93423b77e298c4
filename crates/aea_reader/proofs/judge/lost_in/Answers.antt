use Rattle.std.proofs.Common.{◌≡◌, ℕ, List, drop, sym, ◌∙◌, ap}
use Rattle.aea_report.specs.Format.{numbers_text}
use Rattle.aea_report.specs.Grammar.{AreNodes}
use Rattle.aea_reader.proofs.Options.{at_none}
use Rattle.aea_reader.proofs.BlockLines.{lost_parts}
use Rattle.aea_reader.proofs.judge.lost_in.Goals as goal

pub returns-in_default-clause-none : goal.returns-in_default-clause-none
returns-in_default-clause-none c b nodes valid e =
    let parts = lost_parts c.args.lattice.now c.args.least c.args.text.now c.cut.result.0.now c.cut.result.1.now b nodes c.cut.ensures.spelled c.cut.ensures.word c.cut.ensures.rest valid e in
    c.in_default.ensures.none b valid.block valid.later parts.0

pub returns-in_default-behind-clause-none : goal.returns-in_default-behind-clause-none
returns-in_default-behind-clause-none c b nodes valid e =
    let parts = lost_parts c.args.lattice.now c.args.least c.args.text.now c.cut.result.0.now c.cut.result.1.now b nodes c.cut.ensures.spelled c.cut.ensures.word c.cut.ensures.rest valid e in
    c.in_default-behind.ensures.none (numbers_text nodes) parts.1

pub returns-in-None-clause-none : goal.returns-in-None-clause-none
returns-in-None-clause-none c b nodes valid e =
    let parts = lost_parts c.args.lattice.now c.args.least c.args.text.now c.cut.result.0.now c.cut.result.1.now b nodes c.cut.ensures.spelled c.cut.ensures.word c.cut.ensures.rest valid e in
    at_none c.in_ok-nodes.field-0 ((others : List ℕ) → AreNodes c.args.lattice.now others → c.in-Some-behind.list.now ≡ numbers_text others → ⊥) c.in-None.is c.in_ok-nodes.ensures.none
    nodes valid.nodes (ap (drop 3) (sym c.in-Some-behind.ensures.found ∙ parts.1))
