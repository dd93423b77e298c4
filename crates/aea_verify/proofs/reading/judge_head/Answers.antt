use Rattle.std.proofs.Common.{sym, ◌∙◌}
use Rattle.aea_verify.proofs.Agree.{other-lattice, other-seal}
use Rattle.aea_verify.proofs.reading.judge_head.Goals as goal

pub returns-then-not-has_lattice : goal.returns-then-not-has_lattice
returns-then-not-has_lattice c intact lines =
    other-lattice c.args.lattice.now c.args.seal.now intact c.args.head.now lines (sym c.has_lattice.ensures ∙ c.if-not-has_lattice.true)

pub returns-then-not-has_seal : goal.returns-then-not-has_seal
returns-then-not-has_seal c intact lines =
    other-seal c.args.lattice.now c.args.seal.now intact c.args.head.now lines (sym c.has_lattice.ensures ∙ c.if-not-has_lattice.false) (sym c.has_seal.ensures ∙ c.if-not-has_seal.true)

pub returns : goal.returns
returns c = (sym c.has_lattice.ensures ∙ c.if-not-has_lattice.false, sym c.has_seal.ensures ∙ c.if-not-has_seal.false)
