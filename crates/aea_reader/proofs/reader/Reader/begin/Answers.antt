use Rattle.std.proofs.Common.{sym, subst}
use Rattle.std.proofs.lemmas.Result.{err_from_is_err_and}
use Rattle.aea_reader.specs.Readings.{IsHeadFault, HasBegun}
use Rattle.aea_reader.proofs.HeadLines.{at_first}
use Rattle.aea_reader.proofs.NextLines.{reading_begun}
use Rattle.aea_reader.proofs.reader.Reader.begin.Goals as goal

pub returns-in_err-lattice-clause-begun : goal.returns-in_err-lattice-clause-begun
returns-in_err-lattice-clause-begun g c input revealed =
    let left = (g.S.Source.state c.read_head.new.source).left in
    let here = at_first input c.new-ahead.result (g.S.Source.state c.args.source.now).left c.new-ahead.ensures revealed in
    let p = err_from_is_err_and c.from_residual.result c.from_residual.ensures.1 in
    subst (HasBegun input left) (sym p.1) (subst (IsHeadFault input left) (sym p.2) (c.in_err-lattice.ensures.read input here))

pub returns-clause-begun : goal.returns-clause-begun
returns-clause-begun g c input revealed =
    let left = (g.S.Source.state c.read_head.new.source).left in
    let here = at_first input c.new-ahead.result (g.S.Source.state c.args.source.now).left c.new-ahead.ensures revealed in
    reading_begun input c.in_ok-lattice.lattice c.in_ok-lattice.head c.read_head.new.ahead left c.in_ok-lattice.ensures.head (c.in_ok-lattice.ensures.read input here)
