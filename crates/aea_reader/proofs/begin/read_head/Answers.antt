use Rattle.std.proofs.Common.{arith, sym, subst}
use Rattle.std.proofs.lemmas.Result.{err_from_is_err_and}
use Rattle.aea_report.specs.Format.{head_texts}
use Rattle.aea_reader.specs.Places.{IsAt, IsFault}
use Rattle.aea_reader.specs.Readings.{IsHeadFault}
use Rattle.aea_reader.proofs.Options.{at_exit}
use Rattle.aea_reader.proofs.HeadLines.{head_fault}
use Rattle.aea_reader.proofs.begin.read_head.Goals as goal

pub returns-in_err-read_mark-clause-read : goal.returns-in_err-read_mark-clause-read
returns-in_err-read_mark-clause-read g c input here =
    let left = (g.S.Source.state c.read_mark.new.source).left in
    let p = err_from_is_err_and c.from_residual.result c.from_residual.ensures.1 in
    at_exit c.from_residual.result (λ r. IsAt input 5 (head_texts r.1) c.read_mark.new.ahead left) (IsHeadFault input left) p.0 p.1
    (head_fault input 1 left p.0 (omega arith) (subst (IsFault input 1 left) (sym p.2) (c.in_err-read_mark.ensures.read input here)))

pub returns-in_err-lattice-clause-read : goal.returns-in_err-lattice-clause-read
returns-in_err-lattice-clause-read g c input here =
    let left = (g.S.Source.state c.read_shape.new.source).left in
    let second = c.in_ok-read_mark.ensures.read input here in
    let p = err_from_is_err_and c.from_residual-in_err-lattice.result c.from_residual-in_err-lattice.ensures.1 in
    at_exit c.from_residual-in_err-lattice.result (λ r. IsAt input 5 (head_texts r.1) c.read_shape.new.ahead left) (IsHeadFault input left) p.0 p.1
    (head_fault input 2 left p.0 (omega arith) (subst (IsFault input 2 left) (sym p.2) (c.in_err-lattice.ensures.read input second)))

pub returns-in_err-seal-clause-read : goal.returns-in_err-seal-clause-read
returns-in_err-seal-clause-read g c input here =
    let left = (g.S.Source.state c.read_seal.new.source).left in
    let second = c.in_ok-read_mark.ensures.read input here in
    let third = c.in_ok-lattice.ensures.read input second in
    let p = err_from_is_err_and c.from_residual-in_err-seal.result c.from_residual-in_err-seal.ensures.1 in
    at_exit c.from_residual-in_err-seal.result (λ r. IsAt input 5 (head_texts r.1) c.read_seal.new.ahead left) (IsHeadFault input left) p.0 p.1
    (head_fault input 3 left p.0 (omega arith) (subst (IsFault input 3 left) (sym p.2) (c.in_err-seal.ensures.read input c.in_ok-lattice.lattice third)))

pub returns-in_err-head-clause-read : goal.returns-in_err-head-clause-read
returns-in_err-head-clause-read g c input here =
    let left = (g.S.Source.state c.read_counts.new.source).left in
    let second = c.in_ok-read_mark.ensures.read input here in
    let third = c.in_ok-lattice.ensures.read input second in
    let fourth = c.in_ok-seal.ensures.read input c.in_ok-lattice.lattice third in
    let p = err_from_is_err_and c.from_residual-in_err-head.result c.from_residual-in_err-head.ensures.1 in
    at_exit c.from_residual-in_err-head.result (λ r. IsAt input 5 (head_texts r.1) c.read_counts.new.ahead left) (IsHeadFault input left) p.0 p.1
    (head_fault input 4 left p.0 (omega arith) (subst (IsFault input 4 left) (sym p.2) (c.in_err-head.ensures.read input fourth)))
