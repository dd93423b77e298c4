use Rattle.std.proofs.Common.{◌≡◌, ◌++◌, ℕ, subst, arith}
use Rattle.aea_view.specs.Marked.{is_marked}
use Rattle.aea_sweep.specs.States.{AreSwept}
use Rattle.aea_sweep.proofs.Places.{few_classes}
use Rattle.aea_sweep.proofs.sweep.go_over_parities.Goals as goal

pub returns-then-alpha-lt3-clause-swept : goal.returns-then-alpha-lt3-clause-swept
returns-then-alpha-lt3-clause-swept c =
    let two : 2 ≡ c.args.lattice.now.alpha =
    (let a = c.if-alpha-lt2.false in let b = c.alpha.ensures in let d = c.if-alpha-lt3.true in let e = c.alpha-2.ensures in omega arith) in
    subst (λ (q : ℕ). AreSwept c.args.lattice.now (is_marked c.args.known.now) c.args.node q (c.go_over_parity-2.new.words.items ++ c.go_over_parity-2.new.closed) c.go_over_parity-2.new.heads) two
    c.in_ok-go_over_parity-2.ensures.swept

pub returns-clause-swept : goal.returns-clause-swept
returns-clause-swept c =
    let three : 3 ≡ c.args.lattice.now.alpha = (let d = c.if-alpha-lt3.false in let e = c.alpha-2.ensures in let f = few_classes c.args.lattice.now in omega arith) in
    subst (λ (q : ℕ). AreSwept c.args.lattice.now (is_marked c.args.known.now) c.args.node q (c.go_over_parity-3.new.words.items ++ c.go_over_parity-3.new.closed) c.go_over_parity-3.new.heads) three
    c.in_ok-go_over_parity-3.ensures.swept
