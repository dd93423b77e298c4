use Rattle.std.proofs.Common.{inl, ℕ, ◌+◌, List, refl, sym, subst, arith}
use Rattle.aea_ledger.specs.Values.{IsThisOne}
use Rattle.aea_archive.proofs.Cells.{fixed_kept}
use Rattle.aea_put_tests.proofs.parting.weave.Goals as goal

pub returns-clause-this : goal.returns-clause-this
returns-clause-this g c = λ revealed.
    let writes = c.in_ok-weave_node.ensures.writes (c.args.heads.now.lattice.n + 1) (omega arith) in
    subst (λ (bytes : List ℕ). IsThisOne c.args.ledger.now bytes) (sym ((writes.contents revealed).stay 0 (inl refl))) (c.requires.this revealed)

pub returns-clause-fixed : goal.returns-clause-fixed
returns-clause-fixed g c = λ revealed.
    let writes = c.in_ok-weave_node.ensures.writes (c.args.heads.now.lattice.n + 1) (omega arith) in
    fixed_kept g.D.Disk.reveals _ _ _ _ _ _ _ (g.D.Disk.state c.args.disk.now) (g.D.Disk.state c.weave_node.new.disk) 0 revealed (inl refl) writes (c.requires.fixed revealed)
