use Rattle.std.proofs.Common.{◌≡◌, [], ◌∷◌, List, Err, sym, ◌∙◌, subst, arith}
use Rattle.aea_lattice.specs.declared.blocks.EqId.{EqId}
use Rattle.aea_lattice.specs.Equations.{HasEquation}
use Rattle.aea_view.specs.Marked.{is_marked}
use Rattle.aea_disk.proofs.Frames.{reads_none, reads_both, reads_as}
use Rattle.aea_restore.specs.declared.fault.RestoreFault.TheVariants.{DiskFault}
use Rattle.aea_restore.specs.Drawn.{other_blocks}
use Rattle.aea_restore.specs.Judged.{IsJudgedSum}
use Rattle.aea_restore.proofs.Items.{got_some, item_has, take_whole}
use Rattle.aea_restore.proofs.Judging.{judged_start, judged_next, judged_moved, clash_moved, among_next}
use Rattle.aea_restore.proofs.sum.add_equations.Goals as goal

pub loop-k-init : goal.loop-k-init
loop-k-init g c = record {
  buffer = c.requires.buffer;
  size = c.requires.sum;
  added = judged_start g.D.Disk.reveals c.args.ledger.now (g.D.Disk.state c.args.disk.now).files (is_marked c.args.marks.now) c.args.b c.args.equations.now c.args.sum.now;
  reads = reads_none g.D.Disk.reveals ⊥ (g.D.Disk.state c.args.disk.now) (λ none. none);
}

pub unreachable-requires : goal.unreachable-requires
unreachable-requires g c = got_some c.args.equations.now c.loop-k.k (omega (arith, c.loop-k-test.true, c.len-k-end.ensures)) (sym c.get.ensures ∙ c.in_default.is)

pub add_equation-requires-clause-equation : goal.add_equation-requires-clause-equation
add_equation-requires-clause-equation g c = item_has (HasEquation c.args.ledger.now.lattice) c.args.equations.now c.in-Some.e c.loop-k.k (sym c.get.ensures ∙ c.in-Some.is) c.requires.equations

pub returns-in-Err-clause-reads : goal.returns-in-Err-clause-reads
returns-in-Err-clause-reads g c =
    reads_as g.D.Disk.reveals (c.add_equation.result ≡ Err DiskFault) _ (g.D.Disk.state c.args.disk.now) (g.D.Disk.state c.add_equation.new.disk) (λ is. c.in-Err.is ∙ is) (λ is. cc)
    (reads_both g.D.Disk.reveals ⊥ (c.add_equation.result ≡ Err DiskFault) (g.D.Disk.state c.args.disk.now) (g.D.Disk.state c.loop-k.disk) (g.D.Disk.state c.add_equation.new.disk) (λ none. none) c.loop-k.invariant.reads c.add_equation.ensures.reads)

pub returns-in-Err-clause-found : goal.returns-in-Err-clause-found
returns-in-Err-clause-found g c d revealed computed is =
    let v = c.args.ledger.now in
    let found = c.add_equation.ensures.found d revealed computed (c.in-Err.is ∙ is) in (
      among_next v.lattice (is_marked c.args.marks.now) c.args.b c.args.equations.now c.in-Some.e c.loop-k.k d (sym c.get.ensures ∙ c.in-Some.is) found.0,
      clash_moved g.D.Disk.reveals v (g.D.Disk.state c.args.disk.now).files (g.D.Disk.state c.loop-k.disk).files d revealed computed c.loop-k.invariant.reads.contents found.1,
    )

pub loop-k-preserved : goal.loop-k-preserved
loop-k-preserved g c =
    let v = c.args.ledger.now in
    let picks = is_marked c.args.marks.now in
    let old = (g.D.Disk.state c.args.disk.now).files in
    record {
      buffer = c.add_equation.auto.read ∙ c.loop-k.invariant.buffer;
      size = c.add_equation.auto.sum ∙ c.loop-k.invariant.size;
      added = judged_next g.D.Disk.reveals v old picks c.args.b c.args.equations.now c.in-Some.e c.loop-k.k c.args.sum.now c.loop-k.sum c.add_equation.new.sum (sym c.get.ensures ∙ c.in-Some.is) c.loop-k.invariant.added
          (judged_moved g.D.Disk.reveals v old (g.D.Disk.state c.loop-k.disk).files c.loop-k.sum c.add_equation.new.sum (other_blocks v.lattice picks c.args.b (c.in-Some.e ∷ [])) c.loop-k.invariant.reads.contents c.in-Ok.ensures.judged);
      reads = reads_as g.D.Disk.reveals (c.add_equation.result ≡ Err DiskFault) ⊥ (g.D.Disk.state c.args.disk.now) (g.D.Disk.state c.add_equation.new.disk) (λ none. absurd none) (λ is. absurd (cc))
          (reads_both g.D.Disk.reveals ⊥ (c.add_equation.result ≡ Err DiskFault) (g.D.Disk.state c.args.disk.now) (g.D.Disk.state c.loop-k.disk) (g.D.Disk.state c.add_equation.new.disk) (λ none. none) c.loop-k.invariant.reads c.add_equation.ensures.reads);
    }

pub returns-clause-judged : goal.returns-clause-judged
returns-clause-judged g c =
    let v = c.args.ledger.now in
    subst (λ (es : List EqId). IsJudgedSum g.D.Disk.reveals v (g.D.Disk.state c.args.disk.now).files c.args.sum.now (other_blocks v.lattice (is_marked c.args.marks.now) c.args.b es) c.loop-k.sum)
    (take_whole c.args.equations.now c.loop-k.k (omega (arith, c.loop-k-test.false, c.len-k-end.ensures))) c.loop-k.invariant.added
