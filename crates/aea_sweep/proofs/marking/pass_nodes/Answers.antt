use Rattle.std.proofs.Common.{◌≡◌, ◌+◌, ℕ, suc, take, subst, arith}
use Rattle.aea_sweep.specs.Words.{has_odd}
use Rattle.aea_sweep.specs.Stretches.{AreStretches}
use Rattle.aea_sweep.proofs.Taking.{stretches_none, stretches_more, node_within, taken_below, taken_agree}
use Rattle.aea_sweep.proofs.marking.pass_nodes.Goals as goal

pub loop-node-init : goal.loop-node-init
loop-node-init c = record {
  labels = c.requires.labels;
  opens = c.requires.opens;
  passed = stretches_none c.args.lattice.now c.args.class (has_odd c.args.nodes.now) c.args.label c.args.first.now c.args.starts.now c.requires.empty;
}

pub pass_node-requires-clause-node : goal.pass_node-requires-clause-node
pass_node-requires-clause-node c =
    let within = node_within 1 c.args.nodes.now (c.args.lattice.now.n + 1) c.loop-node.node-index c.requires.nodes c.loop-node-test.true in
    let high = within.1 in
    record { first = within.0; last = omega arith }

pub loop-node-preserved : goal.loop-node-preserved
loop-node-preserved c =
    let l = c.args.lattice.now in
    let xs = c.args.nodes.now in
    let q = c.loop-node.node-index in
    let less = c.loop-node-test.true in
    let next : suc q ≡ q + 1 = omega arith in
    record {
      labels = c.pass_node.ensures.labels;
      opens = c.pass_node.ensures.opens;
      passed =
          subst (λ (m : ℕ). AreStretches l c.args.class (has_odd (take m xs)) (has_odd xs) c.args.label c.args.first.now c.pass_node.new.first c.pass_node.new.starts) next
          (stretches_more l c.args.class xs q c.args.label c.args.first.now c.pass_node.new.first c.pass_node.new.starts less
          (c.pass_node.ensures.passed (has_odd (take q xs)) (has_odd xs) c.args.first.now
          (λ n is. taken_below 1 xs (l.n + 1) q n c.requires.nodes less is)
          (λ n below. taken_agree 1 xs (l.n + 1) q n c.requires.nodes less below)
          c.loop-node.invariant.passed));
    }
