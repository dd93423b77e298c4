use Rattle.std.proofs.Common.{◌≡◌, ◌+◌, ◌<◌, ◌≤◌, ◌==◌, ℕ, List, false, length, get_or, take, subst, arith}
use Rattle.aea_lattice.specs.Lists.{has_node}
use Rattle.aea_lattice.specs.Parity.{differ}
use Rattle.aea_walk.specs.Stretches.{ArePassed}
use Rattle.aea_walk.proofs.Along.{codeword-none}
use Rattle.aea_walk.proofs.Few.{few_strands}
use Rattle.aea_walk.proofs.Taken.{taken-below, taken-all}
use Rattle.aea_walk.proofs.Passing.{passed-none, passed-taken}
use Rattle.aea_walk.proofs.stretches.pass_nodes.Goals as goal

pub loop-k-init : goal.loop-k-init
loop-k-init c =
    let l = c.args.lattice.now in
    let class = c.args.class in
    record {
      strands = c.requires.strands;
      passed = λ intact _.
          passed-none l intact class (λ _. false) c.args.opens.now (c.n-first.result + 1) (λ x. codeword-none l x class) (let n = c.n-first.ensures in omega arith)
          (λ x. few_strands l class x c.requires.class) c.requires.none;
    }

pub loop-k-preserved : goal.loop-k-preserved
loop-k-preserved c =
    let l = c.args.lattice.now in
    let class = c.args.class in
    let nodes = c.args.nodes.now in
    let k = c.loop-k.k in
    let opens = c.pass_node-first.new.opens in
    let first = c.pass_node-first.result in
    let less : k < length nodes = (let h = c.loop-k-test.true in let e = c.len-k-end.ensures in omega arith) in
    let is : c.node_at.result ≡ get_or nodes k 0 = c.node_at.ensures in
    record {
      strands = c.pass_node-first.ensures.strands;
      passed = λ intact next.
          passed-taken l intact class nodes k opens first c.requires.nodes less
          (subst (λ (j : ℕ). ArePassed l intact class (λ i. differ (has_node (take k nodes) i) (i == j)) opens first) is
          (c.pass_node-first.ensures.passed intact (has_node (take k nodes)) next
          (λ n was. let below : n < get_or nodes k 0 = taken-below l nodes c.requires.nodes k k n (omega arith) less was in omega arith)
          (c.loop-k.invariant.passed intact next)));
    }

pub returns-clause-passed : goal.returns-clause-passed
returns-clause-passed c intact next =
    let l = c.args.lattice.now in
    let nodes = c.args.nodes.now in
    let all : length nodes ≤ c.loop-k.k = (let h = c.loop-k-test.false in let g = c.loop-k.auto.k-end in let e = c.len-k-end.ensures in omega arith) in
    subst (λ (xs : List ℕ). ArePassed l intact c.args.class (has_node xs) c.loop-k.opens c.loop-k.first) (taken-all nodes c.loop-k.k all)
    (c.loop-k.invariant.passed intact next)
