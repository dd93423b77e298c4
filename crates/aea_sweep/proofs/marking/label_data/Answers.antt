use Rattle.std.proofs.Common.{◌≡◌, ◌+◌, ◌&&◌, ◌==◌, ℕ, suc, take, get_or, subst, arith}
use Rattle.aea_lattice.specs.declared.blocks.Class.TheVariants.{Datum}
use Rattle.aea_lattice.specs.Blocks.{block_of, same_block, class_number}
use Rattle.aea_sweep.specs.Words.{has_odd}
use Rattle.aea_sweep.specs.Labels.{Labels}
use Rattle.aea_sweep.proofs.Taking.{node_within, data_more, labels_or}
use Rattle.aea_sweep.proofs.marking.label_data.Goals as goal

pub label_datum-requires-clause-node : goal.label_datum-requires-clause-node
label_datum-requires-clause-node c =
    let within = node_within 1 c.args.nodes.now (c.args.lattice.now.n + 1) c.loop-node.node-index c.requires.nodes c.loop-node-test.true in
    let high = within.1 in
    record { first = within.0; last = omega arith }

pub loop-node-preserved : goal.loop-node-preserved
loop-node-preserved c =
    let l = c.args.lattice.now in
    let xs = c.args.nodes.now in
    let q = c.loop-node.node-index in
    let next : suc q ≡ q + 1 = omega arith in
    record {
      labels = c.label_datum.ensures.labels;
      labelled =
          subst (λ (m : ℕ). Labels l (λ b. class_number b.class == 0 && has_odd (take m xs) b.node) c.args.label c.args.first.now c.label_datum.new.first) next
          (labels_or l (λ b. class_number b.class == 0 && has_odd (take q xs) b.node) (same_block (block_of (get_or xs q 0) Datum))
          (λ b. class_number b.class == 0 && has_odd (take (suc q) xs) b.node) c.args.label c.args.first.now c.loop-node.first c.label_datum.new.first c.requires.label
          (λ b hb. data_more xs (l.n + 1) q c.requires.nodes c.loop-node-test.true b) c.loop-node.invariant.labelled c.label_datum.ensures.labelled);
    }
