use Rattle.std.proofs.Common.{◌++◌, ◌∷◌, [], ap, arith, get_or}
use Rattle.std.proofs.lemmas.Option.{slice_get-get_or}
use Rattle.aea_report.specs.Format.{numbers_text}
use Rattle.aea_plan.proofs.Printing.{numbers-more}
use Rattle.aea_plan.proofs.nodes.write_nodes.Goals as goal

pub loop-k-preserved : goal.loop-k-preserved
loop-k-preserved c =
    let nodes = c.args.nodes.now in
    let k = c.loop-k.k in
    let node = get_or nodes k 0 in
    let inside = c.loop-k-test.true in
    let more = numbers-more nodes k node (slice_get-get_or nodes k 0 (omega (arith, inside))) in
    let longer = c.push_node.ensures.long in
    let long = c.loop-k.invariant.long in
    let roomier = c.push_node.ensures.room in
    let room = c.loop-k.invariant.room in
    record {
      made = rw (c.push_node.ensures.text, more) (ap (λ xs. xs ++ numbers_text (node ∷ [])) c.loop-k.invariant.made);
      long = omega arith;
      room = omega arith;
    }
