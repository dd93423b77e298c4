use Rattle.std.proofs.Common.{◌+◌, get_or, sym, ◌∙◌, arith}
use Rattle.aea_lattice.specs.Blocks.{HasNode}
use Rattle.aea_walk.proofs.NextParity.{first-beyond}
use Rattle.aea_walk.proofs.stretches.first_in.Goals.{else-node-limit-via-then-node-limit+else-not-parts, else-node-limit-via-else-node-limit}
use Rattle.aea_walk.proofs.stretches.first_in.Goals as goal

pub returns-else-node-limit : goal.returns-else-node-limit
returns-else-node-limit c intact class are some =
    let l = c.args.lattice.now in
    let n = c.n-end.ensures in
    let within = c.if-from-end.false in
    let has : HasNode l c.args.from = record { first = some (omega arith); last = omega arith } in
    first-beyond l intact class c.args.from c.args.limit (get_or c.args.next.now c.args.from 0) (c.n-end.result + 1) (are.has c.args.from has)
    (λ less. elim c.else-node-limit.branch [
      | else-node-limit-via-then-node-limit+else-not-parts w ↦ sym w.parts.ensures ∙ w.if-not-parts.false
      | else-node-limit-via-else-node-limit w ↦ (let h = w.if-node-limit.false in absurd (omega arith))
    ])
    (omega arith)
