use Rattle.std.proofs.Common.{refl}
use Rattle.std.proofs.lemmas.Bool.{false≢true}
use Rattle.aea_records.proofs.Fencing.{fence_there, no_fence_there, other_node}
use Rattle.aea_records.proofs.fields.is_next_fence.Goals as goal

pub returns-then-node-lattice-clause-value : goal.returns-then-node-lattice-clause-value
returns-then-node-lattice-clause-value c = λ known nodes fences. other_node known c.args.lattice.now c.args.node nodes c.if-node-lattice.true

pub returns-in-Some-clause-value : goal.returns-in-Some-clause-value
returns-in-Some-clause-value c = λ known nodes fences.
    let valid = rw c.in-Some.is at c.fenced.ensures.valid in
    let both = valid.0 refl in
    fence_there known c.args.lattice.now c.args.node nodes fences c.if-node-lattice.false both.0 both.1

pub returns-in-None-clause-value : goal.returns-in-None-clause-value
returns-in-None-clause-value c = λ known nodes fences.
    let valid = rw c.in-None.is at c.fenced.ensures.valid in
    no_fence_there known c.args.lattice.now c.args.node nodes fences c.if-node-lattice.false (λ before few. absurd (false≢true (valid.1 (before, few))))

pub returns-in-Some-clause-room : goal.returns-in-Some-clause-room
returns-in-Some-clause-room c = λ _.
    let valid = rw c.in-Some.is at c.fenced.ensures.valid in
    valid.0 refl
