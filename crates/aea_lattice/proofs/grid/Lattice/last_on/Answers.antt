use Rattle.std.proofs.Common.{◌≡◌, ◌+◌, Some, None, ◌==◌, sym, ◌∙◌, arith, eq-eqb}
use Rattle.std.proofs.lemmas.Bool.{cond-true, cond-false, ne_eqb}
use Rattle.aea_lattice.specs.Fences.{is_parted}
use Rattle.aea_lattice.specs.Strands.{strand_of}
use Rattle.aea_lattice.proofs.Strands.{last_node-found, last_node-none}
use Rattle.aea_lattice.proofs.Runs.{open-joined}
use Rattle.aea_lattice.proofs.grid.Lattice.last_on.Goals as goal
use Rattle.aea_lattice.proofs.grid.Lattice.last_on.Goals.{then-loop-node-test+else-strand, else-loop-node-test}

pub returns-then-node-eq0-clause-last : goal.returns-then-node-eq0-clause-last
returns-then-node-eq0-clause-last c =
    let l = c.args.self.now in
    sym
    (open-joined l c.args.class c.args.strand None
    (last_node-none (λ k. strand_of l c.args.class k == c.args.strand) l.n
    (λ k first le. ne_eqb (strand_of l c.args.class k) c.args.strand (c.loop-node.invariant.rest k (let none = c.if-node-eq0.true in omega arith) le))))

pub returns-then-parts-clause-last : goal.returns-then-parts-clause-last
returns-then-parts-clause-last c =
    let l = c.args.self.now in
    let g = c.loop-node.node in
    let on : strand_of l c.args.class g ≡ c.args.strand = elim c.loop-node-test.branch [
      | then-loop-node-test+else-strand w ↦ sym w.strand.ensures ∙ w.if-strand.false
      | else-loop-node-test w ↦ (let past = w.loop-node-test.false in let some = c.if-node-eq0.false in absurd (omega arith))
    ] in
    sym
    (open-joined l c.args.class c.args.strand (Some g)
    (last_node-found (λ k. strand_of l c.args.class k == c.args.strand) l.n g (let some = c.if-node-eq0.false in omega arith) c.loop-node.invariant.within
    (eq-eqb (strand_of l c.args.class g) c.args.strand on)
    (λ k gt le. ne_eqb (strand_of l c.args.class k) c.args.strand (c.loop-node.invariant.rest k gt le)))
    ∙ cond-true (is_parted l.fences g (l.n + 1)) None (Some g) (sym c.parts.ensures ∙ c.if-parts.true))

pub returns-else-parts-clause-last : goal.returns-else-parts-clause-last
returns-else-parts-clause-last c =
    let l = c.args.self.now in
    let g = c.loop-node.node in
    let on : strand_of l c.args.class g ≡ c.args.strand = elim c.loop-node-test.branch [
      | then-loop-node-test+else-strand w ↦ sym w.strand.ensures ∙ w.if-strand.false
      | else-loop-node-test w ↦ (let past = w.loop-node-test.false in let some = c.if-node-eq0.false in absurd (omega arith))
    ] in
    sym
    (open-joined l c.args.class c.args.strand (Some g)
    (last_node-found (λ k. strand_of l c.args.class k == c.args.strand) l.n g (let some = c.if-node-eq0.false in omega arith) c.loop-node.invariant.within
    (eq-eqb (strand_of l c.args.class g) c.args.strand on)
    (λ k gt le. ne_eqb (strand_of l c.args.class k) c.args.strand (c.loop-node.invariant.rest k gt le)))
    ∙ cond-false (is_parted l.fences g (l.n + 1)) None (Some g) (sym c.parts.ensures ∙ c.if-parts.false))

pub returns-else-parts-clause-on : goal.returns-else-parts-clause-on
returns-else-parts-clause-on c = elim c.loop-node-test.branch [
  | then-loop-node-test+else-strand w ↦ sym w.strand.ensures ∙ w.if-strand.false
  | else-loop-node-test w ↦ (let past = w.loop-node-test.false in let some = c.if-node-eq0.false in absurd (omega arith))
]
