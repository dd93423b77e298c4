use Rattle.std.proofs.Common.{◌≡◌, ◌-◌, true, false, inl, inr, sym, ◌∙◌, ap, arith}
use Rattle.std.proofs.lemmas.Bool.{cases_eq}
use Rattle.aea_lattice.specs.Strands.{strand_of, is_on}
use Rattle.aea_lattice.proofs.Strands.{last_node-found, last_node-none}
use Rattle.aea_lattice.proofs.Runs.{previous-last}
use Rattle.aea_plain.proofs.strands.previous.Goals as goal

pub loop-k-preserved : goal.loop-k-preserved
loop-k-preserved c = λ j ge lt.
    let l = c.args.lattice.now in
    let i = c.args.node in
    let p = is_on l c.args.class (strand_of l c.args.class i) i in
    let off : p (c.loop-k.k - 1) ≡ false =
    sym (ap (λ s. is_on l c.args.class s i (c.loop-k.k - 1)) c.strand-strand.ensures) ∙ sym c.is_on.ensures ∙ c.if-is_on.false in
    elim (cases_eq j (c.loop-k.k - 1)) [
      | inl here ↦ ap p here ∙ off
      | inr other ↦ c.loop-k.invariant j (omega arith) lt
    ]

pub returns-then-is_on : goal.returns-then-is_on
returns-then-is_on c =
    let l = c.args.lattice.now in
    let i = c.args.node in
    let p = is_on l c.args.class (strand_of l c.args.class i) i in
    let on : p (c.loop-k.k - 1) ≡ true =
    sym (ap (λ s. is_on l c.args.class s i (c.loop-k.k - 1)) c.strand-strand.ensures) ∙ sym c.is_on.ensures ∙ c.if-is_on.true in
    sym
    (previous-last l c.args.class i
    ∙ last_node-found p (i - 1) (c.loop-k.k - 1) (omega arith) (omega arith) on
    (λ j gt le. c.loop-k.invariant j (omega arith) (omega arith)))

pub returns : goal.returns
returns c =
    let l = c.args.lattice.now in
    let i = c.args.node in
    sym
    (previous-last l c.args.class i
    ∙ last_node-none (is_on l c.args.class (strand_of l c.args.class i) i) (i - 1)
    (λ j first le. c.loop-k.invariant j (omega arith) (omega arith)))
