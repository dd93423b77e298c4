use Rattle.std.proofs.Common.{◌≡◌, false, inl, inr, sym, ◌∙◌, ap, arith}
use Rattle.std.proofs.lemmas.Bool.{cases_eq}
use Rattle.aea_lattice.specs.Strands.{strand_of, is_on}
use Rattle.aea_plain.proofs.Scans.{next-found, next-none}
use Rattle.aea_plain.proofs.strands.next.Goals as goal

pub loop-k-preserved : goal.loop-k-preserved
loop-k-preserved c = λ j gt lt.
    let l = c.args.lattice.now in
    let off : is_on l c.args.class (strand_of l c.args.class c.loop-k.k) c.loop-k.k c.args.node ≡ false =
    sym (ap (λ s. is_on l c.args.class s c.loop-k.k c.args.node) c.strand.ensures) ∙ sym c.is_on.ensures ∙ c.if-is_on.false in
    elim (cases_eq j c.loop-k.k) [
      | inl here ↦ ap (λ k. is_on l c.args.class (strand_of l c.args.class k) k c.args.node) here ∙ off
      | inr other ↦ c.loop-k.invariant j gt (omega arith)
    ]

pub returns-then-is_on : goal.returns-then-is_on
returns-then-is_on c =
    let l = c.args.lattice.now in
    next-found l c.args.class c.args.node c.loop-k.k c.requires.node.first (omega arith) (omega arith)
    (sym (ap (λ s. is_on l c.args.class s c.loop-k.k c.args.node) c.strand.ensures) ∙ sym c.is_on.ensures ∙ c.if-is_on.true)
    c.loop-k.invariant

pub returns : goal.returns
returns c =
    next-none c.args.lattice.now c.args.class c.args.node
    (λ j gt most. c.loop-k.invariant j gt (omega arith))
