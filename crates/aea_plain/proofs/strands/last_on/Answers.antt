use Rattle.std.proofs.Common.{◌≡◌, ◌+◌, ◌-◌, true, false, inl, inr, sym, ◌∙◌, ap, arith}
use Rattle.std.proofs.lemmas.Bool.{cases_eq}
use Rattle.aea_lattice.specs.Strands.{is_on}
use Rattle.aea_lattice.proofs.Strands.{last_of-filter, last_node-found, last_node-none}
use Rattle.aea_plain.proofs.strands.last_on.Goals as goal

pub loop-k-preserved : goal.loop-k-preserved
loop-k-preserved c = λ j ge le.
    let l = c.args.lattice.now in
    let p = is_on l c.args.class c.args.strand (l.n + 1) in
    let off : p (c.loop-k.k - 1) ≡ false = sym c.is_on.ensures ∙ c.if-is_on.false in
    elim (cases_eq j (c.loop-k.k - 1)) [
      | inl here ↦ ap p here ∙ off
      | inr other ↦ c.loop-k.invariant j (omega arith) le
    ]

pub returns-then-is_on : goal.returns-then-is_on
returns-then-is_on c =
    let l = c.args.lattice.now in
    let p = is_on l c.args.class c.args.strand (l.n + 1) in
    let on : p (c.loop-k.k - 1) ≡ true = sym c.is_on.ensures ∙ c.if-is_on.true in
    sym
    (last_of-filter p l.n
    ∙ last_node-found p l.n (c.loop-k.k - 1) (omega arith) (omega arith) on
    (λ j gt le. c.loop-k.invariant j (omega arith) le))

pub returns : goal.returns
returns c =
    let l = c.args.lattice.now in
    sym
    (last_of-filter (is_on l c.args.class c.args.strand (l.n + 1)) l.n
    ∙ last_node-none (is_on l c.args.class c.args.strand (l.n + 1)) l.n
    (λ j first le. c.loop-k.invariant j (omega arith) le))
