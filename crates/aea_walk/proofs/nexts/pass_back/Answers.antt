use Rattle.std.proofs.Common.{◌≡◌, ℕ, sym, ◌∙◌, ap, subst}
use Rattle.std.specs.Prelude.{slice_set, get_or}
use Rattle.std.proofs.lemmas.Bool.{true≢false}
use Rattle.aea_lattice.specs.declared.grid.Lattice.{Lattice}
use Rattle.aea_lattice.specs.Strands.{strand_of}
use Rattle.aea_view.specs.Marked.{is_marked}
use Rattle.aea_walk.specs.Stretches.{AreNextFrom}
use Rattle.aea_walk.proofs.Few.{few_strands}
use Rattle.aea_walk.proofs.NextParity.{next-more}
use Rattle.aea_walk.proofs.nexts.pass_back.Goals.{then-get, else-get}
use Rattle.aea_walk.proofs.nexts.pass_back.Goals as goal

pub returns-clause-passed : goal.returns-clause-passed
returns-clause-passed c are =
    let l = c.args.marks.now.lattice in
    let intact = is_marked c.args.marks.now in
    let ends = c.args.ends.now in
    let v = c.if-get.first in
    let is : c.strand-strand.result ≡ strand_of l c.args.class c.args.node =
    c.strand-strand.ensures ∙ ap (λ (m : Lattice). strand_of m c.args.class c.args.node) c.lattice.ensures.lattice in
    subst (λ (s : ℕ). AreNextFrom l intact c.args.class c.args.node (slice_set c.args.next.now c.args.node v) (slice_set ends s v)) (sym is)
    (next-more l intact c.args.class c.args.next.now ends c.args.node v c.requires.node c.requires.long c.requires.strands (few_strands l c.args.class c.args.node c.requires.class)
    (λ is_intact. elim c.if-get.branch [
      | then-get w ↦ w.first-is
      | else-get w ↦ absurd (true≢false (sym is_intact ∙ sym c.get.ensures ∙ w.if-get.false))
    ])
    (λ gone. elim c.if-get.branch [
      | then-get w ↦ absurd (true≢false (sym w.if-get.true ∙ c.get.ensures ∙ gone))
      | else-get w ↦ w.first-is ∙ ap (λ (s : ℕ). get_or ends s 0) is
    ])
    are)
