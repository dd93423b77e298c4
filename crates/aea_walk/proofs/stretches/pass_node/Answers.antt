use Rattle.std.proofs.Common.{◌≡◌, ◌<◌, ◌==◌, ℕ, get_or, sym, ◌∙◌, ap, subst, arith}
use Rattle.std.specs.Prelude.{slice_set}
use Rattle.std.proofs.lemmas.Bool.{true≢false}
use Rattle.aea_lattice.specs.Fences.{is_parted}
use Rattle.aea_lattice.specs.Strands.{strand_of}
use Rattle.aea_lattice.specs.Parity.{differ}
use Rattle.aea_walk.specs.Stretches.{ArePassed, IsFirstIn, IsOpenAt}
use Rattle.aea_walk.proofs.Few.{few_strands}
use Rattle.aea_walk.proofs.Passing.{passed-more}
use Rattle.aea_walk.proofs.stretches.pass_node.Goals.{then-from-node+then-not-parts, else-from-node, else-from-node-via-then-from-node+else-not-parts, else-from-node-via-else-from-node}
use Rattle.aea_walk.proofs.stretches.pass_node.Goals as goal

pub returns-clause-passed : goal.returns-clause-passed
returns-clause-passed c intact taken next below p =
    let l = c.args.lattice.now in
    let class = c.args.class in
    let node = c.args.node in
    let opens = c.args.opens.now in
    let v = c.if-from-node.opens in
    let few : (x : ℕ) → strand_of l class x < 64 = λ x. few_strands l class x c.requires.class in
    let strand : ℕ = strand_of l class node in
    let is : c.strand-strand.result ≡ strand = c.strand-strand.ensures in
    let at : get_or opens c.strand-strand.result 0 ≡ get_or opens strand 0 = ap (λ (s : ℕ). get_or opens s 0) is in
    let ends : IsFirstIn l intact class (get_or opens strand 0) node c.first_in-ended.result =
    subst (λ (a : ℕ). IsFirstIn l intact class a node c.first_in-ended.result) at
    (c.first_in-ended.ensures intact class next
    (λ most. let was : IsOpenAt l class taken strand (get_or opens strand 0) = p.some strand (few node) (omega arith) in let has = was.node in let first = has.first in omega arith)) in
    subst (λ (s : ℕ). ArePassed l intact class (λ n. differ (taken n) (n == node)) (slice_set opens s v) c.lesser.result) (sym is)
    (passed-more l intact class taken opens c.args.first node v c.first_in-ended.result c.lesser.result c.requires.node c.requires.class few c.requires.strands below p ends
    c.lesser.ensures.first c.lesser.ensures.second c.lesser.ensures.one
    (λ le joined. elim c.if-from-node.branch [
      | then-from-node+then-not-parts w ↦ (let e = w.opens-is in let n = w.n.ensures in omega arith)
      | else-from-node w ↦ elim w.else-from-node.branch [
        | else-from-node-via-then-from-node+else-not-parts w' ↦
            absurd (true≢false (sym w'.if-not-parts.false ∙ w'.parts.ensures ∙ ap (λ (a : ℕ). is_parted l.fences a node) at ∙ joined))
        | else-from-node-via-else-from-node w' ↦ (let h = w'.if-from-node.false in absurd (omega arith))
      ]
    ])
    (λ parted. elim c.if-from-node.branch [
      | then-from-node+then-not-parts w ↦
          (let le = w.if-from-node.true in
          absurd (true≢false (sym (parted (omega arith)) ∙ ap (λ (a : ℕ). is_parted l.fences a node) (sym at) ∙ sym w.parts.ensures ∙ w.if-not-parts.true)))
      | else-from-node w ↦ w.opens-is
    ]))
