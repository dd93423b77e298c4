use Rattle.std.proofs.Common.{◌≡◌, ◌+◌, ◌<◌, ◌≤◌, ℕ, length, get_or, ◌∙◌, ap, subst, arith}
use Rattle.aea_lattice.specs.Strands.{strand_of}
use Rattle.aea_walk.specs.Stretches.{IsFirstIn, IsOpenAt}
use Rattle.aea_walk.proofs.Few.{few_strands}
use Rattle.aea_walk.proofs.Ending.{ended-more, ended-all}
use Rattle.aea_walk.proofs.stretches.end_stretches.Goals as goal

pub loop-k-preserved : goal.loop-k-preserved
loop-k-preserved c intact next p =
    let l = c.args.lattice.now in
    let class = c.args.class in
    let nodes = c.args.nodes.now in
    let opens = c.args.opens.now in
    let k = c.loop-k.k in
    let few : (x : ℕ) → strand_of l class x < 64 = λ x. few_strands l class x c.requires.class in
    let less : k < length nodes = (let h = c.loop-k-test.true in let e = c.len-k-end.ensures in omega arith) in
    let strand : ℕ = strand_of l class (get_or nodes k 0) in
    let is : c.strand-strand.result ≡ strand = c.strand-strand.ensures ∙ ap (strand_of l class) c.node_at.ensures in
    let at : get_or opens c.strand-strand.result 0 ≡ get_or opens strand 0 = ap (λ (s : ℕ). get_or opens s 0) is in
    let n : c.n.result + 1 ≡ l.n + 1 = (let h = c.n.ensures in omega arith) in
    let found = c.first_in.ensures intact class next
    (λ most. let was : IsOpenAt l class _ strand (get_or opens strand 0) = p.some strand (few (get_or nodes k 0)) (omega arith) in let has = was.node in let first = has.first in omega arith) in
    ended-more l intact class nodes opens k c.args.passed c.loop-k.first c.first_in.result c.lesser-first.result c.requires.class few less p
    (c.loop-k.invariant intact next p)
    (subst (λ (m : ℕ). IsFirstIn l intact class (get_or opens strand 0) m c.first_in.result) n
    (subst (λ (a : ℕ). IsFirstIn l intact class a (c.n.result + 1) c.first_in.result) at found))
    c.lesser-first.ensures.first c.lesser-first.ensures.second c.lesser-first.ensures.one

pub returns : goal.returns
returns c intact next p =
    let l = c.args.lattice.now in
    let class = c.args.class in
    let nodes = c.args.nodes.now in
    let all : length nodes ≤ c.loop-k.k = (let h = c.loop-k-test.false in let g = c.loop-k.auto.k-end in let e = c.len-k-end.ensures in omega arith) in
    ended-all l intact class nodes c.args.opens.now c.loop-k.k c.args.passed c.loop-k.first c.requires.class (λ x. few_strands l class x c.requires.class) all p
    (c.loop-k.invariant intact next p)
