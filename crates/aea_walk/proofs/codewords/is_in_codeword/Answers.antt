use Rattle.std.proofs.Common.{◌≡◌, ◌<◌, ◌==◌, ℕ, Bool, true, false, not, refl, length, take, get_or, sym, ◌∙◌, ap, arith}
use Rattle.std.proofs.Math.Bool.{beq}
use Rattle.aea_lattice.specs.Equations.{codeword_at}
use Rattle.aea_lattice.specs.Lists.{has_node}
use Rattle.aea_lattice.specs.Parity.{differ}
use Rattle.aea_walk.proofs.Along.{codeword-none}
use Rattle.aea_walk.proofs.Taken.{codeword-taken}
use Rattle.aea_walk.proofs.codewords.is_in_codeword.Goals as goal

pub loop-k-init : goal.loop-k-init
loop-k-init c = sym (codeword-none c.args.lattice.now c.args.block.node c.args.block.class)

other : (a b : Bool) → not (beq a b) ≡ differ a b
other true true = refl
other true false = refl
other false true = refl
other false false = refl

pub loop-k-preserved : goal.loop-k-preserved
loop-k-preserved c =
    let l = c.args.lattice.now in
    let nodes = c.args.nodes.now in
    let k = c.loop-k.k in
    let x = c.args.block.node in
    let class = c.args.block.class in
    let less : k < length nodes = (let h = c.loop-k-test.true in let e = c.len-k-end.ensures in omega arith) in
    let reached : c.reaches-has.result ≡ codeword_at l (λ n. n == get_or nodes k 0) x class =
    c.reaches-has.ensures ∙ ap (λ (m : ℕ). codeword_at l (λ n. n == m) x class) c.node_at.ensures in
    other c.loop-k.has c.reaches-has.result
    ∙ ap (λ a. differ a c.reaches-has.result) c.loop-k.invariant
    ∙ ap (differ (codeword_at l (has_node (take k nodes)) x class)) reached
    ∙ sym (codeword-taken l nodes k x class c.requires.nodes less)
