use Rattle.std.proofs.Common.{◌≡◌, length, sym, subst, arith}
use Rattle.aea_weave.specs.Runs.{Xors}
use Rattle.aea_gauss_words.proofs.words.xor_words.Goals as goal
use Rattle.aea_weave.proofs.Lanes.{xors_whole}

pub returns : goal.returns
returns c =
    let all : c.loop-k.k ≡ length c.args.dst.now = omega arith in
    xors_whole c.args.dst.now c.args.src.now c.loop-k.dst (sym c.requires)
    (subst (λ n. Xors 0 n c.args.dst.now c.args.src.now c.loop-k.dst) all c.loop-k.invariant)
