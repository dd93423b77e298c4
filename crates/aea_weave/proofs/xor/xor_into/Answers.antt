use Rattle.std.proofs.Common.{◌≡◌, length, subst, arith}
use Rattle.aea_weave.specs.Runs.{Xors}
use Rattle.aea_weave.proofs.Lanes.{xors_whole}
use Rattle.aea_weave.proofs.xor.xor_into.Goals as goal

pub returns : goal.returns
returns c =
    let all : c.loop-k.k ≡ length c.args.dst.now = omega arith in
    xors_whole c.args.dst.now c.args.src.now c.loop-k.dst c.requires
    (subst (λ n. Xors 0 n c.args.dst.now c.args.src.now c.loop-k.dst) all c.loop-k.invariant)
