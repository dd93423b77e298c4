use Rattle.std.proofs.Common.{refl}
use Rattle.aea_mirror.proofs.Adopting.{guards_true}
use Rattle.aea_mirror.proofs.mirror.Mirror.new.Goals as goal

pub invariant_of-result-clause-near : goal.invariant_of-result-clause-near
invariant_of-result-clause-near g c = (c.requires.near.end, c.requires.near.first, c.requires.near.second, c.requires.near.text)

pub invariant_of-result-clause-guards : goal.invariant_of-result-clause-guards
invariant_of-result-clause-guards g c = λ alive revealed.
    ∣ guards_true (g.D.Disk.state c.args.disk.now) c.args.adopted _ _ (c.requires.synced revealed) (c.requires.revealed revealed) refl refl refl refl ∣₁
