use Rattle.aea_lattice.proofs.Parted.{fences-grown}
use Rattle.aea_lattice.proofs.grid.Lattice.grown.Goals as goal

pub invariant_of-result : goal.invariant_of-result
invariant_of-result c =
    let l = c.args.self.now in
    record {
      in_profile = l.in_profile;
      in_range = c.if-n-le-MAX_NODES.true;
      fenced = fences-grown l.n c.args.n l.fences c.if-self-n.true l.fenced;
    }
