use Rattle.std.proofs.Common.{◌<◌, ◌≤◌, ◌∷◌, ◌++◌, [], length, IsTrue, sym, subst, arith, length-append}
use Rattle.aea_lattice.specs.Fences.{are_fences, last_fence}
use Rattle.aea_lattice.proofs.Parted.{fences-fenced}
use Rattle.aea_lattice.proofs.grid.Lattice.fenced.Goals as goal

pub invariant_of-result : goal.invariant_of-result
invariant_of-result c =
    let l = c.args.self.now in
    let after : last_fence l.fences < l.n = (let last = c.last.ensures in let lt = c.if-last-self.true in omega arith) in
    let long = length-append l.fences (l.n ∷ []) in
    let few : length (l.fences ++ l.n ∷ []) ≤ 16 = (let count = c.count.ensures in let lt = c.if-count-lt-MAX_FENCES.true in omega arith) in
    record {
      in_profile = l.in_profile;
      in_range = l.in_range;
      fenced = subst (λ fs. IsTrue (are_fences l.n fs)) (sym c.with.ensures) (fences-fenced l.n l.fences l.fenced after few);
    }
