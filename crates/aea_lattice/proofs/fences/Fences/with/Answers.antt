use Rattle.std.proofs.Common.{◌<◌, take, length, sym, subst, arith}
use Rattle.std.proofs.lemmas.List.{length-set, length-take-le}
use Rattle.aea_lattice.proofs.FenceLists.{zeros-set}
use Rattle.aea_lattice.proofs.fences.Fences.with.Goals as goal

pub invariant_of-result : goal.invariant_of-result
invariant_of-result c =
    let f = c.self.inside in
    let most = c.self.invariant.0 in
    let all = c.self.told in
    let few : length (take f.count f.nodes) < 16 = subst (λ fs. length fs < 16) (sym c.self.view_is) c.requires in
    let long = length-take-le f.count f.nodes most in
    let same = length-set f.nodes c.from.result c.args.node in
    (omega arith, zeros-set f.nodes 16 f.count c.from.result c.args.node c.from.ensures c.self.invariant.1)
