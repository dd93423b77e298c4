use Rattle.std.proofs.Common.{◌≡◌, suc, ◌-◌, take, get_or, sym, ◌∙◌, ap, arith}
use Rattle.aea_lattice.specs.Fences.{last_fence}
use Rattle.aea_lattice.proofs.FenceLists.{last-take}
use Rattle.aea_lattice.proofs.fences.Fences.last.Goals as goal

pub returns : goal.returns
returns c =
    let f = c.self.inside in
    let most = c.self.invariant.0 in
    let whole : suc (f.count - 1) ≡ f.count = omega arith in
    ap (λ k. get_or f.nodes k 0) c.from.ensures
    ∙ sym (last-take f.nodes (f.count - 1) (omega arith))
    ∙ ap (λ k. last_fence (take k f.nodes)) whole
    ∙ ap last_fence c.self.view_is
