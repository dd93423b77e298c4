use Rattle.std.proofs.Common.{◌≡◌, ◌<◌, Bool, All, length, sym, ◌∙◌, subst, arith}
use Rattle.aea_lattice.specs.declared.blocks.BlockId.{BlockId}
use Rattle.aea_lattice.specs.Equations.{HasEquation}
use Rattle.aea_view.specs.Marked.{is_marked}
use Rattle.aea_fates.specs.Live.{live_equations}
use Rattle.aea_gauss.proofs.equations.live_equations.Goals as goal
use Rattle.aea_readings.proofs.Standing.{live_inside, live_few}
use Rattle.aea_gauss.proofs.Filling.{live_whole}

pub returns-clause-inside : goal.returns-clause-inside
returns-clause-inside c =
    let kn : BlockId → Bool = is_marked c.args.known.now in
    let e : c.loop-e.live.items ≡ live_equations c.args.lattice.now kn =
    live_whole c.args.lattice.now kn c.loop-e.live.items c.as_slice-e-items.result.now c.loop-e.e-index c.loop-e.invariant (omega arith)
    (c.as_slice-e-items.ensures.value ∙ c.in_ok-all.ensures.all) in
    subst (All (HasEquation c.args.lattice.now)) (sym e) (live_inside c.args.lattice.now kn)

pub returns-clause-few : goal.returns-clause-few
returns-clause-few c =
    let kn : BlockId → Bool = is_marked c.args.known.now in
    let e : c.loop-e.live.items ≡ live_equations c.args.lattice.now kn =
    live_whole c.args.lattice.now kn c.loop-e.live.items c.as_slice-e-items.result.now c.loop-e.e-index c.loop-e.invariant (omega arith)
    (c.as_slice-e-items.ensures.value ∙ c.in_ok-all.ensures.all) in
    subst (λ es. length es < 8388608) (sym e) (live_few c.args.lattice.now kn)
