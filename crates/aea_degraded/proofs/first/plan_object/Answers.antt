use Rattle.std.proofs.Common.{List, sym, subst}
use Rattle.std.specs.Prelude.{All}
use Rattle.std.specs.FinMap.{get}
use Rattle.aea_lattice.specs.declared.grid.Lattice.{Lattice}
use Rattle.aea_lattice.specs.Blocks.{HasBlock}
use Rattle.aea_archive.specs.Objects.{data_under}
use Rattle.aea_gauss.specs.declared.fates.Fate.{Fate}
use Rattle.aea_gauss.specs.Fates.{IsFate}
use Rattle.aea_search.specs.Searches.{Searched, IsRightBy}
use Rattle.aea_degraded.specs.Planned.{AreFatesOf, IsRightPlan}
use Rattle.aea_degraded.proofs.Looked.{read_marked}
use Rattle.aea_degraded.proofs.first.plan_object.Goals as goal

pub returns-in-Ok-fates-clause-fates : goal.returns-in-Ok-fates-clause-fates
returns-in-Ok-fates-clause-fates g c =
    let l = c.args.ledger.now.lattice in
    let plan = c.plan_of.result in
    let are : AreFatesOf l c.in-Ok.search.unknown c.in-Ok-fates.fates =
    subst (λ (x : Lattice). AreFatesOf x c.in-Ok.search.unknown c.in-Ok-fates.fates) c.lattice.ensures.value c.in-Ok-fates.ensures.unknown in
    subst (λ (s : Searched). AreFatesOf l s.unknown plan.fates) (sym c.plan_of.ensures.search)
    (subst (λ (fs : List Fate). AreFatesOf l c.in-Ok.search.unknown fs) (sym c.plan_of.ensures.fates) are)

pub returns-in-Ok-fates-clause-right : goal.returns-in-Ok-fates-clause-right
returns-in-Ok-fates-clause-right g c revealed known survivors =
    let v = c.args.ledger.now in
    let l = v.lattice in
    let files = (g.D.Disk.state c.args.disk.now).files in
    let plan = c.plan_of.result in
    let blocks = data_under (get v.objects c.args.name.now) in
    let right : IsRightBy l known c.in-Ok.search = c.in-Ok.ensures.right revealed known survivors in
    let inside : All (HasBlock l) blocks = subst (All (HasBlock l)) c.new-blocks.ensures.all c.new-blocks.ensures.inside in
    let fates : All (IsFate l known) c.in-Ok-fates.fates =
    subst (λ (x : Lattice). All (IsFate x known) c.in-Ok-fates.fates) c.lattice.ensures.value
    (c.in-Ok-fates.ensures.known c.in-Ok.ensures.done known (subst (λ (x : Lattice). IsRightBy x known c.in-Ok.search) (sym c.lattice.ensures.value) right)) in
    let are : IsRightPlan v files c.in-Ok.search.unknown c.in-Ok-fates.fates blocks known = record {
      survivors = survivors;
      right = fates;
      marked = read_marked l known c.in-Ok.search right blocks inside c.in-Ok.ensures.read;
    } in
    subst (λ (s : Searched). IsRightPlan v files s.unknown plan.fates blocks known) (sym c.plan_of.ensures.search)
    (subst (λ (fs : List Fate). IsRightPlan v files c.in-Ok.search.unknown fs blocks known) (sym c.plan_of.ensures.fates) are)
