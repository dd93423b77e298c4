use Rattle.std.proofs.Common.{not}
use Rattle.aea_view.specs.Marked.{is_marked}
use Rattle.aea_sites.proofs.ByFates.{fates_few, known_of_open}
use Rattle.aea_sites.proofs.few.loss_of_few.Goals as goal

pub loss_by-requires : goal.loss_by-requires
loss_by-requires c = fates_few c.args.lattice.now (λ b. not (is_marked c.args.open.now b)) c.in_ok-fates.fates c.in_ok-fates.ensures

pub returns : goal.returns
returns c known are =
    let l = c.args.lattice.now in
    c.loss_by.ensures l known
    (c.fates_depend_on_blocks.ensures l (λ b. not (is_marked c.args.open.now b)) known c.in_ok-fates.fates
    (known_of_open l c.args.open.now known c.requires are) c.in_ok-fates.ensures)
