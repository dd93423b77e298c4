use Rattle.std.proofs.Common.{not}
use Rattle.aea_view.specs.Marked.{is_marked}
use Rattle.aea_gauss.proofs.Marking.{flipped_marks}
use Rattle.aea_gauss.proofs.open.solve_open.Goals as goal

pub returns-in_ok-fates-in-None : goal.returns-in_ok-fates-in-None
returns-in_ok-fates-in-None c =
    let known = c.in_ok-known-in-None in
    c.fates_depend_on_blocks.ensures c.args.lattice.now (is_marked known.known) (λ b. not (is_marked c.args.open.now b)) c.in_ok-fates-in-None.fates
    (flipped_marks c.args.lattice.now c.args.open.now known.known c.requires.same known.ensures.lattice known.ensures.marks known.ensures.whole)
    c.in_ok-fates-in-None.ensures
