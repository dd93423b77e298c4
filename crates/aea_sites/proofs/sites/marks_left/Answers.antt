use Rattle.std.proofs.Common.{◌||◌}
use Rattle.aea_sites.proofs.Flipped.{flipped}
use Rattle.aea_sites.specs.Sites.{is_on}
use Rattle.aea_sites.proofs.Rows.{both_marked}
use Rattle.aea_sites.proofs.sites.marks_left.Goals as goal

pub returns-clause-marks : goal.returns-clause-marks
returns-clause-marks c =
    let l = c.args.lattice.now in
    let missing = c.mark_site-2.new.marks in
    flipped missing c.in_ok-left.left (λ d. is_on l c.args.sites c.args.a d || is_on l c.args.sites c.args.b d)
    (record { same = c.in_ok-left.ensures.lattice; marks = c.in_ok-left.ensures.marks; whole = c.in_ok-left.ensures.whole })
    (both_marked l c.in_ok-missing.missing c.mark_site.new.marks missing c.args.sites c.args.a c.args.b c.in_ok-missing.ensures.lattice c.in_ok-missing.ensures.marks
    c.mark_site.ensures.lattice c.mark_site-2.ensures.lattice c.mark_site.ensures.marks c.mark_site-2.ensures.marks)
