use Rattle.std.proofs.Common.{◌≡◌, ◌+◌, ◌/◌, ◌≤◌, ◌∙◌, ap, subst, arith}
use Rattle.aea_lattice.specs.Blocks.{blocks_count}
use Rattle.aea_sites.proofs.Rows.{rows_all}
use Rattle.aea_sites.proofs.missing.mark_site.Goals as goal

pub returns-clause-marks : goal.returns-clause-marks
returns-clause-marks c =
    let m = c.args.marks.now in
    let count : c.from.result ≡ blocks_count m.lattice = c.from.ensures ∙ c.blocks-2.ensures.count ∙ ap blocks_count c.lattice.ensures.lattice in
    rows_all m c.loop-cell.marks c.args.sites c.args.site c.loop-cell.cell c.requires.some
    (subst (λ n. n / c.args.sites + 1 ≤ c.loop-cell.cell) count
    (subst (λ n. c.from.result / n + 1 ≤ c.loop-cell.cell) c.from-2.ensures (omega (arith, c.loop-cell-test.false))))
    c.loop-cell.invariant.rows
