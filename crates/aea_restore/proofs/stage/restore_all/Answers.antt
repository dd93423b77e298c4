use Rattle.std.proofs.Common.{◌≡◌, Err, map, refl, sym, ◌∙◌, ap, subst}
use Rattle.std.specs.Prelude.{IsTrue, IsOk, ◌||◌}
use Rattle.std.proofs.lemmas.Bool.{or_left, or_right}
use Rattle.std.proofs.lemmas.Result.{on_ok_weaker}
use Rattle.aea_lattice.specs.Closure.{is_among}
use Rattle.aea_view.specs.Marked.{is_marked}
use Rattle.aea_peel.specs.Plans.{blocks_given, is_had}
use Rattle.aea_restore.specs.declared.fault.RestoreFault.TheVariants.{DiskFault}
use Rattle.aea_gauss.specs.declared.fates.Fate.TheVariants.{Sum}
use Rattle.aea_restore.specs.Given.{blocks_summed, IsGiven, CanSum}
use Rattle.aea_restore.specs.InOrder.{sum_of, GoInOrder}
use Rattle.aea_restore.specs.Repairs.{Answer, IsLeft}
use Rattle.aea_restore.proofs.Items.{item_has}
use Rattle.aea_restore.proofs.Ordered.{sum_of_lattice, order_early, order_both}
use Rattle.aea_restore.proofs.Planned.{fates_sum}
use Rattle.aea_archive.proofs.Writes.{cells_both, cells_less_as}
use Rattle.aea_restore.proofs.Loops.{or_assoc, some_more, some_both, goes_both, torn_both, torn_more, stays_both}
use Rattle.aea_restore.proofs.stage.restore_all.Goals as goal

pub returns-in-Err-clause-some : goal.returns-in-Err-clause-some
returns-in-Err-clause-some g c =
    some_more c.args.ledger.now.lattice (λ d. IsTrue (is_among (blocks_given c.args.steps.now) d)) (IsGiven c.args.steps.now c.args.fates.now) c.args.marks.now c.restore_steps.new.marks
    (λ d is. or_left (is_among (blocks_given c.args.steps.now) d) (is_among (blocks_summed c.args.fates.now) d) is) c.restore_steps.ensures.some

pub returns-in-Err-clause-way : goal.returns-in-Err-clause-way
returns-in-Err-clause-way g c fine revealed = c.restore_steps.ensures.way (λ bad. fine (sym c.in-Err.is ∙ bad)) revealed

pub returns-in-Err-clause-torn : goal.returns-in-Err-clause-torn
returns-in-Err-clause-torn g c is revealed =
    torn_more c.args.ledger.now (λ d. IsTrue (is_among (blocks_given c.args.steps.now) d)) (IsGiven c.args.steps.now c.args.fates.now) (is_marked c.args.marks.now) (is_marked c.restore_steps.new.marks) (g.D.Disk.state c.args.disk.now).files (g.D.Disk.state c.restore_steps.new.disk).files
    (λ d one. or_left (is_among (blocks_given c.args.steps.now) d) (is_among (blocks_summed c.args.fates.now) d) one) (c.restore_steps.ensures.torn (c.in-Err.is ∙ is) revealed)

pub returns-in-Err-clause-order : goal.returns-in-Err-clause-order
returns-in-Err-clause-order g c known first way =
    order_early g.D.Disk.reveals c.args.ledger.now known (is_marked c.args.marks.now) (is_marked c.restore_steps.new.marks) first (map sum_of c.args.steps.now) c.args.fates.now (Err c.in-Err.fault) (λ ok. absurd (let e = ok in cc))
    (subst (λ (r : Answer). GoInOrder g.D.Disk.reveals c.args.ledger.now known (is_marked c.args.marks.now) (is_marked c.restore_steps.new.marks) first (map sum_of c.args.steps.now) r) c.in-Err.is (c.restore_steps.ensures.order known first way))

pub returns-in-Err-clause-clash : goal.returns-in-Err-clause-clash
returns-in-Err-clause-clash g c d revealed computed is reveals known first all =
    let clash = c.restore_steps.ensures.clash d revealed computed (c.in-Err.is ∙ is) reveals known first all in
    (or_left (is_among (blocks_given c.args.steps.now) d) (is_among (blocks_summed c.args.fates.now) d) clash.0, clash.1)

pub returns-in-Err-clause-writes : goal.returns-in-Err-clause-writes
returns-in-Err-clause-writes g c =
    cells_less_as g.D.Disk.reveals (c.restore_steps.result ≡ Err DiskFault) _ c.args.ledger.now.shape c.args.ledger.now.lattice.n (IsLeft (λ d. IsTrue (is_among (blocks_given c.args.steps.now) d))) (IsLeft (IsGiven c.args.steps.now c.args.fates.now)) (g.D.Disk.state c.args.disk.now) (g.D.Disk.state c.restore_steps.new.disk)
    (λ d left is. left (or_left (is_among (blocks_given c.args.steps.now) d) (is_among (blocks_summed c.args.fates.now) d) is)) (λ is. c.in-Err.is ∙ is) (λ is. sym c.in-Err.is ∙ is) c.restore_steps.ensures.writes

pub restore_sums-requires-clause-can : goal.restore_sums-requires-clause-can
restore_sums-requires-clause-can g c =
    fates_sum c.args.ledger.now.lattice (is_marked c.args.marks.now) (is_had (is_marked c.args.marks.now) c.args.steps.now) (is_marked c.restore_steps.new.marks) (λ d has is. c.in-Ok.ensures.done d has ∙ is) c.args.fates.now c.requires.plan.sums

pub returns-clause-done : goal.returns-clause-done
returns-clause-done g c =
    on_ok_weaker c.restore_sums.result
    (λ late d has.
    late d has ∙ ap (λ b. b || is_among (blocks_summed c.args.fates.now) d) (c.in-Ok.ensures.done d has)
    ∙ or_assoc (is_marked c.args.marks.now d) (is_among (blocks_given c.args.steps.now) d) (is_among (blocks_summed c.args.fates.now) d))
    c.restore_sums.ensures.done

pub returns-clause-some : goal.returns-clause-some
returns-clause-some g c =
    some_both c.args.ledger.now.lattice (λ d. IsTrue (is_among (blocks_given c.args.steps.now) d)) (λ d. IsTrue (is_among (blocks_summed c.args.fates.now) d)) (IsGiven c.args.steps.now c.args.fates.now) c.args.marks.now c.restore_steps.new.marks c.restore_sums.new.marks
    (λ d is. or_left (is_among (blocks_given c.args.steps.now) d) (is_among (blocks_summed c.args.fates.now) d) is)
    (λ d is. or_right (is_among (blocks_given c.args.steps.now) d) (is_among (blocks_summed c.args.fates.now) d) is) c.restore_steps.ensures.some c.restore_sums.ensures.some

pub returns-clause-way : goal.returns-clause-way
returns-clause-way g c fine revealed =
    goes_both c.args.ledger.now (is_marked c.args.marks.now) (is_marked c.restore_steps.new.marks) (is_marked c.restore_sums.new.marks) (g.D.Disk.state c.args.disk.now).files (g.D.Disk.state c.restore_steps.new.disk).files (g.D.Disk.state c.restore_sums.new.disk).files
    (c.restore_steps.ensures.way (λ bad. absurd (let is = c.in-Ok.is in cc)) revealed) (c.restore_sums.ensures.way fine revealed)

pub returns-clause-torn : goal.returns-clause-torn
returns-clause-torn g c is revealed =
    torn_both c.args.ledger.now (λ d. IsTrue (is_among (blocks_summed c.args.fates.now) d)) (IsGiven c.args.steps.now c.args.fates.now) (is_marked c.args.marks.now) (is_marked c.restore_steps.new.marks) (is_marked c.restore_sums.new.marks) (g.D.Disk.state c.args.disk.now).files (g.D.Disk.state c.restore_steps.new.disk).files (g.D.Disk.state c.restore_sums.new.disk).files
    (λ d one. or_right (is_among (blocks_given c.args.steps.now) d) (is_among (blocks_summed c.args.fates.now) d) one)
    (c.restore_steps.ensures.way (λ bad. absurd (let is = c.in-Ok.is in cc)) revealed) (c.restore_sums.ensures.torn is revealed)

pub returns-clause-drawn : goal.returns-clause-drawn
returns-clause-drawn g c revealed =
    stays_both c.args.ledger.now (is_marked c.args.marks.now) (is_marked c.restore_steps.new.marks) (is_marked c.restore_sums.new.marks) (g.D.Disk.state c.args.disk.now).files (g.D.Disk.state c.restore_steps.new.disk).files (g.D.Disk.state c.restore_sums.new.disk).files
    (c.restore_steps.ensures.drawn revealed) (c.restore_sums.ensures.drawn revealed)

pub returns-clause-order : goal.returns-clause-order
returns-clause-order g c known first way =
    order_both g.D.Disk.reveals c.args.ledger.now known (is_marked c.args.marks.now) (is_marked c.restore_steps.new.marks) (is_marked c.restore_sums.new.marks) first (map sum_of c.args.steps.now) c.args.fates.now c.restore_steps.result c.restore_sums.result (subst IsOk (sym c.in-Ok.is) refl)
    (λ j b es at.
    sum_of_lattice c.args.ledger.now.lattice (is_marked c.restore_steps.new.marks) (Sum b es) b es refl
    (item_has (CanSum c.args.ledger.now.lattice (is_marked c.restore_steps.new.marks)) c.args.fates.now (Sum b es) j at
    (fates_sum c.args.ledger.now.lattice (is_marked c.args.marks.now) (is_had (is_marked c.args.marks.now) c.args.steps.now) (is_marked c.restore_steps.new.marks) (λ d has is. c.in-Ok.ensures.done d has ∙ is) c.args.fates.now c.requires.plan.sums)))
    (c.restore_steps.ensures.order known first way)
    (c.restore_sums.ensures.order known first (λ revealed. c.restore_steps.ensures.way (λ bad. absurd (let is = c.in-Ok.is in cc)) revealed known first (way revealed)))

pub returns-clause-clash : goal.returns-clause-clash
returns-clause-clash g c d revealed computed is reveals known first all =
    let clash = c.restore_sums.ensures.clash d revealed computed is reveals known first (c.restore_steps.ensures.drawn reveals known first all) in
    (or_right (is_among (blocks_given c.args.steps.now) d) (is_among (blocks_summed c.args.fates.now) d) clash.0, clash.1)

pub returns-clause-writes : goal.returns-clause-writes
returns-clause-writes g c =
    cells_both g.D.Disk.reveals (c.restore_steps.result ≡ Err DiskFault) (c.restore_sums.result ≡ Err DiskFault) c.args.ledger.now.shape c.args.ledger.now.lattice.n (IsLeft (IsGiven c.args.steps.now c.args.fates.now)) (IsLeft (λ d. IsTrue (is_among (blocks_given c.args.steps.now) d))) (IsLeft (λ d. IsTrue (is_among (blocks_summed c.args.fates.now) d))) (g.D.Disk.state c.args.disk.now) (g.D.Disk.state c.restore_steps.new.disk) (g.D.Disk.state c.restore_sums.new.disk)
    (λ is. absurd (let e = sym c.in-Ok.is ∙ is in cc))
    (λ d left is. left (or_left (is_among (blocks_given c.args.steps.now) d) (is_among (blocks_summed c.args.fates.now) d) is))
    (λ d left is. left (or_right (is_among (blocks_given c.args.steps.now) d) (is_among (blocks_summed c.args.fates.now) d) is))
    c.restore_steps.ensures.writes c.restore_sums.ensures.writes
