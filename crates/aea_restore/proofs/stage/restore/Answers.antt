use Rattle.std.proofs.Common.{◌≡◌, inl, Ok, Err, refl, sym, ◌∙◌, ap, subst}
use Rattle.std.specs.Prelude.{IsOk, IsErr}
use Rattle.std.proofs.lemmas.Bool.{or_right}
use Rattle.aea_disk.specs.State.{IsReady}
use Rattle.aea_disk.proofs.Frames.{reads_one, ok_fine}
use Rattle.aea_view.specs.Marked.{is_marked}
use Rattle.aea_archive.specs.Cells.{IsNoSite, FitsRows}
use Rattle.aea_archive.proofs.Cells.{file_kept}
use Rattle.aea_restore.specs.declared.fault.RestoreFault.TheVariants.{DiskFault}
use Rattle.aea_restore.specs.Given.{is_given, IsGiven}
use Rattle.aea_restore.specs.InOrder.{all_sums, GoInOrder}
use Rattle.aea_restore.specs.Repairs.{Answer, IsLeft}
use Rattle.aea_restore.proofs.Drawing.{block_of_shape, block_in_archive, drawn_first, drawn_same}
use Rattle.aea_archive.proofs.Writes.{cells_less_as, cells_then_read, cells_held}
use Rattle.aea_restore.proofs.Ways.{way_first, way_same, ends_all, ends_some}
use Rattle.aea_restore.proofs.Ends.{all_intact, honest_of, never_clash, left_fault, only_given, held_left}
use Rattle.aea_restore.proofs.Ordered.{order_as, order_judged}
use Rattle.aea_restore.proofs.Planned.{given_inside}
use Rattle.aea_restore.proofs.stage.restore.Goals as goal

pub returns-in-Err-clause-left : goal.returns-in-Err-clause-left
returns-in-Err-clause-left g c revealed =
    left_fault c.args.ledger.now (IsGiven c.args.steps.now c.args.fates.now) (is_marked c.args.marks.now) (is_marked c.restore_all.new.marks) (g.D.Disk.state c.args.disk.now).files (g.D.Disk.state c.restore_all.new.disk).files (λ b has. block_of_shape c.args.ledger.now c.lattice-lattice.result b c.lattice-lattice.ensures.value c.lattice-lattice.ensures.of_shape has)
    (λ b is. (given_inside c.args.ledger.now.lattice (is_marked c.args.marks.now) c.args.steps.now c.args.fates.now c.requires.plan b is).0) (λ b is. (given_inside c.args.ledger.now.lattice (is_marked c.args.marks.now) c.args.steps.now c.args.fates.now c.requires.plan b is).1)
    (only_given c.args.ledger.now (IsGiven c.args.steps.now c.args.fates.now) c.args.marks.now c.restore_all.new.marks c.restore_all.ensures.some) c.in-Err.fault
    (λ fine. c.restore_all.ensures.way (λ bad. fine (let e = sym c.in-Err.is ∙ bad in cc)) revealed (is_marked c.args.marks.now) (g.D.Disk.state c.args.disk.now).files (way_first c.args.ledger.now (is_marked c.args.marks.now) (g.D.Disk.state c.args.disk.now).files))
    (λ is. c.restore_all.ensures.torn (c.in-Err.is ∙ ap Err is) revealed (is_marked c.args.marks.now) (g.D.Disk.state c.args.disk.now).files (way_first c.args.ledger.now (is_marked c.args.marks.now) (g.D.Disk.state c.args.disk.now).files))

pub returns-in-Err-clause-writes : goal.returns-in-Err-clause-writes
returns-in-Err-clause-writes g c =
    cells_less_as g.D.Disk.reveals (c.restore_all.result ≡ Err DiskFault) _ c.args.ledger.now.shape c.args.ledger.now.lattice.n (IsLeft (IsGiven c.args.steps.now c.args.fates.now)) (IsLeft (IsGiven c.args.steps.now c.args.fates.now)) (g.D.Disk.state c.args.disk.now) (g.D.Disk.state c.restore_all.new.disk) (λ d left. left) (λ is. c.in-Err.is ∙ is) (λ is. sym c.in-Err.is ∙ is) c.restore_all.ensures.writes

pub returns-in-Err-clause-ledger : goal.returns-in-Err-clause-ledger
returns-in-Err-clause-ledger g c fixed =
    file_kept g.D.Disk.reveals (IsReady (g.D.Disk.state c.args.disk.now)) (FitsRows c.args.ledger.now.shape c.args.ledger.now.lattice.n (g.D.Disk.state c.args.disk.now)) _ c.args.ledger.now.shape c.args.ledger.now.lattice.n (IsLeft (IsGiven c.args.steps.now c.args.fates.now)) (IsNoSite c.args.ledger.now.shape) (g.D.Disk.state c.args.disk.now) (g.D.Disk.state c.restore_all.new.disk) 0 (inl refl) (returns-in-Err-clause-writes g c) fixed

pub returns-in-Err-clause-marks : goal.returns-in-Err-clause-marks
returns-in-Err-clause-marks g c =
    c.restore_all.ensures.some

pub returns-in-Err-clause-order : goal.returns-in-Err-clause-order
returns-in-Err-clause-order g c =
    subst (λ (r : Answer). GoInOrder g.D.Disk.reveals c.args.ledger.now (is_marked c.args.marks.now) (is_marked c.args.marks.now) (is_marked c.restore_all.new.marks) (g.D.Disk.state c.args.disk.now).files (all_sums c.args.steps.now c.args.fates.now) r) c.in-Err.is
    (c.restore_all.ensures.order (is_marked c.args.marks.now) (g.D.Disk.state c.args.disk.now).files (λ revealed. way_first c.args.ledger.now (is_marked c.args.marks.now) (g.D.Disk.state c.args.disk.now).files))

pub returns-in-Err-clause-way : goal.returns-in-Err-clause-way
returns-in-Err-clause-way g c fine revealed = c.restore_all.ensures.way (λ bad. fine (sym c.in-Err.is ∙ bad)) revealed (is_marked c.args.marks.now) (g.D.Disk.state c.args.disk.now).files (way_first c.args.ledger.now (is_marked c.args.marks.now) (g.D.Disk.state c.args.disk.now).files)

pub returns-in-Err-clause-clash : goal.returns-in-Err-clause-clash
returns-in-Err-clause-clash g c d revealed computed is =
    c.restore_all.ensures.other d revealed computed (c.in-Err.is ∙ is)

pub returns-in-Err-clause-computed : goal.returns-in-Err-clause-computed
returns-in-Err-clause-computed g c reveals are d revealed computed is =
    c.restore_all.ensures.clash d revealed computed (c.in-Err.is ∙ is) reveals (is_marked c.args.marks.now) (g.D.Disk.state c.args.disk.now).files (drawn_first c.args.ledger.now (is_marked c.args.marks.now) (g.D.Disk.state c.args.disk.now).files (all_intact c.args.ledger.now (g.D.Disk.state c.args.disk.now).files (is_marked c.args.marks.now) (λ b has. block_in_archive c.args.ledger.now c.lattice-lattice.result b c.lattice-lattice.ensures.value c.lattice-lattice.ensures.of_shape has) are))

pub returns-in-Err-clause-marked : goal.returns-in-Err-clause-marked
returns-in-Err-clause-marked g c reveals are b has is =
    (c.restore_all.ensures.drawn reveals (is_marked c.args.marks.now) (g.D.Disk.state c.args.disk.now).files (drawn_first c.args.ledger.now (is_marked c.args.marks.now) (g.D.Disk.state c.args.disk.now).files (all_intact c.args.ledger.now (g.D.Disk.state c.args.disk.now).files (is_marked c.args.marks.now) (λ b has. block_in_archive c.args.ledger.now c.lattice-lattice.result b c.lattice-lattice.ensures.value c.lattice-lattice.ensures.of_shape has) are))).intact b has is

pub returns-in-Err-clause-held : goal.returns-in-Err-clause-held
returns-in-Err-clause-held g c reveals are b has held =
    cells_held g.D.Disk.reveals _ c.args.ledger.now (IsLeft (IsGiven c.args.steps.now c.args.fates.now)) (g.D.Disk.state c.args.disk.now) (g.D.Disk.state c.restore_all.new.disk) b reveals (block_of_shape c.args.ledger.now c.lattice-lattice.result b c.lattice-lattice.ensures.value c.lattice-lattice.ensures.of_shape has)
    (held_left c.args.ledger.now (IsGiven c.args.steps.now c.args.fates.now) (g.D.Disk.state c.args.disk.now) (is_marked c.args.marks.now) b (λ b has. block_in_archive c.args.ledger.now c.lattice-lattice.result b c.lattice-lattice.ensures.value c.lattice-lattice.ensures.of_shape has) are (λ b is. (given_inside c.args.ledger.now.lattice (is_marked c.args.marks.now) c.args.steps.now c.args.fates.now c.requires.plan b is).1) has held)
    (returns-in-Err-clause-writes g c) held

pub returns-in-Err-clause-honest : goal.returns-in-Err-clause-honest
returns-in-Err-clause-honest g c reveals are records datas has recorded honest =
    honest_of c.args.ledger.now (is_marked c.args.marks.now) (is_marked c.restore_all.new.marks) (g.D.Disk.state c.args.disk.now).files (g.D.Disk.state c.restore_all.new.disk).files records datas has recorded honest (c.restore_all.ensures.drawn reveals (is_marked c.args.marks.now) (g.D.Disk.state c.args.disk.now).files (drawn_first c.args.ledger.now (is_marked c.args.marks.now) (g.D.Disk.state c.args.disk.now).files (all_intact c.args.ledger.now (g.D.Disk.state c.args.disk.now).files (is_marked c.args.marks.now) (λ b has. block_in_archive c.args.ledger.now c.lattice-lattice.result b c.lattice-lattice.ensures.value c.lattice-lattice.ensures.of_shape has) are)))

pub returns-in-Err-clause-no_clash : goal.returns-in-Err-clause-no_clash
returns-in-Err-clause-no_clash g c reveals are records datas has recorded honest d revealed computed is =
    never_clash c.args.ledger.now (is_marked c.args.marks.now) (g.D.Disk.state c.args.disk.now).files records datas d revealed computed has recorded honest (all_intact c.args.ledger.now (g.D.Disk.state c.args.disk.now).files (is_marked c.args.marks.now) (λ b has. block_in_archive c.args.ledger.now c.lattice-lattice.result b c.lattice-lattice.ensures.value c.lattice-lattice.ensures.of_shape has) are)
    (c.restore_all.ensures.clash d revealed computed (c.in-Err.is ∙ is) reveals (is_marked c.args.marks.now) (g.D.Disk.state c.args.disk.now).files (drawn_first c.args.ledger.now (is_marked c.args.marks.now) (g.D.Disk.state c.args.disk.now).files (all_intact c.args.ledger.now (g.D.Disk.state c.args.disk.now).files (is_marked c.args.marks.now) (λ b has. block_in_archive c.args.ledger.now c.lattice-lattice.result b c.lattice-lattice.ensures.value c.lattice-lattice.ensures.of_shape has) are))).1

pub returns-in-Ok-sync-clause-left : goal.returns-in-Ok-sync-clause-left
returns-in-Ok-sync-clause-left g c revealed =
    ends_all c.args.ledger.now (IsGiven c.args.steps.now c.args.fates.now) (is_marked c.args.marks.now) (is_marked c.restore_all.new.marks) (g.D.Disk.state c.args.disk.now).files (g.D.Disk.state c.sync.new.self).files (λ b has. block_of_shape c.args.ledger.now c.lattice-lattice.result b c.lattice-lattice.ensures.value c.lattice-lattice.ensures.of_shape has)
    (λ b is. (given_inside c.args.ledger.now.lattice (is_marked c.args.marks.now) c.args.steps.now c.args.fates.now c.requires.plan b is).0) (λ b is. (given_inside c.args.ledger.now.lattice (is_marked c.args.marks.now) c.args.steps.now c.args.fates.now c.requires.plan b is).1)
    (only_given c.args.ledger.now (IsGiven c.args.steps.now c.args.fates.now) c.args.marks.now c.restore_all.new.marks c.restore_all.ensures.some) (way_same c.args.ledger.now (is_marked c.args.marks.now) (is_marked c.restore_all.new.marks) (g.D.Disk.state c.args.disk.now).files (g.D.Disk.state c.restore_all.new.disk).files (g.D.Disk.state c.sync.new.self).files (c.sync.ensures.contents revealed)
    (c.restore_all.ensures.way (λ bad. absurd (let is = c.in-Ok.is in cc)) revealed (is_marked c.args.marks.now) (g.D.Disk.state c.args.disk.now).files (way_first c.args.ledger.now (is_marked c.args.marks.now) (g.D.Disk.state c.args.disk.now).files)))
    (λ b is. c.in-Ok.ensures.done b (given_inside c.args.ledger.now.lattice (is_marked c.args.marks.now) c.args.steps.now c.args.fates.now c.requires.plan b is).0 ∙ or_right (is_marked c.args.marks.now b) (is_given c.args.steps.now c.args.fates.now b) is)

pub returns-in-Ok-sync-clause-writes : goal.returns-in-Ok-sync-clause-writes
returns-in-Ok-sync-clause-writes g c =
    cells_less_as g.D.Disk.reveals (IsErr c.sync.result) _ c.args.ledger.now.shape c.args.ledger.now.lattice.n (IsLeft (IsGiven c.args.steps.now c.args.fates.now)) (IsLeft (IsGiven c.args.steps.now c.args.fates.now)) (g.D.Disk.state c.args.disk.now) (g.D.Disk.state c.sync.new.self) (λ d left. left) (λ is. absurd (let e = is in cc)) (λ is. absurd (ok_fine c.in-Ok-sync.is is))
    (cells_then_read c.homes_are_on_its_sites.ensures g.D.Disk.reveals (c.restore_all.result ≡ Err DiskFault) (IsErr c.sync.result) c.args.ledger.now.shape c.args.ledger.now.lattice.n (IsLeft (IsGiven c.args.steps.now c.args.fates.now)) (g.D.Disk.state c.args.disk.now) (g.D.Disk.state c.restore_all.new.disk) (g.D.Disk.state c.sync.new.self) (λ is. absurd (let e = sym c.in-Ok.is ∙ is in cc)) c.restore_all.ensures.writes
    (reads_one g.D.Disk.reveals (g.D.Disk.state c.restore_all.new.disk) (g.D.Disk.state c.sync.new.self) c.sync.result c.sync.ensures.contents c.sync.ensures.crash c.sync.ensures.settled c.sync.ensures.time c.sync.ensures.cause c.sync.ensures.sure))

pub returns-in-Ok-sync-clause-ledger : goal.returns-in-Ok-sync-clause-ledger
returns-in-Ok-sync-clause-ledger g c fixed =
    file_kept g.D.Disk.reveals (IsReady (g.D.Disk.state c.args.disk.now)) (FitsRows c.args.ledger.now.shape c.args.ledger.now.lattice.n (g.D.Disk.state c.args.disk.now)) _ c.args.ledger.now.shape c.args.ledger.now.lattice.n (IsLeft (IsGiven c.args.steps.now c.args.fates.now)) (IsNoSite c.args.ledger.now.shape) (g.D.Disk.state c.args.disk.now) (g.D.Disk.state c.sync.new.self) 0 (inl refl) (returns-in-Ok-sync-clause-writes g c) fixed

pub returns-in-Ok-sync-clause-marks : goal.returns-in-Ok-sync-clause-marks
returns-in-Ok-sync-clause-marks g c =
    (c.restore_all.ensures.some, λ b is. c.in-Ok.ensures.done b (given_inside c.args.ledger.now.lattice (is_marked c.args.marks.now) c.args.steps.now c.args.fates.now c.requires.plan b is).0 ∙ or_right (is_marked c.args.marks.now b) (is_given c.args.steps.now c.args.fates.now b) is)

pub returns-in-Ok-sync-clause-order : goal.returns-in-Ok-sync-clause-order
returns-in-Ok-sync-clause-order g c =
    order_as g.D.Disk.reveals c.args.ledger.now (is_marked c.args.marks.now) (is_marked c.args.marks.now) (is_marked c.restore_all.new.marks) (g.D.Disk.state c.args.disk.now).files (all_sums c.args.steps.now c.args.fates.now) c.restore_all.result (Ok tt) (λ ok. subst IsOk (sym c.in-Ok.is) refl) (λ d revealed computed is. cc)
    (c.restore_all.ensures.order (is_marked c.args.marks.now) (g.D.Disk.state c.args.disk.now).files (λ revealed. way_first c.args.ledger.now (is_marked c.args.marks.now) (g.D.Disk.state c.args.disk.now).files))

pub returns-in-Ok-sync-clause-judged : goal.returns-in-Ok-sync-clause-judged
returns-in-Ok-sync-clause-judged g c revealed =
    order_judged g.D.Disk.reveals c.args.ledger.now (is_marked c.args.marks.now) (is_marked c.restore_all.new.marks) (g.D.Disk.state c.args.disk.now).files (all_sums c.args.steps.now c.args.fates.now) (Ok tt) revealed refl
    (λ b has. block_of_shape c.args.ledger.now c.lattice-lattice.result b c.lattice-lattice.ensures.value c.lattice-lattice.ensures.of_shape has) (returns-in-Ok-sync-clause-order g c)

pub returns-in-Ok-sync-clause-way : goal.returns-in-Ok-sync-clause-way
returns-in-Ok-sync-clause-way g c fine revealed =
    way_same c.args.ledger.now (is_marked c.args.marks.now) (is_marked c.restore_all.new.marks) (g.D.Disk.state c.args.disk.now).files (g.D.Disk.state c.restore_all.new.disk).files (g.D.Disk.state c.sync.new.self).files (c.sync.ensures.contents revealed)
    (c.restore_all.ensures.way (λ bad. absurd (let is = c.in-Ok.is in cc)) revealed (is_marked c.args.marks.now) (g.D.Disk.state c.args.disk.now).files (way_first c.args.ledger.now (is_marked c.args.marks.now) (g.D.Disk.state c.args.disk.now).files))

pub returns-in-Ok-sync-clause-marked : goal.returns-in-Ok-sync-clause-marked
returns-in-Ok-sync-clause-marked g c reveals are b has is =
    (drawn_same c.args.ledger.now (is_marked c.args.marks.now) (is_marked c.restore_all.new.marks) (g.D.Disk.state c.args.disk.now).files (g.D.Disk.state c.restore_all.new.disk).files (g.D.Disk.state c.sync.new.self).files (c.sync.ensures.contents reveals) (c.restore_all.ensures.drawn reveals (is_marked c.args.marks.now) (g.D.Disk.state c.args.disk.now).files (drawn_first c.args.ledger.now (is_marked c.args.marks.now) (g.D.Disk.state c.args.disk.now).files (all_intact c.args.ledger.now (g.D.Disk.state c.args.disk.now).files (is_marked c.args.marks.now) (λ b has. block_in_archive c.args.ledger.now c.lattice-lattice.result b c.lattice-lattice.ensures.value c.lattice-lattice.ensures.of_shape has) are)))).intact b has is

pub returns-in-Ok-sync-clause-held : goal.returns-in-Ok-sync-clause-held
returns-in-Ok-sync-clause-held g c reveals are b has held =
    cells_held g.D.Disk.reveals _ c.args.ledger.now (IsLeft (IsGiven c.args.steps.now c.args.fates.now)) (g.D.Disk.state c.args.disk.now) (g.D.Disk.state c.sync.new.self) b reveals (block_of_shape c.args.ledger.now c.lattice-lattice.result b c.lattice-lattice.ensures.value c.lattice-lattice.ensures.of_shape has)
    (held_left c.args.ledger.now (IsGiven c.args.steps.now c.args.fates.now) (g.D.Disk.state c.args.disk.now) (is_marked c.args.marks.now) b (λ b has. block_in_archive c.args.ledger.now c.lattice-lattice.result b c.lattice-lattice.ensures.value c.lattice-lattice.ensures.of_shape has) are (λ b is. (given_inside c.args.ledger.now.lattice (is_marked c.args.marks.now) c.args.steps.now c.args.fates.now c.requires.plan b is).1) has held)
    (returns-in-Ok-sync-clause-writes g c) held

pub returns-in-Ok-sync-clause-honest : goal.returns-in-Ok-sync-clause-honest
returns-in-Ok-sync-clause-honest g c reveals are records datas has recorded honest =
    honest_of c.args.ledger.now (is_marked c.args.marks.now) (is_marked c.restore_all.new.marks) (g.D.Disk.state c.args.disk.now).files (g.D.Disk.state c.sync.new.self).files records datas has recorded honest (drawn_same c.args.ledger.now (is_marked c.args.marks.now) (is_marked c.restore_all.new.marks) (g.D.Disk.state c.args.disk.now).files (g.D.Disk.state c.restore_all.new.disk).files (g.D.Disk.state c.sync.new.self).files (c.sync.ensures.contents reveals) (c.restore_all.ensures.drawn reveals (is_marked c.args.marks.now) (g.D.Disk.state c.args.disk.now).files (drawn_first c.args.ledger.now (is_marked c.args.marks.now) (g.D.Disk.state c.args.disk.now).files (all_intact c.args.ledger.now (g.D.Disk.state c.args.disk.now).files (is_marked c.args.marks.now) (λ b has. block_in_archive c.args.ledger.now c.lattice-lattice.result b c.lattice-lattice.ensures.value c.lattice-lattice.ensures.of_shape has) are))))

pub returns-in-Err-sync-clause-left : goal.returns-in-Err-sync-clause-left
returns-in-Err-sync-clause-left g c revealed =
    inl (ends_some c.args.ledger.now (IsGiven c.args.steps.now c.args.fates.now) (is_marked c.args.marks.now) (is_marked c.restore_all.new.marks) (g.D.Disk.state c.args.disk.now).files (g.D.Disk.state c.sync.new.self).files (λ b has. block_of_shape c.args.ledger.now c.lattice-lattice.result b c.lattice-lattice.ensures.value c.lattice-lattice.ensures.of_shape has)
    (λ b is. (given_inside c.args.ledger.now.lattice (is_marked c.args.marks.now) c.args.steps.now c.args.fates.now c.requires.plan b is).0) (λ b is. (given_inside c.args.ledger.now.lattice (is_marked c.args.marks.now) c.args.steps.now c.args.fates.now c.requires.plan b is).1)
    (only_given c.args.ledger.now (IsGiven c.args.steps.now c.args.fates.now) c.args.marks.now c.restore_all.new.marks c.restore_all.ensures.some) (way_same c.args.ledger.now (is_marked c.args.marks.now) (is_marked c.restore_all.new.marks) (g.D.Disk.state c.args.disk.now).files (g.D.Disk.state c.restore_all.new.disk).files (g.D.Disk.state c.sync.new.self).files (c.sync.ensures.contents revealed)
    (c.restore_all.ensures.way (λ bad. absurd (let is = c.in-Ok.is in cc)) revealed (is_marked c.args.marks.now) (g.D.Disk.state c.args.disk.now).files (way_first c.args.ledger.now (is_marked c.args.marks.now) (g.D.Disk.state c.args.disk.now).files))))

pub returns-in-Err-sync-clause-writes : goal.returns-in-Err-sync-clause-writes
returns-in-Err-sync-clause-writes g c =
    cells_less_as g.D.Disk.reveals (IsErr c.sync.result) _ c.args.ledger.now.shape c.args.ledger.now.lattice.n (IsLeft (IsGiven c.args.steps.now c.args.fates.now)) (IsLeft (IsGiven c.args.steps.now c.args.fates.now)) (g.D.Disk.state c.args.disk.now) (g.D.Disk.state c.sync.new.self) (λ d left. left) (λ is. subst IsErr (sym c.in-Err-sync.is) refl) (λ is. cc)
    (cells_then_read c.homes_are_on_its_sites.ensures g.D.Disk.reveals (c.restore_all.result ≡ Err DiskFault) (IsErr c.sync.result) c.args.ledger.now.shape c.args.ledger.now.lattice.n (IsLeft (IsGiven c.args.steps.now c.args.fates.now)) (g.D.Disk.state c.args.disk.now) (g.D.Disk.state c.restore_all.new.disk) (g.D.Disk.state c.sync.new.self) (λ is. absurd (let e = sym c.in-Ok.is ∙ is in cc)) c.restore_all.ensures.writes
    (reads_one g.D.Disk.reveals (g.D.Disk.state c.restore_all.new.disk) (g.D.Disk.state c.sync.new.self) c.sync.result c.sync.ensures.contents c.sync.ensures.crash c.sync.ensures.settled c.sync.ensures.time c.sync.ensures.cause c.sync.ensures.sure))

pub returns-in-Err-sync-clause-ledger : goal.returns-in-Err-sync-clause-ledger
returns-in-Err-sync-clause-ledger g c fixed =
    file_kept g.D.Disk.reveals (IsReady (g.D.Disk.state c.args.disk.now)) (FitsRows c.args.ledger.now.shape c.args.ledger.now.lattice.n (g.D.Disk.state c.args.disk.now)) _ c.args.ledger.now.shape c.args.ledger.now.lattice.n (IsLeft (IsGiven c.args.steps.now c.args.fates.now)) (IsNoSite c.args.ledger.now.shape) (g.D.Disk.state c.args.disk.now) (g.D.Disk.state c.sync.new.self) 0 (inl refl) (returns-in-Err-sync-clause-writes g c) fixed

pub returns-in-Err-sync-clause-marks : goal.returns-in-Err-sync-clause-marks
returns-in-Err-sync-clause-marks g c =
    c.restore_all.ensures.some

pub returns-in-Err-sync-clause-order : goal.returns-in-Err-sync-clause-order
returns-in-Err-sync-clause-order g c =
    order_as g.D.Disk.reveals c.args.ledger.now (is_marked c.args.marks.now) (is_marked c.args.marks.now) (is_marked c.restore_all.new.marks) (g.D.Disk.state c.args.disk.now).files (all_sums c.args.steps.now c.args.fates.now) c.restore_all.result (Err DiskFault) (λ ok. absurd (let e = ok in cc)) (λ d revealed computed is. cc)
    (c.restore_all.ensures.order (is_marked c.args.marks.now) (g.D.Disk.state c.args.disk.now).files (λ revealed. way_first c.args.ledger.now (is_marked c.args.marks.now) (g.D.Disk.state c.args.disk.now).files))

pub returns-in-Err-sync-clause-marked : goal.returns-in-Err-sync-clause-marked
returns-in-Err-sync-clause-marked g c reveals are b has is =
    (drawn_same c.args.ledger.now (is_marked c.args.marks.now) (is_marked c.restore_all.new.marks) (g.D.Disk.state c.args.disk.now).files (g.D.Disk.state c.restore_all.new.disk).files (g.D.Disk.state c.sync.new.self).files (c.sync.ensures.contents reveals) (c.restore_all.ensures.drawn reveals (is_marked c.args.marks.now) (g.D.Disk.state c.args.disk.now).files (drawn_first c.args.ledger.now (is_marked c.args.marks.now) (g.D.Disk.state c.args.disk.now).files (all_intact c.args.ledger.now (g.D.Disk.state c.args.disk.now).files (is_marked c.args.marks.now) (λ b has. block_in_archive c.args.ledger.now c.lattice-lattice.result b c.lattice-lattice.ensures.value c.lattice-lattice.ensures.of_shape has) are)))).intact b has is

pub returns-in-Err-sync-clause-held : goal.returns-in-Err-sync-clause-held
returns-in-Err-sync-clause-held g c reveals are b has held =
    cells_held g.D.Disk.reveals _ c.args.ledger.now (IsLeft (IsGiven c.args.steps.now c.args.fates.now)) (g.D.Disk.state c.args.disk.now) (g.D.Disk.state c.sync.new.self) b reveals (block_of_shape c.args.ledger.now c.lattice-lattice.result b c.lattice-lattice.ensures.value c.lattice-lattice.ensures.of_shape has)
    (held_left c.args.ledger.now (IsGiven c.args.steps.now c.args.fates.now) (g.D.Disk.state c.args.disk.now) (is_marked c.args.marks.now) b (λ b has. block_in_archive c.args.ledger.now c.lattice-lattice.result b c.lattice-lattice.ensures.value c.lattice-lattice.ensures.of_shape has) are (λ b is. (given_inside c.args.ledger.now.lattice (is_marked c.args.marks.now) c.args.steps.now c.args.fates.now c.requires.plan b is).1) has held)
    (returns-in-Err-sync-clause-writes g c) held

pub returns-in-Err-sync-clause-honest : goal.returns-in-Err-sync-clause-honest
returns-in-Err-sync-clause-honest g c reveals are records datas has recorded honest =
    honest_of c.args.ledger.now (is_marked c.args.marks.now) (is_marked c.restore_all.new.marks) (g.D.Disk.state c.args.disk.now).files (g.D.Disk.state c.sync.new.self).files records datas has recorded honest (drawn_same c.args.ledger.now (is_marked c.args.marks.now) (is_marked c.restore_all.new.marks) (g.D.Disk.state c.args.disk.now).files (g.D.Disk.state c.restore_all.new.disk).files (g.D.Disk.state c.sync.new.self).files (c.sync.ensures.contents reveals) (c.restore_all.ensures.drawn reveals (is_marked c.args.marks.now) (g.D.Disk.state c.args.disk.now).files (drawn_first c.args.ledger.now (is_marked c.args.marks.now) (g.D.Disk.state c.args.disk.now).files (all_intact c.args.ledger.now (g.D.Disk.state c.args.disk.now).files (is_marked c.args.marks.now) (λ b has. block_in_archive c.args.ledger.now c.lattice-lattice.result b c.lattice-lattice.ensures.value c.lattice-lattice.ensures.of_shape has) are))))
