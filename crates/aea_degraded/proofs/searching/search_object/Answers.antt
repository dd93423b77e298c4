use Rattle.std.proofs.Common.{◌≡◌, true, ◌∙◌, ap, subst, Err}
use Rattle.std.specs.Prelude.{All}
use Rattle.aea_lattice.specs.declared.blocks.BlockId.{BlockId}
use Rattle.aea_lattice.specs.Blocks.{HasBlock}
use Rattle.aea_view.specs.Marked.{is_marked}
use Rattle.aea_disk.proofs.Frames.{reads_none, reads_both, reads_as}
use Rattle.aea_search.specs.declared.searching.SearchFault.TheVariants.{DiskFault}
use Rattle.aea_search.proofs.Going.{goes_both, survivors_right, in_archive}
use Rattle.aea_degraded.proofs.Looked.{all_both}
use Rattle.aea_degraded.proofs.searching.search_object.Goals as goal

pub returns-in-Err-clause-reads : goal.returns-in-Err-clause-reads
returns-in-Err-clause-reads g c = reads_none g.D.Disk.reveals _ (g.D.Disk.state c.args.disk.now) (λ is. let e = is in cc)

pub returns-in-Ok-finish-clause-read : goal.returns-in-Ok-finish-clause-read
returns-in-Ok-finish-clause-read g c =
    let l = c.args.ledger.now.lattice in
    let first = λ (b : BlockId). is_marked c.look_at.new.search.read b ≡ true in
    let last = λ (b : BlockId). is_marked c.finish.new.self.read b ≡ true in
    subst (All last) c.new-blocks.ensures.all
    (all_both (HasBlock l) first last (λ b has is. c.finish.ensures.goes.read b has is) c.new-blocks.result c.new-blocks.ensures.inside c.in-Ok-look_at.ensures.read)

pub returns-in-Ok-finish-clause-right : goal.returns-in-Ok-finish-clause-right
returns-in-Ok-finish-clause-right g c revealed known survivors =
    let v = c.args.ledger.now in
    let files = (g.D.Disk.state c.args.disk.now).files in
    let goes = goes_both g.D.Disk.reveals v files (g.D.Disk.state c.look_at.new.disk).files c.in-Ok.search c.look_at.new.search c.finish.new.self c.look_at.ensures.reads.contents c.look_at.ensures.goes c.finish.ensures.goes in
    survivors_right g.D.Disk.reveals v files c.in-Ok.search c.finish.new.self known revealed c.in-Ok.ensures goes
    (in_archive v c.lattice-lattice.result c.lattice-lattice.ensures.value c.lattice-lattice.ensures.of_shape) survivors

pub returns-in-Ok-finish-clause-reads : goal.returns-in-Ok-finish-clause-reads
returns-in-Ok-finish-clause-reads g c =
    let first = c.look_at.result ≡ Err DiskFault in
    let second = c.finish.result ≡ Err DiskFault in
    reads_as g.D.Disk.reveals second _ (g.D.Disk.state c.args.disk.now) (g.D.Disk.state c.finish.new.disk) (λ is. let e = is in cc) (λ is. absurd (let ok = c.in-Ok-finish.is in cc))
    (reads_both g.D.Disk.reveals first second (g.D.Disk.state c.args.disk.now) (g.D.Disk.state c.look_at.new.disk) (g.D.Disk.state c.finish.new.disk) (λ is. let ok = c.in-Ok-look_at.is in cc) c.look_at.ensures.reads c.finish.ensures.reads)

pub returns-in-Err-finish-clause-reads : goal.returns-in-Err-finish-clause-reads
returns-in-Err-finish-clause-reads g c =
    let first = c.look_at.result ≡ Err DiskFault in
    let second = c.finish.result ≡ Err DiskFault in
    reads_as g.D.Disk.reveals second _ (g.D.Disk.state c.args.disk.now) (g.D.Disk.state c.finish.new.disk) (λ is. c.in-Err-finish.is ∙ (let h : c.in-Err-finish.fault ≡ DiskFault = (let e = is in cc) in ap Err h)) (λ is. cc)
    (reads_both g.D.Disk.reveals first second (g.D.Disk.state c.args.disk.now) (g.D.Disk.state c.look_at.new.disk) (g.D.Disk.state c.finish.new.disk) (λ is. let ok = c.in-Ok-look_at.is in cc) c.look_at.ensures.reads c.finish.ensures.reads)
