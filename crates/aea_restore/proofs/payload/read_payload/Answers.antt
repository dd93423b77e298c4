use Rattle.std.proofs.Common.{◌≡◌, refl, sym, ◌∙◌, subst}
use Rattle.aea_lattice.specs.declared.blocks.BlockId.{BlockId}
use Rattle.aea_restore.specs.Drawn.{IsOtherDigest}
use Rattle.aea_shelf.specs.Intact.{payload_in}
use Rattle.aea_restore.specs.Judged.{IsReadClash}
use Rattle.aea_restore.proofs.Judging.{read_home, read_judged, read_other, read_clash, read_intact, digest_between}
use Rattle.aea_restore.proofs.payload.read_payload.Goals as goal

pub returns-in-None-clause-judged : goal.returns-in-None-clause-judged
returns-in-None-clause-judged g c =
    let v = c.args.ledger.now in
    let size = c.read_block.auto.cell ∙ c.requires.buffer in
    read_judged g.D.Disk.reveals v (g.D.Disk.state c.args.disk.now).files c.args.b c.read_block.new.cell size c.in-Ok-Bad.ensures.home
    (sym (digest_between v c.args.b c.read_block.new.cell size) ∙ c.in-None.ensures.none.0 refl ∙ c.recorded-want.ensures)

pub returns-in-Ok-Intact-clause-intact : goal.returns-in-Ok-Intact-clause-intact
returns-in-Ok-Intact-clause-intact g c revealed intact =
    let v = c.args.ledger.now in
    let files = (g.D.Disk.state c.args.disk.now).files in
    let cell = c.read_block.new.cell in
    read_intact g.D.Disk.reveals v files c.args.b (payload_in v.shape cell) revealed intact (read_home g.D.Disk.reveals v files c.args.b cell (c.read_block.auto.cell ∙ c.requires.buffer) c.in-Ok-Intact.ensures.home)

pub returns-in-None-clause-intact : goal.returns-in-None-clause-intact
returns-in-None-clause-intact g c revealed intact =
    let v = c.args.ledger.now in
    let files = (g.D.Disk.state c.args.disk.now).files in
    let cell = c.read_block.new.cell in
    read_intact g.D.Disk.reveals v files c.args.b (payload_in v.shape cell) revealed intact (read_home g.D.Disk.reveals v files c.args.b cell (c.read_block.auto.cell ∙ c.requires.buffer) c.in-Ok-Bad.ensures.home)

pub returns-in-Some-clause-clash : goal.returns-in-Some-clause-clash
returns-in-Some-clause-clash g c d revealed computed is =
    let v = c.args.ledger.now in
    let size = c.read_block.auto.cell ∙ c.requires.buffer in
    let block : c.args.b ≡ d = cc in
    let kept : c.recorded-want.result ≡ revealed = cc in
    let found : c.in-Some.computed ≡ computed = cc in
    subst (λ (a : BlockId). IsOtherDigest v a revealed computed) block
    (read_other v c.args.b c.read_block.new.cell revealed computed c.requires.block size (sym kept ∙ c.recorded-want.ensures)
    (sym found ∙ c.in-Some.ensures.some.0 ∙ digest_between v c.args.b c.read_block.new.cell size) (λ same. c.in-Some.ensures.some.1 (found ∙ same ∙ sym kept)))

pub returns-in-Some-clause-found : goal.returns-in-Some-clause-found
returns-in-Some-clause-found g c d revealed computed is =
    let v = c.args.ledger.now in
    let files = (g.D.Disk.state c.args.disk.now).files in
    let size = c.read_block.auto.cell ∙ c.requires.buffer in
    let block : c.args.b ≡ d = cc in
    let kept : c.recorded-want.result ≡ revealed = cc in
    let found : c.in-Some.computed ≡ computed = cc in (
      sym block,
      subst (λ (a : BlockId). IsReadClash g.D.Disk.reveals v (g.D.Disk.state c.args.disk.now).files a revealed computed) block
          (read_clash g.D.Disk.reveals v files c.args.b c.read_block.new.cell revealed computed c.requires.block size c.in-Ok-Bad.ensures.home (λ reveals. (c.in-Ok-Bad.ensures.bad reveals).0 c.in-Ok-Bad.field-0-is) (sym kept ∙ c.recorded-want.ensures)
          (sym found ∙ c.in-Some.ensures.some.0 ∙ digest_between v c.args.b c.read_block.new.cell size) (λ same. c.in-Some.ensures.some.1 (found ∙ same ∙ sym kept))),
    )
