use Rattle.std.proofs.Common.{◌≡◌, ◌≢◌, inl, inr, [], ◌∷◌, replicate, Err, sym, ◌∙◌, ap, subst}
use Rattle.std.proofs.lemmas.Result.{on_ok_weaker}
use Rattle.std.proofs.lemmas.List.Elements.{All-head}
use Rattle.aea_lattice.specs.Equations.{HasEquation}
use Rattle.aea_lattice.specs.declared.blocks.BlockId.{BlockId}
use Rattle.aea_view.specs.Marked.{is_marked}
use Rattle.aea_restore.specs.declared.fault.RestoreFault.TheVariants.{DiskFault}
use Rattle.aea_restore.specs.Drawn.{IsOtherDigest}
use Rattle.aea_archive.proofs.Writes.{cells_none, cells_read, read_then_cells}
use Rattle.aea_restore.proofs.Blocks.{read_failed, read_then_goes, read_then_torn, added_stays, added_clash}
use Rattle.aea_restore.proofs.Judging.{judged_added, read_never, computed_one, computed_clash}
use Rattle.aea_restore.proofs.block.restore_step.Goals as goal

pub returns-then-get-clause-writes : goal.returns-then-get-clause-writes
returns-then-get-clause-writes g c = cells_none g.D.Disk.reveals _ c.args.ledger.now.shape c.args.ledger.now.lattice.n (λ a. a ≢ c.args.step.block) (g.D.Disk.state c.args.disk.now) (λ is. absurd (let e = is in cc))

pub add_equation-requires-clause-equation : goal.add_equation-requires-clause-equation
add_equation-requires-clause-equation g c = All-head (HasEquation c.args.ledger.now.lattice) c.args.step.by [] c.requires.gives.valid

pub returns-in-Err-clause-torn : goal.returns-in-Err-clause-torn
returns-in-Err-clause-torn g c is revealed =
    read_failed c.args.ledger.now (is_marked c.args.marks.now) c.args.step.block (g.D.Disk.state c.args.disk.now).files (g.D.Disk.state c.add_equation.new.disk).files (sym c.get.ensures ∙ c.if-get.false) (c.add_equation.ensures.reads.contents revealed)

pub returns-in-Err-clause-found : goal.returns-in-Err-clause-found
returns-in-Err-clause-found g c d revealed computed is = (sym c.get.ensures ∙ c.if-get.false, inl (c.add_equation.ensures.found d revealed computed (c.in-Err.is ∙ is)))

pub returns-in-Err-clause-clash : goal.returns-in-Err-clause-clash
returns-in-Err-clause-clash g c d revealed computed is reveals known first all =
    absurd (read_never g.D.Disk.reveals c.args.ledger.now (is_marked c.args.marks.now) (g.D.Disk.state c.args.disk.now).files c.args.step.block d (c.args.step.by ∷ []) revealed computed reveals c.requires.block c.requires.gives (c.add_equation.ensures.found d revealed computed (c.in-Err.is ∙ is)) all.intact)

pub returns-in-Err-clause-writes : goal.returns-in-Err-clause-writes
returns-in-Err-clause-writes g c =
    cells_read c.homes_are_on_its_sites.ensures g.D.Disk.reveals (c.add_equation.result ≡ Err DiskFault) _ c.args.ledger.now.shape c.args.ledger.now.lattice.n (λ a. a ≢ c.args.step.block) (g.D.Disk.state c.args.disk.now) (g.D.Disk.state c.add_equation.new.disk) (λ is. c.in-Err.is ∙ is) (λ is. sym c.in-Err.is ∙ is) c.add_equation.ensures.reads

pub returns-clause-way : goal.returns-clause-way
returns-clause-way g c fine revealed =
    read_then_goes c.args.ledger.now (is_marked c.args.marks.now) (is_marked c.write_block.new.marks) (g.D.Disk.state c.args.disk.now).files (g.D.Disk.state c.add_equation.new.disk).files (g.D.Disk.state c.write_block.new.disk).files
    (c.add_equation.ensures.reads.contents revealed) (c.write_block.ensures.way fine revealed)

pub returns-clause-torn : goal.returns-clause-torn
returns-clause-torn g c is revealed =
    read_then_torn c.args.ledger.now (is_marked c.args.marks.now) (is_marked c.write_block.new.marks) c.args.step.block (g.D.Disk.state c.args.disk.now).files (g.D.Disk.state c.add_equation.new.disk).files (g.D.Disk.state c.write_block.new.disk).files
    (c.add_equation.ensures.reads.contents revealed) (c.write_block.ensures.torn is revealed)

pub returns-clause-judged : goal.returns-clause-judged
returns-clause-judged g c =
    let v = c.args.ledger.now in
    let zeros : c.clear.new.sum ≡ replicate c.args.ledger.now.shape.block 0 = c.clear.ensures ∙ ap (λ n. replicate n 0) c.requires.sum in
    on_ok_weaker c.write_block.result
    (λ digest unmarked. computed_one g.D.Disk.reveals v (g.D.Disk.state c.args.disk.now).files (is_marked c.args.marks.now) c.args.step.block (c.args.step.by ∷ []) c.clear.new.sum c.add_equation.new.sum zeros c.in-Ok.ensures.judged digest)
    c.write_block.ensures.digest

pub returns-clause-found : goal.returns-clause-found
returns-clause-found g c d revealed computed is =
    let v = c.args.ledger.now in
    let zeros : c.clear.new.sum ≡ replicate c.args.ledger.now.shape.block 0 = c.clear.ensures ∙ ap (λ n. replicate n 0) c.requires.sum in
    let clash = c.write_block.ensures.clash d revealed computed is in (
      sym c.get.ensures ∙ c.if-get.false,
      inr (clash.0, computed_clash g.D.Disk.reveals v (g.D.Disk.state c.args.disk.now).files (is_marked c.args.marks.now) c.args.step.block (c.args.step.by ∷ []) c.clear.new.sum c.add_equation.new.sum revealed computed zeros c.in-Ok.ensures.judged clash.1.0 clash.1.1),
    )

pub returns-clause-drawn : goal.returns-clause-drawn
returns-clause-drawn g c revealed =
    let v = c.args.ledger.now in
    let zeros : c.clear.new.sum ≡ replicate c.args.ledger.now.shape.block 0 = c.clear.ensures ∙ ap (λ n. replicate n 0) c.requires.sum in
    added_stays v (is_marked c.args.marks.now) (is_marked c.write_block.new.marks) (g.D.Disk.state c.args.disk.now).files (g.D.Disk.state c.add_equation.new.disk).files (g.D.Disk.state c.write_block.new.disk).files
    c.args.step.block (c.args.step.by ∷ []) c.clear.new.sum c.add_equation.new.sum c.requires.block c.requires.gives zeros (c.add_equation.ensures.reads.contents revealed)
    (judged_added g.D.Disk.reveals v (is_marked c.args.marks.now) (g.D.Disk.state c.args.disk.now).files c.args.step.block (c.args.step.by ∷ []) c.clear.new.sum c.add_equation.new.sum revealed c.requires.block c.requires.gives c.in-Ok.ensures.judged) (c.write_block.ensures.drawn revealed)

pub returns-clause-other : goal.returns-clause-other
returns-clause-other g c d revealed computed is =
    let clash = c.write_block.ensures.clash d revealed computed is in
    subst (λ (a : BlockId). IsOtherDigest c.args.ledger.now a revealed computed) (sym clash.0) clash.1.0

pub returns-clause-clash : goal.returns-clause-clash
returns-clause-clash g c d revealed computed is reveals known first all =
    let v = c.args.ledger.now in
    let zeros : c.clear.new.sum ≡ replicate c.args.ledger.now.shape.block 0 = c.clear.ensures ∙ ap (λ n. replicate n 0) c.requires.sum in
    let clash = c.write_block.ensures.clash d revealed computed is in
    added_clash v known (is_marked c.args.marks.now) first (g.D.Disk.state c.args.disk.now).files c.args.step.block d (c.args.step.by ∷ []) c.clear.new.sum c.add_equation.new.sum revealed computed c.requires.block c.requires.gives zeros
    (judged_added g.D.Disk.reveals v (is_marked c.args.marks.now) (g.D.Disk.state c.args.disk.now).files c.args.step.block (c.args.step.by ∷ []) c.clear.new.sum c.add_equation.new.sum reveals c.requires.block c.requires.gives c.in-Ok.ensures.judged) all clash.0 clash.1.0 clash.1.1

pub returns-clause-writes : goal.returns-clause-writes
returns-clause-writes g c =
    read_then_cells c.homes_are_on_its_sites.ensures g.D.Disk.reveals (c.add_equation.result ≡ Err DiskFault) (c.write_block.result ≡ Err DiskFault) c.args.ledger.now.shape c.args.ledger.now.lattice.n (λ a. a ≢ c.args.step.block) (g.D.Disk.state c.args.disk.now) (g.D.Disk.state c.add_equation.new.disk) (g.D.Disk.state c.write_block.new.disk)
    (λ is. absurd (let e = sym c.in-Ok.is ∙ is in cc)) c.add_equation.ensures.reads c.write_block.ensures.writes
