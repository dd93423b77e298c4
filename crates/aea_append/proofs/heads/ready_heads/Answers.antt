use Rattle.std.proofs.Common.{Option, Some, refl, sym, ◌∙◌, ap, subst}
use Rattle.std.specs.Prelude.{IsErr}
use Rattle.aea_lattice.specs.declared.blocks.BlockId.{BlockId}
use Rattle.aea_disk.proofs.Stays.{earlier_none}
use Rattle.aea_disk.proofs.Frames.{ok_fine, reads_none, reads_as}
use Rattle.aea_weave.specs.Stored.{all_strands}
use Rattle.aea_archive.specs.Lasts.{IsLastParity, IsFirstDamagedLast}
use Rattle.aea_append.specs.Loading.{HasLoaded}
use Rattle.aea_append.proofs.Starts.{woven_start, intact_start, first_damaged, same_head}
use Rattle.aea_append.proofs.heads.ready_heads.Goals as goal

pub returns-in-Err-clause-earlier : goal.returns-in-Err-clause-earlier
returns-in-Err-clause-earlier g c = earlier_none (g.D.Disk.state c.args.disk.now)

pub returns-in-Err-clause-reads : goal.returns-in-Err-clause-reads
returns-in-Err-clause-reads g c = reads_as g.D.Disk.reveals ⊥ _ (g.D.Disk.state c.args.disk.now) (g.D.Disk.state c.args.disk.now) (λ is. absurd (let e = is in cc)) (λ none. absurd none) (reads_none g.D.Disk.reveals ⊥ (g.D.Disk.state c.args.disk.now) (λ none. none))

pub returns-in-Ok-None-clause-reads : goal.returns-in-Ok-None-clause-reads
returns-in-Ok-None-clause-reads g c = reads_as g.D.Disk.reveals _ _ (g.D.Disk.state c.args.disk.now) (g.D.Disk.state c.load_strands.new.disk) (λ is. absurd (let e = is in cc)) (λ is. absurd (ok_fine c.in-Ok-None.is is)) c.load_strands.ensures.reads

pub returns-in-Ok-Some-clause-reads : goal.returns-in-Ok-Some-clause-reads
returns-in-Ok-Some-clause-reads g c = reads_as g.D.Disk.reveals _ _ (g.D.Disk.state c.args.disk.now) (g.D.Disk.state c.load_strands.new.disk) (λ is. absurd (let e = is in cc)) (λ is. absurd (ok_fine c.in-Ok-Some.is is)) c.load_strands.ensures.reads

pub returns-in-Err-load_strands-clause-reads : goal.returns-in-Err-load_strands-clause-reads
returns-in-Err-load_strands-clause-reads g c = reads_as g.D.Disk.reveals (IsErr c.load_strands.result) _ (g.D.Disk.state c.args.disk.now) (g.D.Disk.state c.load_strands.new.disk) (λ is. subst IsErr (sym c.in-Err-load_strands.is) refl) (λ _. refl) c.load_strands.ensures.reads

pub returns-in-Ok-None-clause-woven : goal.returns-in-Ok-None-clause-woven
returns-in-Ok-None-clause-woven g c =
    let v = c.args.ledger.now in
    let files = (g.D.Disk.state c.args.disk.now).files in
    woven_start g.D.Disk.reveals v files (g.D.Disk.state c.load_strands.new.disk).files c.load_strands.new.heads
    (subst (λ (f : Option BlockId). HasLoaded g.D.Disk.reveals v files c.load_strands.new.heads (all_strands v.lattice) f) c.in-Ok-None.field-0-is c.in-Ok-None.ensures.loaded)

pub returns-in-Ok-None-clause-intact : goal.returns-in-Ok-None-clause-intact
returns-in-Ok-None-clause-intact g c =
    let v = c.args.ledger.now in
    let files = (g.D.Disk.state c.args.disk.now).files in
    intact_start g.D.Disk.reveals v files c.load_strands.new.heads
    (subst (λ (f : Option BlockId). HasLoaded g.D.Disk.reveals v files c.load_strands.new.heads (all_strands v.lattice) f) c.in-Ok-None.field-0-is c.in-Ok-None.ensures.loaded)

pub returns-in-Ok-Some-clause-head : goal.returns-in-Ok-Some-clause-head
returns-in-Ok-Some-clause-head g c b is =
    let v = c.args.ledger.now in
    let files = (g.D.Disk.state c.args.disk.now).files in
    let one = first_damaged g.D.Disk.reveals v files c.load_strands.new.heads c.in-Ok-Some.block
    (subst (λ (f : Option BlockId). HasLoaded g.D.Disk.reveals v files c.load_strands.new.heads (all_strands v.lattice) f) (c.in-Ok-Some.field-0-is ∙ ap Some c.in-Ok-Some.block-is) c.in-Ok-Some.ensures.loaded) in
    subst (λ (a : BlockId). IsLastParity v.lattice a × (g.D.Disk.reveals → IsFirstDamagedLast v.shape v.lattice v.digests files a)) (same_head c.in-Ok-Some.block b is) one
